-- Tries of an input, one after another, and what they tell of its items.
use Rattle.std.proofs.Common.{◌≡◌, ℕ, zero, suc, ◌+◌, ◌<◌, inl, inr, Result, Ok, Err, IfErr, refl, subst, add-one, arith}
use Rattle.money.specs.declared.refusal.Refusal.{Refusal}
use Rattle.money.specs.declared.refusal.Refusal.TheVariants.{OutOfMemory, Stale, ItemNotValid, OrdersFull, GaveUp}
use Rattle.tables.specs.Database.{Database}
use Rattle.tables.specs.declared.input.Input.{Input}
use Rattle.cells.specs.Records.{ReaderView}
use Rattle.readset.specs.Refused.{NoneMissing, IsRefusal}
use Rattle.book.specs.Book.{BookView}
use Rattle.readset.specs.declared.work.Work.{Work}
use Rattle.terminals.specs.Calls.{AreCalls}
use Rattle.terminals.specs.Tries.{AreTriedAgain, AreTries, IsAgain, IsLastTry, IsTriedAgain, IsTry, IsTurnedAway, TellsMissing}
use Rattle.terminals.specs.Tries.{ended, uncommitted, unexecuted}
use Rattle.terminals.specs.declared.gate.Calls.{Calls}
use Rattle.terminals.specs.declared.terminal.TheConstants.{TRIES}
use Rattle.terminals.proofs.Counting.{calls_more}

-- none so far, and one more
pub tried_none : (past : ℕ) (t0 : Database) (x : Input) (reader : ReaderView) → AreTriedAgain past t0 x reader 0 reader
unfolding AreTriedAgain
tried_none past t0 x reader = refl

tried_more : (past : ℕ) (t0 : Database) (x : Input) (old between new : ReaderView) (tries : ℕ) (refusal : Refusal)
    → AreTriedAgain past t0 x old tries between → IsTriedAgain refusal → IsTry past t0 x between new refusal
    → AreTriedAgain past t0 x old (tries + 1) new
unfolding AreTriedAgain
tried_more past t0 x old between new tries refusal before again try = rw add-one (between, refusal, before, again, try)

pub tried_again : (past : ℕ) (t0 : Database) (x : Input) (old between new : ReaderView) (tries : ℕ) (r : Result ℕ Refusal)
    → AreTriedAgain past t0 x old tries between → IsAgain r → IfErr r (IsTry past t0 x between new)
    → AreTriedAgain past t0 x old (tries + 1) new
tried_again past t0 x old between new tries (Ok number) before again try = absurd again
tried_again past t0 x old between new tries (Err refusal) before again try = tried_more past t0 x old between new tries refusal before again try

-- the last one
last_of : (past : ℕ) (t0 : Database) (x : Input) (old new : ReaderView) (r : Result ℕ Refusal) → ¬ IsAgain r → IfErr r (IsTry past t0 x old new)
    → IsLastTry past t0 x old new r
last_of past t0 x old new (Ok number) final try = tt
last_of past t0 x old new (Err refusal) final try = (final, try)

-- what a refused execution tells of the items, and a work that is turned away, of whose input none is missing
refused_missing : (t0 : Database) (x : Input) (old new : ReaderView) (refusal : Refusal)
    → IsRefusal t0 x old new refusal → TellsMissing t0 x (Err refusal)
refused_missing t0 x old new OutOfMemory refused = tt
refused_missing t0 x old new (ItemNotValid item) refused = refused
refused_missing t0 x old new OrdersFull refused = refused.0
refused_missing t0 x old new Stale refused = refused.0
refused_missing t0 x old new _ refused = absurd refused

turned_missing : (past : ℕ) (t0 : Database) (x : Input) (book : BookView) (work : Work) (refusal : Refusal)
    → NoneMissing t0 x → IsTurnedAway past t0 book work refusal → TellsMissing t0 x (Err refusal)
turned_missing past t0 x book work OutOfMemory none away = tt
turned_missing past t0 x book work (ItemNotValid item) none away = absurd away
turned_missing past t0 x book work _ none away = none

pub missing_of : (past : ℕ) (t0 : Database) (x : Input) (old new : ReaderView) (refusal : Refusal)
    → IsTry past t0 x old new refusal → TellsMissing t0 x (Err refusal)
missing_of past t0 x old new refusal (unexecuted executed) = refused_missing t0 x old new refusal executed.refused
missing_of past t0 x old new refusal (uncommitted read work book executed grown sound away) =
    turned_missing past t0 x book work refusal executed.none_missing away

-- of an input that is to be tried again, none is missing
none_again : (t0 : Database) (x : Input) (refusal : Refusal) → IsTriedAgain refusal → TellsMissing t0 x (Err refusal) → NoneMissing t0 x
none_again t0 x refusal (inl stale) told = subst (λ (r : Refusal). TellsMissing t0 x (Err r)) stale told
none_again t0 x refusal (inr conflict) told = subst (λ (r : Refusal). TellsMissing t0 x (Err r)) conflict told

pub none_missing_of : (past : ℕ) (t0 : Database) (x : Input) (old new : ReaderView) (tries : ℕ) → 0 < tries
    → AreTriedAgain past t0 x old tries new → NoneMissing t0 x
unfolding AreTriedAgain
none_missing_of past t0 x old new zero some tried = absurd (omega (arith, some))
none_missing_of past t0 x old new (suc tries) some (between, refusal, before, again, try) =
    none_again t0 x refusal again (missing_of past t0 x between new refusal try)

-- an input's tries, of which this is the last
pub tries_of : (past : ℕ) (t0 : Database) (x asked : Input) → x ≡ asked → (old between new : ReaderView) (tries : ℕ) (r : Result ℕ Refusal)
    (first before after : Calls) → tries < TRIES → AreTriedAgain past t0 x old tries between → ¬ IsAgain r → IfErr r (IsTry past t0 x between new)
    → AreCalls tries (Err GaveUp) first before → AreCalls 1 r before after
    → (n : ℕ) × AreTries past t0 asked old new n r × AreCalls n r first after
tries_of past t0 x asked is old between new tries r first before after few tried final try calls last =
    subst (λ (y : Input). (n : ℕ) × AreTries past t0 y old new n r × AreCalls n r first after) is
    (tries + 1, ended tries between refl (omega (arith, few)) tried (last_of past t0 x between new r final try), calls_more tries GaveUp r first before after calls last)
