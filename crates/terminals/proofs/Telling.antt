-- What a terminal keeps of its replies, as they are held, released and forgotten.
use Rattle.std.proofs.Common.{◌≡◌, ℕ, ◌+◌, ◌≤◌, max, Bool, true, false, cond, suc, List, [], length, take, ◌∷◌, ◌++◌, All, refl, sym, ap, ◌∙◌, subst, arith}
use Rattle.std.specs.List.{Contains, prefix_len}
use Rattle.std.proofs.lemmas.Bool.{leb-true}
use Rattle.std.proofs.lemmas.List.Elements.{All-nil, All-cons, All-head, All-tail, All-append, All-weaker, All-push, Contains-append_left, Contains-append_right}
use Rattle.annals.specs.Passes.{AnnalsView, PassView}
use Rattle.annals.specs.Rule.{last_alone}
use Rattle.annals.proofs.Moves.{last_alone_push}
use Rattle.cells.specs.Records.{ReaderView}
use Rattle.readset.specs.declared.work.Work.{Work}
use Rattle.tables.specs.Database.{Database}
use Rattle.board.specs.Seats.{SeatView}
use Rattle.board.specs.Steps.{seen_durable}
use Rattle.tidword.specs.TidWord.{epoch_of}
use Rattle.book.specs.Book.{BookView, entry_of}
use Rattle.book.specs.Committing.{CommitsWork}
use Rattle.book.specs.Done.{Done}
use Rattle.book.specs.Share.{ShareView}
use Rattle.book.specs.declared.entry.Entry.{Entry}
use Rattle.terminals.specs.Outbox.{OutboxView, Acknowledges, front, is_up_to}
use Rattle.terminals.specs.Telling.{IsCited, IsReleased, KeepsReplies, TellsOf}

tells_left : (few more : List Entry) (done : Done) → TellsOf few done → TellsOf (few ++ more) done
tells_left few more done tells = record { entry = tells.entry; among = Contains-append_left few more tells.entry tells.among; told = tells.told }

tells_right : (few more : List Entry) (done : Done) → TellsOf more done → TellsOf (few ++ more) done
tells_right few more done tells = record { entry = tells.entry; among = Contains-append_right few more tells.entry tells.among; told = tells.told }

-- the commit that was made last is cited
pub cited_last : {past : ℕ} {t0 : Database} {old new : BookView} {before after : ShareView} {reader : ReaderView} {work : Work} {done : Done}
    → CommitsWork past t0 old new before after reader work done → (annals : AnnalsView) (pass : PassView Entry)
    → pass ≡ record { table = annals.table; claim = record { front = []; mark = 0; has = last_alone new.history } }
    → IsCited annals done pass
cited_last {past} {old = old} {before = before} {work = work} {done = done} is annals pass cited =
    let entry : Entry = entry_of (past + length old.history + 1) done.tid before.terminal work in
    let has : pass.claim.has ≡ entry ∷ [] = ap (λ (p : PassView Entry). p.claim.has) cited ∙ ap last_alone is.commits.history
    ∙ last_alone_push old.history entry in
    record {
      own = ap (λ (p : PassView Entry). p.table) cited;
      tells = record {
        entry = entry;
        among = subst (λ l. Contains l entry) (sym has) (0, omega arith, refl);
        told = λ i. record { number = is.number i; tid = done.tid; reply = is.reply i };
      };
    }

-- no replies
pub keeps_none : (entries : List Entry) (outbox : OutboxView) → outbox.released ≡ [] → outbox.waiting ≡ [] → KeepsReplies entries outbox
keeps_none entries outbox released waiting = record {
  waiting = subst (All (TellsOf entries)) (sym waiting) (All-nil (TellsOf entries));
  released = subst (All (IsReleased entries outbox)) (sym released) (All-nil (IsReleased entries outbox));
}

-- the same replies, at the same seat
pub keeps_same : (entries : List Entry) (old new : OutboxView) → new.seat ≡ old.seat → new.released ≡ old.released → new.waiting ≡ old.waiting
    → KeepsReplies entries old → KeepsReplies entries new
keeps_same entries old new seat released waiting keeps = record {
  waiting = subst (All (TellsOf entries)) (sym waiting) keeps.waiting;
  released = subst (All (IsReleased entries new)) (sym released)
      (All-weaker (IsReleased entries old) (IsReleased entries new) (λ done is. record {
        tells = is.tells;
        durable = subst (λ (s : SeatView). epoch_of done.tid ≤ seen_durable s.board.plan.base s.steps) (sym seat) is.durable;
      }) old.released keeps.released);
}

-- one reply more, whose entry comes to the others
pub keeps_held : (entries cited : List Entry) (old new : OutboxView) (done : Done) → new.seat ≡ old.seat → new.released ≡ old.released
    → new.waiting ≡ old.waiting ++ done ∷ [] → TellsOf cited done → KeepsReplies entries old → KeepsReplies (entries ++ cited) new
keeps_held entries cited old new done seat released waiting tells keeps = record {
  waiting = subst (All (TellsOf (entries ++ cited))) (sym waiting) (All-push (TellsOf (entries ++ cited)) old.waiting done
      (All-weaker (TellsOf entries) (TellsOf (entries ++ cited)) (tells_left entries cited) old.waiting keeps.waiting)
      (tells_right entries cited done tells));
  released = subst (All (IsReleased (entries ++ cited) new)) (sym released)
      (All-weaker (IsReleased entries old) (IsReleased (entries ++ cited) new) (λ d is. record {
        tells = tells_left entries cited d is.tells;
        durable = subst (λ (s : SeatView). epoch_of d.tid ≤ seen_durable s.board.plan.base s.steps) (sym seat) is.durable;
      }) old.released keeps.released);
}

-- those in front are up to the epoch
abbrev IsEarly : List Entry → ℕ → Done → Type 0
IsEarly entries epoch done = TellsOf entries done × (epoch_of done.tid ≤ epoch)

all_up_to : (entries : List Entry) (epoch : ℕ) (replies : List Done) → All (TellsOf entries) replies
    → All (IsEarly entries epoch) (front epoch replies)
all_up_to entries epoch [] all = All-nil (IsEarly entries epoch)
all_up_to entries epoch (d ∷ ds) all =
    by (is_up_to epoch d) refl (all_up_to entries epoch ds (All-tail (TellsOf entries) d ds all))
  where
    by : (b : Bool) → is_up_to epoch d ≡ b → All (IsEarly entries epoch) (front epoch ds)
        → All (IsEarly entries epoch) (take (cond b (1 + prefix_len (is_up_to epoch) ds) 0) (d ∷ ds))
    by true is rest =
        let one : suc (prefix_len (is_up_to epoch) ds) ≡ 1 + prefix_len (is_up_to epoch) ds = omega arith in
        subst (λ n. All (IsEarly entries epoch) (take n (d ∷ ds))) one
        (All-cons (IsEarly entries epoch) d (front epoch ds) (All-head (TellsOf entries) d ds all, leb-true (epoch_of d.tid) epoch is) rest)
    by false is rest = All-nil (IsEarly entries epoch)

all_behind : {X : Type 0} (P : X → Type 0) (xs ys : List X) → All P (xs ++ ys) → All P ys
all_behind P [] ys all = all
all_behind P (x ∷ xs) ys all = all_behind P xs ys (All-tail P x (xs ++ ys) all)

-- the front that is durable is released
pub keeps_acknowledged : (entries : List Entry) (old new : OutboxView) (count : ℕ) → Acknowledges old count new → KeepsReplies entries old
    → KeepsReplies entries new
keeps_acknowledged entries old new count is keeps =
    let base = old.seat.board.plan.base in
    let seen : seen_durable new.seat.board.plan.base new.seat.steps ≡ max is.durable (seen_durable base old.seat.steps)
    = ap (λ (s : SeatView). seen_durable s.board.plan.base s.steps) is.load in
    record {
      waiting = all_behind (TellsOf entries) (front is.durable old.waiting) new.waiting (subst (All (TellsOf entries)) is.rest keeps.waiting);
      released = subst (All (IsReleased entries new)) (sym is.released) (All-append (IsReleased entries new) old.released (front is.durable old.waiting)
          (All-weaker (IsReleased entries old) (IsReleased entries new) (λ d was. record {
            tells = was.tells;
            durable = (let low = was.durable in omega arith);
          }) old.released keeps.released)
          (All-weaker (IsEarly entries is.durable) (IsReleased entries new) (λ d t. record {
            tells = t.0;
            durable = (let low = t.1 in omega arith);
          }) (front is.durable old.waiting) (all_up_to entries is.durable old.waiting keeps.waiting)));
    }
