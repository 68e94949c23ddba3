-- What a seat knows of its role's own words, as these words and the others change.
use Rattle.std.proofs.Common.{◌≡◌, ◌≢◌, ℕ, ◌+◌, ◌<◌, ◌≤◌, List, ◌∷◌, set, refl, ◌∙◌, arith}
use Rattle.std.proofs.lemmas.List.{get_or-set_other}
use Rattle.board.specs.declared.rule.Plan.{Plan}
use Rattle.board.specs.declared.rule.Role.{Role}
use Rattle.board.specs.declared.rule.Role.TheVariants.{Terminal, Book, Clock, Logger, Gone}
use Rattle.board.specs.declared.rule.WordStep.{WordStep}
use Rattle.board.specs.declared.rule.WordStep.TheVariants.{LoadEpoch, LoadMark, RaiseDurable, LoadDurable}
use Rattle.board.specs.Words.{floor_in, epoch_in}
use Rattle.board.specs.Rule.{KnowsOwn, role_number}

-- terminals have no word of their own
pub none_own : (plan : Plan) (words : List ℕ) (r : Role) (steps : List WordStep) → role_number r ≡ 0 → KnowsOwn plan words r steps
none_own plan words Terminal steps e = tt
none_own plan words Gone steps e = tt
none_own plan words Book steps e = absurd (omega arith)
none_own plan words Clock steps e = absurd (omega arith)
none_own plan words (Logger l) steps e = absurd (omega arith)

-- a word that isn't this role's
abbrev pub IsElsewhere : Plan → ℕ → Role → Type 0
IsElsewhere plan i Terminal = Unit {0}
IsElsewhere plan i Gone = Unit {0}
IsElsewhere plan i Book = (17 ≢ i) × ((l : ℕ) → l < 8 → 8 + l ≢ i)
IsElsewhere plan i Clock = 16 ≢ i
IsElsewhere plan i (Logger l) = l < plan.loggers → l ≢ i

-- a change of another word
pub owns_still : (plan : Plan) (words : List ℕ) (i n : ℕ) (r : Role) (steps : List WordStep) → IsElsewhere plan i r → KnowsOwn plan words r steps
    → KnowsOwn plan (set words i n) r steps
owns_still plan words i n Terminal steps apart h = tt
owns_still plan words i n Gone steps apart h = tt
owns_still plan words i n Book steps apart h = (
  get_or-set_other words i 17 n 0 apart.0 ∙ h.0,
  λ l low. let same = get_or-set_other words i (8 + l) n 0 (apart.1 l low) in let was = h.1 l low in omega arith,
)
owns_still plan words i n Clock steps apart h = get_or-set_other words i 16 n 0 apart ∙ h
owns_still plan words i n (Logger l) steps apart h = (h.0, get_or-set_other words i l n 0 (apart h.0) ∙ h.1)

-- a load, or a raise of D
pub owns_epoch : (plan : Plan) (words : List ℕ) (r : Role) (steps : List WordStep) → ((l : ℕ) → l < 8 → floor_in words l ≤ epoch_in words)
    → KnowsOwn plan words r steps → KnowsOwn plan words r (LoadEpoch (epoch_in words) ∷ steps)
owns_epoch plan words Terminal steps floors h = tt
owns_epoch plan words Gone steps floors h = tt
owns_epoch plan words Book steps floors h = (h.0, floors)
owns_epoch plan words Clock steps floors h = refl
owns_epoch plan words (Logger l) steps floors h = h

pub owns_mark : (plan : Plan) (words : List ℕ) (r : Role) (steps : List WordStep) (logger mark : ℕ) → KnowsOwn plan words r steps
    → KnowsOwn plan words r (LoadMark logger mark ∷ steps)
owns_mark plan words Terminal steps logger mark h = tt
owns_mark plan words Gone steps logger mark h = tt
owns_mark plan words Book steps logger mark h = h
owns_mark plan words Clock steps logger mark h = h
owns_mark plan words (Logger l) steps logger mark h = h

pub owns_durable : (plan : Plan) (words : List ℕ) (r : Role) (steps : List WordStep) (epoch : ℕ) → KnowsOwn plan words r steps
    → KnowsOwn plan words r (LoadDurable epoch ∷ steps)
owns_durable plan words Terminal steps epoch h = tt
owns_durable plan words Gone steps epoch h = tt
owns_durable plan words Book steps epoch h = h
owns_durable plan words Clock steps epoch h = h
owns_durable plan words (Logger l) steps epoch h = h

pub owns_raise : (plan : Plan) (words : List ℕ) (r : Role) (steps : List WordStep) (epoch : ℕ) → KnowsOwn plan words r steps
    → KnowsOwn plan words r (RaiseDurable epoch ∷ steps)
owns_raise plan words Terminal steps epoch h = tt
owns_raise plan words Gone steps epoch h = tt
owns_raise plan words Book steps epoch h = h
owns_raise plan words Clock steps epoch h = h
owns_raise plan words (Logger l) steps epoch h = h
