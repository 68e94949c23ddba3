-- What log files have of a history, by what counts in them (Silo, section 4.10).
use Rattle.std.specs.Prelude.{ℕ, zero, suc, List, [], ◌∷◌}
use Rattle.log_text.specs.Bodies.{BodyView}
use Rattle.book.specs.declared.entry.Entry.{Entry}
use Rattle.recover_found.specs.Found.{keeps}
use Rattle.recover_crashes.specs.Recovering.{cut}

-- what recovery keeps of a history
abbrev pub durable_cut : List (List BodyView) → List Entry → List Entry
durable_cut files history = cut (keeps files) history

-- the first values of a function, as a list: files by the loggers' numbers, in their order
abbrev pub listed : {X : Type 0} → ℕ → (ℕ → X) → List X
listed zero f = []
listed (suc n) f = f zero ∷ listed n (λ l. f (suc l))
