-- What a seat's steps say of the words, where they still stand.
use Rattle.std.proofs.Common.{ℕ, ◌+◌, ◌<◌, ◌≤◌, max, List, [], ◌∷◌, arith}
use Rattle.std.specs.Prelude.{slice_index}
use Rattle.board.specs.declared.rule.WordStep.{WordStep}
use Rattle.board.specs.declared.rule.WordStep.TheVariants.{LoadEpoch, AddEpoch, CountCommit, StoreFloor, StoreMark, LoadMark, RaiseDurable, LoadDurable}
use Rattle.board.specs.Words.{floor_in, epoch_in, durable_in}
use Rattle.board.specs.Steps.{known_epoch, seen_durable, HasFloorsUpTo, StillStands, AllStand}

-- no word has fallen
abbrev pub Rise : List ℕ → List ℕ → Type 0
Rise words after = (i : ℕ) → slice_index words i ≤ slice_index after i

stands_later : (words after : List ℕ) → Rise words after → (step : WordStep) → StillStands words step → StillStands after step
stands_later words after rise (LoadEpoch n) h = omega (arith, rise 16)
stands_later words after rise (AddEpoch n) h = omega (arith, rise 16)
stands_later words after rise (CountCommit n) h = omega (arith, rise 16)
stands_later words after rise (StoreFloor l n) h = let f = h.1 in (h.0, omega (arith, rise (8 + l)))
stands_later words after rise (StoreMark l n) h = omega (arith, rise l)
stands_later words after rise (LoadMark l n) h = omega (arith, rise l)
stands_later words after rise (RaiseDurable n) h = omega (arith, rise 18)
stands_later words after rise (LoadDurable n) h = omega (arith, rise 18)

pub all_later : (words after : List ℕ) → Rise words after → (steps : List WordStep) → AllStand words steps → AllStand after steps
all_later words after rise [] h = tt
all_later words after rise (step ∷ steps) h = (stands_later words after rise step h.0, all_later words after rise steps h.1)

-- E is at least the last E that the seat knows
pub known_stands : (base : ℕ) (words : List ℕ) (steps : List WordStep) → base < epoch_in words → AllStand words steps → known_epoch base steps ≤ epoch_in words
known_stands base words [] low h = omega arith
known_stands base words (LoadEpoch n ∷ steps) low h = h.0
known_stands base words (AddEpoch n ∷ steps) low h = h.0
known_stands base words (CountCommit n ∷ steps) low h = known_stands base words steps low h.1
known_stands base words (StoreFloor l n ∷ steps) low h = known_stands base words steps low h.1
known_stands base words (StoreMark l n ∷ steps) low h = known_stands base words steps low h.1
known_stands base words (LoadMark l n ∷ steps) low h = known_stands base words steps low h.1
known_stands base words (RaiseDurable n ∷ steps) low h = known_stands base words steps low h.1
known_stands base words (LoadDurable n ∷ steps) low h = known_stands base words steps low h.1

at_most : (a b c : ℕ) → a ≤ c → b ≤ c → max a b ≤ c
at_most a b c x y = omega arith

-- D is at least what the seat has seen of it
pub durable_stands : (base : ℕ) (words : List ℕ) (steps : List WordStep) → base ≤ durable_in words → AllStand words steps
    → seen_durable base steps ≤ durable_in words
durable_stands base words [] low h = low
durable_stands base words (LoadEpoch n ∷ steps) low h = durable_stands base words steps low h.1
durable_stands base words (AddEpoch n ∷ steps) low h = durable_stands base words steps low h.1
durable_stands base words (CountCommit n ∷ steps) low h = durable_stands base words steps low h.1
durable_stands base words (StoreFloor l n ∷ steps) low h = durable_stands base words steps low h.1
durable_stands base words (StoreMark l n ∷ steps) low h = durable_stands base words steps low h.1
durable_stands base words (LoadMark l n ∷ steps) low h = durable_stands base words steps low h.1
durable_stands base words (RaiseDurable n ∷ steps) low h = at_most n (seen_durable base steps) (durable_in words) h.0 (durable_stands base words steps low h.1)
durable_stands base words (LoadDurable n ∷ steps) low h = at_most n (seen_durable base steps) (durable_in words) h.0 (durable_stands base words steps low h.1)

-- no floor was stored above an epoch where no floor is above it now
pub floors_up_to : (epoch : ℕ) (words : List ℕ) (steps : List WordStep) → ((l : ℕ) → l < 8 → floor_in words l ≤ epoch) → AllStand words steps
    → HasFloorsUpTo epoch steps
floors_up_to epoch words [] low h = tt
floors_up_to epoch words (LoadEpoch n ∷ steps) low h = floors_up_to epoch words steps low h.1
floors_up_to epoch words (AddEpoch n ∷ steps) low h = floors_up_to epoch words steps low h.1
floors_up_to epoch words (CountCommit n ∷ steps) low h = floors_up_to epoch words steps low h.1
floors_up_to epoch words (StoreFloor l n ∷ steps) low h =
    let stands = h.0.1 in let here = low l h.0.0 in (omega arith, floors_up_to epoch words steps low h.1)
floors_up_to epoch words (StoreMark l n ∷ steps) low h = floors_up_to epoch words steps low h.1
floors_up_to epoch words (LoadMark l n ∷ steps) low h = floors_up_to epoch words steps low h.1
floors_up_to epoch words (RaiseDurable n ∷ steps) low h = floors_up_to epoch words steps low h.1
floors_up_to epoch words (LoadDurable n ∷ steps) low h = floors_up_to epoch words steps low h.1
