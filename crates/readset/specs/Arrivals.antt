-- Entries by record number as they came, and the order of their numbers.
use Rattle.std.specs.Prelude.{ℕ, ◌<◌, All, List, [], ◌∷◌, map, get_or, length}
use Rattle.std.specs.Ordering.{nat_cmp}
use Rattle.std.specs.Map.{keys_of}
use Rattle.std.specs.List.Sorted.{IsStrictlySortedBy}

-- a number, with the value of the entry at this place
abbrev pub entry_at_place : {X : Type 0} → List (ℕ × X) → ℕ × X → ℕ × ℕ → ℕ × X
entry_at_place es d o = (o.0, (get_or es o.1 d).1)

abbrev pub all_taken : {X : Type 0} → List (ℕ × X) → List (ℕ × ℕ) → List (ℕ × X)
all_taken [] order = []
all_taken (e ∷ es) order = map (entry_at_place (e ∷ es) e) order

-- the entries in the order of their numbers: those at the places that this list has by number, or as they came where it
-- has none
abbrev pub in_order : {X : Type 0} → List (ℕ × X) → List (ℕ × ℕ) → List (ℕ × X)
in_order es [] = es
in_order es (o ∷ order) = all_taken es (o ∷ order)

-- so they stand in the order of their numbers
pub record AreArrivals {X : Type 0} (es : List (ℕ × X)) (order : List (ℕ × ℕ)) : Type 0 where
  pub sorted : IsStrictlySortedBy nat_cmp (keys_of (in_order es order))
  pub places : All (λ o. o.1 < length es) order
