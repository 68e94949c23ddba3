-- A column of the row whose columns were found, and the row that was read.
use Rattle.std.proofs.Common.{◌≡◌, ℕ, List, Option, Some, None, refl, sym, ap}
use Rattle.std.specs.Option.{option_map, option_map_or}
use Rattle.std.proofs.lemmas.Option.{none-some, same_Some}
use Rattle.rows.specs.Reading.{IsReading}

module _ {X C : Type 0} (f : X → C) where
  pub column_read : {Y : Type 0} (g : C → Y) (none : Y) (row : Option X) (c : C) → option_map f row ≡ Some c
      → option_map_or (λ r. g (f r)) row none ≡ g c
  column_read g none None c is = absurd (none-some c is)
  column_read g none (Some r) c is = ap g (same_Some (f r) c is)

-- what was read of a row's words is this row
pub row_read : {X : Type 0} (Are : X → Type 0) (words_of : X → List ℕ) (words : List ℕ) (result : Option X) → IsReading Are words_of words result
    → (row : Option X) → ((r : X) → row ≡ Some r → Are r) → Some words ≡ option_map words_of row → row ≡ result
row_read Are words_of words result reading None within is = absurd (none-some words (sym is))
row_read Are words_of words result reading (Some r) within is = sym (reading.each r (within r refl) (same_Some words (words_of r) is))
