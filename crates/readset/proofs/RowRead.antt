-- What a record's words say of the tables' rows, where a row is read exactly of them.
use Rattle.std.proofs.Common.{◌≡◌, Option, Some, None, List, ℕ, refl, sym, ◌∙◌}
use Rattle.std.specs.Option.{option_map}
use Rattle.std.proofs.lemmas.Option.{none-some, same_Some}
use Rattle.rows.specs.Reading.{IsReading}

-- no tables have a row of these words where none was read
pub no_row : {X : Type 0} (Are : X → Type 0) (words_of : X → List ℕ) (ws : List ℕ) (result : Option X) → IsReading Are words_of ws result
    → result ≡ None → (row : Option X) → ((r : X) → row ≡ Some r → Are r) → Some ws ≡ option_map words_of row → ⊥
no_row Are words_of ws result reading none None within is = none-some ws (sym is)
no_row Are words_of ws result reading none (Some r) within is =
    none-some r (sym none ∙ reading.each r (within r refl) (same_Some ws (words_of r) is))
