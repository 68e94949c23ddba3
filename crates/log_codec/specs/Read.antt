-- Readers made of readers.
use Rattle.std.specs.Prelude.{ℕ, zero, suc, List, [], ◌∷◌, Option, Some, None}
use Rattle.std.specs.Option.{option_map, option_and_then}
use Rattle.log_codec.specs.Numbers.{Reader}

-- a value, and behind it one that is read by what the first is
unfoldable pub both : {A B : Type 0} → Reader A → (A → Reader B) → Reader (A × B)
both first next bytes =
    option_and_then (λ a. option_map (λ b. ((a.0, b.0), b.1)) (next a.0 a.1)) (first bytes)

-- a value that the choice takes, as it makes it of what is read, and none where it takes none
unfoldable pub chosen : {A B : Type 0} → (A → Option B) → Reader A → Reader B
chosen choice read bytes = option_and_then (λ a. option_map (λ b. (b, a.1)) (choice a.0)) (read bytes)

-- so many values, one behind the other
unfoldable pub many : {A : Type 0} → ℕ → Reader A → Reader (List A)
many zero read bytes = Some ([], bytes)
many (suc n) read bytes =
    option_and_then (λ a. option_map (λ others. (a.0 ∷ others.0, others.1)) (many n read a.1)) (read bytes)

-- values one behind the other up to the last byte; None where what is left begins with no value, or where bytes are
-- left after so many values. Where each value has a byte, the number of bytes is enough
unfoldable pub filled : {A : Type 0} → Reader A → List ℕ → ℕ → Option (List A)
filled read [] n = Some []
filled read (b ∷ bs) zero = None
filled read (b ∷ bs) (suc n) =
    option_and_then (λ a. option_map (λ others. a.0 ∷ others) (filled read a.1 n)) (read (b ∷ bs))
