-- When a text and a reader belong together.
use Rattle.std.specs.Prelude.{◌≡◌, ℕ, List, ◌++◌, Some}
use Rattle.log_codec.specs.Numbers.{Reader, IsBytes}

-- what the reader takes from the front of bytes is the text of the value that it gives, one that fits; and it gives
-- each value that fits again, with what stands behind its text
pub record IsCodec {X : Type 0} (text : X → List ℕ) (read : Reader X) (Fits : X → Type 0) : Type 0 where
  pub takes : (bytes : List ℕ) (x : X × List ℕ) → IsBytes bytes → read bytes ≡ Some x
      → (bytes ≡ text x.0 ++ x.1) × Fits x.0
  pub again : (x : X) (rest : List ℕ) → Fits x → read (text x ++ rest) ≡ Some (x, rest)
