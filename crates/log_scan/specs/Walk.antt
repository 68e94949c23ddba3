-- Going from one gate to the next.
use Rattle.std.specs.Prelude.{◌≡◌, ℕ, ◌+◌, ◌^◌, ◌<◌, ◌≤◌, List, ◌∷◌, ◌++◌, length}
use Rattle.log_codec.specs.Numbers.{number}
use Rattle.log_scan.specs.Text.{BeginsAsFile}
use Rattle.log_scan.specs.declared.reading.TheConstants.{HEADER_BYTES, SHORTEST}

-- bytes begin with an open gate, and the length behind it says that the next gate is so far from it
pub record LeadsOn (bytes : List ℕ) (step : ℕ) : Type 0 where
  pub size : ℕ
  pub more : List ℕ
  pub bytes_are : bytes ≡ 1 ∷ (number 8 size ++ more)
  pub is_number : size < 256 ^ 8
  pub is_long : SHORTEST ≤ size
  pub step_is : step ≡ 8 + size

-- from gate to gate by the lengths, one comes to this place
pub record IsWalked (bytes : List ℕ) (gate : ℕ) : Type 0 where
  pub begins : BeginsAsFile bytes
  pub place : gate + length begins.left ≡ length bytes
