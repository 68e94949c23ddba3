-- What reading columns in words gives.
use Rattle.std.specs.Prelude.{◌≡◌, Option, Some}

-- the only columns within their ranges that have these words, and nothing where none have them
pub record IsReading {C W : Type 0} (Are : C → Type 0) (words : C → W) (given : W) (result : Option C) : Type 0 where
  pub some : (c : C) → result ≡ Some c → Are c × (given ≡ words c)
  pub each : (c : C) → Are c → given ≡ words c → result ≡ Some c
