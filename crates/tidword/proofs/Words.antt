-- The parts of a word that a commit stores.
use Rattle.std.proofs.Common.{◌≡◌, ℕ, ◌/◌, ◌%◌, Option, Some, None, arith}
use Rattle.tidword.specs.TidWord.{tid_of, installed_word}

-- its TID
pub installed-tid : {X : Type 0} → (tid : ℕ) (value : Option X) → tid % 8 ≡ 0 → tid_of (installed_word tid value) ≡ tid
installed-tid tid (Some value) even = omega arith
installed-tid tid None even = omega arith

-- and its absent bit
pub installed-present : {X : Type 0} → (tid : ℕ) (value : X) → tid % 8 ≡ 0 → installed_word tid (Some value) / 4 % 2 ≡ 0
installed-present tid value even = omega arith

pub installed-absent : (X : Type 0) (tid : ℕ) → tid % 8 ≡ 0 → installed_word {X = X} tid None / 4 % 2 ≡ 1
installed-absent X tid even = omega arith
