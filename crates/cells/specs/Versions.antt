-- The versions of one record, oldest first, as `Versions.antt` of `cells_pages` has them. A version is the list of its words,
-- of which the first is the TID word (Silo, section 4.2).
use Rattle.std.specs.Prelude.{◌≡◌, ℕ, ◌/◌, ◌%◌, ◌==◌, cond, Option, Some, None, List, [], ◌∷◌, ◌++◌}
pub use Rattle.cells_pages.specs.Versions.{Versions, AllVersions, newest, word_in, tid, last_tid, RisesFrom, IsRising, StartsWith, EndsWith}

-- what a version says that its record holds: its data, or nothing where its absent bit (bit 2) is set
abbrev pub value_in : List ℕ → Option (List ℕ)
value_in [] = None
value_in (word ∷ words) = cond (word / 4 % 2 == 0) (Some words) None

-- this version is one of all
abbrev pub Has : Versions → List ℕ → Type 0
Has all version = (front : Versions) × (rest : Versions) × (all ≡ front ++ version ∷ rest)
