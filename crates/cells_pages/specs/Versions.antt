-- The versions of one record, oldest first. A version is the list of its words, of which the first is the TID word
-- (Silo, section 4.2).
use Rattle.std.specs.Prelude.{◌≡◌, ℕ, ◌+◌, ◌≤◌, List, [], ◌∷◌, ◌++◌, length, slice_index, slice_index_or}
use Rattle.tidword.specs.TidWord.{tid_of}

-- the versions of one record, and of all records by record number
abbrev pub Versions : Type 0
Versions = List (List ℕ)

abbrev pub AllVersions : Type 0
AllVersions = List Versions

-- the TID word of a version, and its TID
abbrev pub word_in : List ℕ → ℕ
word_in version = slice_index version 0

abbrev pub tid : List ℕ → ℕ
tid version = tid_of (word_in version)

-- the TID of the last version
abbrev pub last_tid : Versions → ℕ
last_tid [] = 0
last_tid (v ∷ []) = tid v
last_tid (v ∷ w ∷ vs) = last_tid (w ∷ vs)

-- the TIDs rise, from n or more
abbrev pub RisesFrom : ℕ → Versions → Type 0
RisesFrom n [] = Unit {0}
RisesFrom n (v ∷ vs) = (n ≤ tid v) × RisesFrom (tid v + 1) vs

abbrev pub IsRising : Versions → Type 0
IsRising versions = RisesFrom 0 versions

-- these versions are the first ones of all
abbrev pub StartsWith : Versions → Versions → Type 0
StartsWith all versions = (rest : Versions) × (all ≡ versions ++ rest)

-- this version is the last one of all
abbrev pub EndsWith : Versions → List ℕ → Type 0
EndsWith all version = (front : Versions) × (all ≡ front ++ version ∷ [])

-- the versions of record n
abbrev pub at : AllVersions → ℕ → Versions
at versions n = slice_index_or versions n []

-- the words of the last version, or none
abbrev pub newest : Versions → List ℕ
newest [] = []
newest (v ∷ []) = v
newest (v ∷ w ∷ vs) = newest (w ∷ vs)

-- there is a version, its TIDs rise, and the last has this many words
pub record AreVersions (words : ℕ) (versions : Versions) : Type 0 where
  pub rising : IsRising versions
  pub wide : length (newest versions) ≡ words
