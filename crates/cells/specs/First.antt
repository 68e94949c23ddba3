-- The versions that cells begin with.
use Rattle.std.specs.Prelude.{ℕ, true, false, Option, Some, None, List, [], ◌∷◌, map, replicate}
use Rattle.money.specs.Payload.{no_payload}
use Rattle.cells_pages.specs.Versions.{AllVersions}
use Rattle.cells.specs.Records.{newest_words, wide_newest_words}
use Rattle.tidword.specs.TidWord.{tid_word}
use Rattle.cells.specs.declared.cells.Newest.{Newest}
use Rattle.cells.specs.declared.wide.WideNewest.{WideNewest}

-- the TID word of a record that is there: epoch 0, sequence 0, latest. Of one that isn't: absent too
abbrev pub populated_word : ℕ
populated_word = tid_word 0 0 (record { latest = true; absent = false; locked = false })

abbrev pub absent_word : ℕ
absent_word = tid_word 0 0 (record { latest = true; absent = true; locked = false })

-- what a record begins with: its row's words, or zeros
abbrev pub first_version : Option (List ℕ) → List ℕ
first_version (Some words) = populated_word ∷ words
first_version None = absent_word ∷ no_payload

-- that of a record that isn't there
abbrev pub absent_version : Newest
absent_version = record { word = absent_word; payload = no_payload }

-- the first versions of a page of so many records, of which each is given, or none where all are absent
abbrev pub page_versions : ℕ → List Newest → List Newest
page_versions count [] = replicate count absent_version
page_versions count (version ∷ versions) = version ∷ versions

-- these versions, each the only one of its record
abbrev pub firsts : List Newest → AllVersions
firsts newest = map (λ v. newest_words v ∷ []) newest

abbrev pub wide_firsts : List WideNewest → AllVersions
wide_firsts newest = map (λ v. wide_newest_words v ∷ []) newest
