-- Two worked log files, one of which declares an epoch void: what counts in both, by computing.
use Rattle.std.proofs.Common.{◌≡◌, ℕ, ◌*◌, ◌^◌, List, [], ◌∷◌, refl}
use Rattle.log_text.specs.Bodies.{BodyView, Entries, Void}
use Rattle.log_text.specs.Entries.{EntryView}
use Rattle.recover_found.specs.Found.{durable_of, found}

-- a commit of this number in this epoch
abbrev commit_in : ℕ → ℕ → EntryView
commit_in number epoch = record { number = number; tid = epoch * 2 ^ 32; terminal = 0; writes = [] }

-- commits 1 and 2 in the epochs 4 and 5 stand in one file, and the other declares epoch 5 void
abbrev file_with_entries : List BodyView
file_with_entries = Entries 5 (commit_in 1 4 ∷ commit_in 2 5 ∷ []) ∷ []

abbrev file_with_range : List BodyView
file_with_range = Void 5 5 ∷ []

both_durable : durable_of (file_with_entries ∷ file_with_range ∷ []) ≡ 5
both_durable = refl

-- the range counts for the other file too, which has none of its own
others_range : found (file_with_entries ∷ file_with_range ∷ []) ≡ commit_in 1 4 ∷ []
others_range = refl

others_range_exchanged : found (file_with_range ∷ file_with_entries ∷ []) ≡ commit_in 1 4 ∷ []
others_range_exchanged = refl

-- so it does for its own
own_range : found ((Entries 5 (commit_in 1 4 ∷ commit_in 2 5 ∷ []) ∷ Void 5 5 ∷ []) ∷ (Entries 5 [] ∷ []) ∷ []) ≡ commit_in 1 4 ∷ []
own_range = refl
