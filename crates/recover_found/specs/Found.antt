-- What counts in log files: their entries up to the durable epoch (Silo, section 4.10), but for those of void epochs.
use Rattle.std.specs.Prelude.{ℕ, nat_le, Bool, false, not, ◌&&◌, ◌||◌, List, [], ◌∷◌, filter, map, flat_map, unwrap_or}
use Rattle.std.specs.List.{list_any}
use Rattle.tables.specs.OrderNumbers.{least}
use Rattle.tidword.specs.TidWord.{epoch_of}
use Rattle.log_text.specs.Bodies.{BodyView, mark_of, entries_in, voids, body_of}
use Rattle.log_text.specs.Entries.{EntryView}
use Rattle.log_text.specs.declared.body.Body.{Body}
use Rattle.recover_found.specs.declared.spans.Span.{Span}

-- a file's bodies
abbrev pub bodies_in : List Body → List BodyView
bodies_in bodies = map body_of bodies

-- the mark of a file's last body, and this one where it has none; and the entries of its bodies
abbrev pub last_mark : ℕ → List BodyView → ℕ
last_mark before [] = before
last_mark before (b ∷ bs) = last_mark (mark_of b) bs

abbrev pub entries_of : List BodyView → List EntryView
entries_of bodies = flat_map entries_in bodies

-- the durable epoch: the least of the files' last marks, 0 being that of a file without bodies
abbrev pub durable_of : List (List BodyView) → ℕ
durable_of files = unwrap_or (least (map (last_mark 0) files)) 0

-- whether a file declares an epoch void, and whether any of some files does
abbrev pub void_in : List BodyView → ℕ → Bool
void_in [] epoch = false
void_in (b ∷ bs) epoch = voids b epoch || void_in bs epoch

abbrev pub void_of : List (List BodyView) → ℕ → Bool
void_of [] epoch = false
void_of (bodies ∷ files) epoch = void_in bodies epoch || void_of files epoch

-- whether entries of an epoch count: it is no later than the durable one, and not void
abbrev pub up_to : ℕ → (ℕ → Bool) → ℕ → Bool
up_to durable void epoch = nat_le epoch durable && not (void epoch)

-- which entries count in files, and those of a file's entries that count
abbrev pub keeps : List (List BodyView) → ℕ → Bool
keeps files = up_to (durable_of files) (void_of files)

abbrev pub counted : (ℕ → Bool) → List BodyView → List EntryView
counted counts bodies = filter (λ e. counts (epoch_of e.tid)) (entries_of bodies)

-- what recovery keeps of a file, and what it keeps, file after file
abbrev pub kept : List (List BodyView) → List BodyView → List EntryView
kept files bodies = counted (keeps files) bodies

abbrev pub found : List (List BodyView) → List EntryView
found files = flat_map (kept files) files

-- the same as code has it: the durable epoch, and ranges of void epochs
pub record KeepsView : Type 0 where
  pub durable : ℕ
  pub voids : List Span

abbrev pub is_spanned : ℕ → Span → Bool
is_spanned epoch s = nat_le s.low epoch && nat_le epoch s.high

abbrev pub counts_by : KeepsView → ℕ → Bool
counts_by k = up_to k.durable (λ epoch. list_any (is_spanned epoch) k.voids)
