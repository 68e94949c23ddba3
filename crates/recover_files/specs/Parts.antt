-- What entries of log files say of records, as far as they were looked at.
use Rattle.std.specs.Prelude.{◌≡◌, ℕ, ◌==◌, true, Option, Some, None, if◌then◌else◌, List, length, map, flat_map}
use Rattle.std.specs.Prelude.{slice_get}
use Rattle.std.specs.List.{All}
use Rattle.tables.specs.Records.{record_count}
use Rattle.tables.specs.Sizes.{Sizes}
use Rattle.tables.specs.declared.rows.History.{History}
use Rattle.log_text.specs.Bodies.{BodyView}
use Rattle.log_text.specs.Entries.{EntryView}
use Rattle.log_text.specs.Writes.{is_history, are_writes, words_of_value}
use Rattle.log_text.specs.declared.write.Write.{Write}
use Rattle.recover_found.specs.Found.{durable_of, found}
use Rattle.recover_found.specs.Rebuilt.{number_of, rows_in, IsNewest, IsUnwritten}
use Rattle.recover_newest.specs.Known.{known as known_of}
use Rattle.recover_newest.specs.Latest.{newer}
use Rattle.recover_newest.specs.declared.latest.Latest.{Latest}
use Rattle.recover_files.specs.declared.numbering.Commit.{Commit}
use Rattle.recover_files.specs.declared.part.Part.{Part}

-- the newest of the entries that write a record, and what it leaves there
pub record IsLatest (s : Sizes) (es : List EntryView) (n : ℕ) (w : Latest) : Type 0 where
  pub newest : IsNewest s es n (words_of_value w.value)
  pub value : newest.leaves.write.value ≡ w.value
  pub tid : newest.entry.tid ≡ w.tid
  pub number : newest.entry.number ≡ w.number

-- what is known of a record: nothing where no entry writes it
abbrev pub IsKnown : Sizes → List EntryView → ℕ → Option Latest → Type 0
IsKnown s es n None = IsUnwritten s es n
IsKnown s es n (Some w) = IsLatest s es n w

-- the row that writes add to HISTORY: the first, and lawful ones have no other
abbrev pub row_added : List Write → Option History
row_added writes = slice_get (flat_map (λ w. rows_in w.table w.value) writes) 0

-- what is kept of an entry beside its writes
abbrev pub commit_of : EntryView → Commit
commit_of e = record { number = e.number; row = row_added e.writes }

-- a part knows of each record of the scale what these entries say, and has what is kept of each
pub record IsPart (s : Sizes) (es : List EntryView) (p : Part) : Type 0 where
  pub records : length p.newest.places ≡ record_count s
  pub known : (n : ℕ) → IsKnown s es n (known_of p.newest n)
  pub commits : p.commits.items ≡ map commit_of es

-- the entries' writes keep the rules of log files
abbrev pub HaveLawfulWrites : Sizes → List EntryView → Type 0
HaveLawfulWrites s es = All (λ e. are_writes s e.writes ≡ true) es

-- a part knows what files with these bodies say together, whose writes are lawful, and of which so much counts
pub record IsMerged (s : Sizes) (files : List (List BodyView)) (durable : ℕ) (p : Part) : Type 0 where
  pub durable_is : durable ≡ durable_of files
  pub lawful : HaveLawfulWrites s (found files)
  pub part : IsPart s (found files) p

-- what is known of record n once a write of a commit was looked at
abbrev pub raised_by : Sizes → ℕ → ℕ → ℕ → Option Latest → Write → Option Latest
raised_by s tid number n known w = if is_history w then known else
    (if n == number_of s w then Some (newer known (record { tid = tid; number = number; value = w.value })) else known)
