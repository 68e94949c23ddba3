-- A batch, as the body that its log file gets.
use Rattle.std.specs.Prelude.{◌≡◌, ℕ, true, List, [], ◌∷◌, map}
use Rattle.tables.specs.Sizes.{Sizes}
use Rattle.tidword.specs.TidWord.{epoch_of}
use Rattle.log_header.specs.Header.{HeaderView}
use Rattle.log_text.specs.Bodies.{BodyView, Entries}
use Rattle.log_text.specs.Writes.{are_of_version}
use Rattle.log_text.specs.declared.last.Last.{Last}
use Rattle.book.specs.Batches.{BatchView}
use Rattle.book.specs.declared.entry.Entry.{Entry}
use Rattle.log_entries.specs.Logged.{writes_of, logged_entry}

-- an entry may stand in a file of this version: in an older one than today's it writes no text
abbrev pub IsOfVersion : ℕ → Sizes → Entry → Type 0
IsOfVersion version s e = are_of_version version (writes_of s e.writes) ≡ true

-- its mark, and its entries as a log file has them
abbrev pub body_of_batch : BatchView → BodyView
body_of_batch b = Entries b.mark (map (logged_entry b.scale) b.entries)

-- the epoch of the last of these entries, and this one where there are none
abbrev pub last_epoch_of : ℕ → List Entry → ℕ
last_epoch_of before [] = before
last_epoch_of before (e ∷ es) = last_epoch_of (epoch_of e.tid) es

-- where a file stands behind a batch, and where it stood before
abbrev pub behind_batch : Last → BatchView → Last
behind_batch last b = record { mark = b.mark; epoch = last_epoch_of last.epoch b.entries }

-- a batch is of this file's logger and population, and begins where the file stands, to which so many entries were
-- appended since it was opened, up to the one of this commit number (0 where there is none)
pub record Continues (h : HeaderView) (count number : ℕ) (last : Last) (b : BatchView) : Type 0 where
  pub logger : b.logger ≡ h.logger
  pub loggers : b.loggers ≡ h.loggers
  pub scale : b.scale ≡ h.scale
  pub seed : b.seed ≡ h.seed
  pub first : b.first ≡ count
  pub number_before : b.number_before ≡ number
  pub mark_before : b.mark_before ≡ last.mark
