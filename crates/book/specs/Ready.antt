-- What the next commit needs of the book: bookkeeping, and what follows from the rest.
use Rattle.std.specs.Prelude.{◌≡◌, ℕ, ◌+◌, ◌-◌, ◌/◌, ◌%◌, ◌^◌, ◌<◌, ◌≤◌, true, false, IsSome, List, length, slice_index}
use Rattle.std.specs.List.{All}
use Rattle.tables.specs.Database.{Database}
use Rattle.tables.specs.Constant.{IsOf}
use Rattle.tables.specs.WellFormed.{HasRoom}
use Rattle.tables.specs.declared.limits.TheConstants.{MAX_COMMITS}
use Rattle.tidword.specs.TidWord.{is_locked, is_latest, epoch_of}
use Rattle.cells.specs.Versions.{EndsWith, last_tid, word_in}
use Rattle.cells.specs.Records.{CellsView, PenView, at, cell_count}
use Rattle.readset.specs.Cells.{AreCellsOf}
use Rattle.readset.specs.Writes.{value_for}
use Rattle.book.specs.Stamps.{last_of}
use Rattle.book.specs.declared.entry.Entry.{Entry}

-- a TID without status bits, of an epoch up to this one, whose sequence is at most this count
pub record IsTidWithin (epoch count tid : ℕ) : Type 0 where
  pub bits : tid % 8 ≡ 0
  pub in_epoch : epoch_of tid ≤ epoch
  pub sequence : tid / 8 % 2 ^ 29 ≤ count

-- what an entry's TID is to the book: of an epoch up to this one, and no larger than the last TID of each record that
-- the entry wrote, nor than its terminal's
pub record IsPassed (epoch : ℕ) (written : PenView) (history : List Entry) (e : Entry) : Type 0 where
  pub in_epoch : epoch_of e.tid ≤ epoch
  pub records : (n : ℕ) → IsSome (value_for e.writes n) → e.tid ≤ last_tid (at written.all n)
  pub terminal : e.tid ≤ last_of e.terminal history

-- the word of a version that is its record's latest, and that no writer has
pub record IsFree (word : ℕ) : Type 0 where
  pub unlocked : is_locked word ≡ false
  pub latest : is_latest word ≡ true

-- what the next commit needs of the book, whose TID is of this epoch or a later one
pub record IsReady (past : ℕ) (t0 : Database) (run_cells : CellsView) (epoch : ℕ) (written : PenView)
    (history : List Entry) (t : Database) : Type 0 where
  pub of_population : IsOf t0 t
  -- the pen is of the run's cells, one a record
  pub cells : written.cells ≡ run_cells
  pub count : AreCellsOf t0.scale run_cells
  -- the next commit's TID is to be larger than those before it
  pub passed : All (IsPassed epoch written history) history
  -- there is one: no sequence is larger than the number of commits
  pub records : (n : ℕ) → n < cell_count run_cells → IsTidWithin epoch (length history) (last_tid (at written.all n))
  pub terminals : (terminal : ℕ) → IsTidWithin epoch (length history) (last_of terminal history)
  -- each record's newest version says that it is the latest, and unlocked
  pub free : (n : ℕ) → n < cell_count run_cells → (v : List ℕ) → EndsWith (at written.all n) v → IsFree (word_in v)
  -- the commit cap isn't passed, and there is room for the commits that are left
  pub cap : past + length history ≤ t0.scale.commits
  pub few : t0.scale.commits ≤ MAX_COMMITS
  pub room : HasRoom (MAX_COMMITS - (past + length history)) t

-- these are the last TIDs of the terminals, so many of which there are
pub record AreLast (terminals : ℕ) (history : List Entry) (lasts : List ℕ) : Type 0 where
  pub count : length lasts ≡ terminals
  pub last : (terminal : ℕ) → terminal < length lasts → slice_index lasts terminal ≡ last_of terminal history
