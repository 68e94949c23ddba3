-- How the log files of a run are found open, as it begins.
use Rattle.std.specs.Prelude.{◌≡◌, ℕ, ◌+◌, false, List, [], ◌∷◌, ◌++◌, length, map, slice_index_or}
use Rattle.log_disk.specs.Calls.{Call, Wrote, Synced}
use Rattle.log_header.specs.Header.{HeaderView, header_text, header_view}
use Rattle.log_text.specs.Bodies.{start}
use Rattle.tables.specs.Sizes.{Sizes, sizes}
use Rattle.board.specs.Seats.{BoardView}
use Rattle.logfile.specs.Standing.{LogFileView}
use Rattle.logger.specs.Logger.{LoggerView}
use Rattle.recover_crashes.specs.World.{DiskView}
use Rattle.recover_opening.specs.Opening.{file_on}

-- a logger is of a run that names it: its seat is of the run's board, and its file, on a modelled disk, is as the run
-- says that it was found
pub record IsFoundIn {D : Type 0} (board : BoardView) (found : ℕ → LogFileView DiskView) (IsModelled : Type 0)
    (seen_of : D → List ℕ) (story_of : D → List Call) (logger : LoggerView D) : Type 0 where
  pub own : logger.seat.board ≡ board
  pub named : IsModelled → found logger.file.header.logger ≡ file_on seen_of story_of logger.file

-- a log file that was just made on a disk on which nothing was called before, and one of no logger
abbrev pub new_file : HeaderView → LogFileView DiskView
new_file header = record {
  disk = record {
    seen = header_text header ++ 0 ∷ [];
    story = Synced (header_text header ++ 0 ∷ []) ∷ Wrote 0 (length (header_text header) + 1) ∷ [];
  };
  header = header;
  end = length (header_text header);
  last = start;
  count = 0;
  number = 0;
  failed = false;
}

-- the new files of so many loggers, in a population of this scale and seed
abbrev pub new_files : ℕ → Sizes → ℕ → ℕ → LogFileView DiskView
new_files loggers scale seed l = new_file (header_view l loggers scale seed)

abbrev pub no_file : LogFileView DiskView
no_file = new_file (header_view 0 1 (sizes 1 1 10 20 10 1) 0)

-- files as they are, each by its place
abbrev pub as_they_are : {D : Type 0} → (D → List ℕ) → (D → List Call) → List (LogFileView D) → ℕ → LogFileView DiskView
as_they_are seen_of story_of files l = slice_index_or (map (file_on seen_of story_of) files) l no_file
