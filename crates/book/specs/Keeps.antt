-- What the types of the book, of the engine and of its seats keep, each part by its name.
use Rattle.annals.specs.Passes.{AnnalsView, AnnalistView}
use Rattle.std.specs.Prelude.{◌≡◌, ℕ, ◌+◌, ◌<◌, ◌^◌, List, length}
use Rattle.std.specs.List.{All}
use Rattle.tables.specs.Database.{Database}
use Rattle.tables.specs.Constant.{IsOf}
use Rattle.tables.specs.declared.rows.History.{History}
use Rattle.cells.specs.Records.{CellsView, PenView, ReaderView}
use Rattle.readset.specs.Cells.{AreCellsOf}
use Rattle.board.specs.Seats.{BoardView, SeatView, new_seat}
use Rattle.board.specs.declared.rule.Role.TheVariants.{Terminal}
use Rattle.totals.specs.Totals.{TotalsView, AreTotals}
use Rattle.book.specs.Base.{HasBecome}
use Rattle.book.specs.Book.{IsSound}
use Rattle.book.specs.Epochs.{HasCounted, found_epoch}
use Rattle.book.specs.History.{replay}
use Rattle.book.specs.Loggable.{AreLoggable}
use Rattle.book.specs.Ready.{IsReady, AreLast}
use Rattle.book.specs.Run.{RunView}
use Rattle.book.specs.Streams.{AreStreams}
use Rattle.book.specs.declared.entry.Entry.{Entry}
use Rattle.book.specs.declared.untaken.Untaken.{Untaken}

-- what a book has: its population and that one's seed, how many past commits there are, the HISTORY rows that they
-- added to the population's, its pen, the totals, the history, the streams, the terminals' last TIDs, what their shares
-- sum to, and its seat of the board
pub record BookParts : Type 0 where
  pub population : Database
  pub seed : ℕ
  pub past : ℕ
  pub rows : List History
  pub pen : PenView
  pub totals : TotalsView
  pub history : List Entry
  pub streams : List Untaken
  pub lasts : List ℕ
  pub shares : ℕ
  pub seat : SeatView

-- what the book's type keeps of them, in a run that is named so, whose ledger has so many parts
pub record KeepsBook (run : RunView) (parts : ℕ) (book : BookParts) : Type 0 where
  pub population : book.population ≡ run.population
  pub seed : book.seed ≡ run.seed
  pub past : book.past ≡ run.past
  pub become : HasBecome run.population run.first book.rows
  -- the committed tables are the history's replay, and the next commit may come
  pub sound : IsSound run.past run.first book.pen book.history (replay run.first book.history)
  pub ready : IsReady run.past run.first run.cells (found_epoch book.seat) book.pen book.history
      (replay run.first book.history)
  pub totals : AreTotals (replay run.first book.history) book.totals
  -- the shares sum to the history's length, and the seat has counted each commit, with its epoch
  pub shares : book.shares ≡ length book.history
  pub lasts : AreLast parts book.history book.lasts
  pub board : book.seat.board ≡ run.board
  pub counted : HasCounted book.seat book.history
  -- what waits for each logger, and that it may be written to a log file
  pub streams : AreStreams run.board.plan (found_epoch book.seat) book.history book.streams
  pub loggable : AreLoggable run.first.scale parts book.history

-- what it keeps of the pass with which the run's annals are kept: that knows the history, up to a mark that is below
-- the epoch which the book's seat has found
pub record KeepsAnnals (run : RunView) (seat : SeatView) (history : List Entry) (annals : AnnalsView)
    (knows : AnnalistView Entry) : Type 0 where
  pub own : annals ≡ run.annals
  pub keeper : knows.annals ≡ run.annals
  pub base : run.annals.base ≡ run.board.plan.base
  pub whole : knows.history ≡ history
  pub mark : knows.mark < found_epoch seat

-- what the engine's type keeps of its population, its cells, its board and its annals, in a run of so many parts
pub record IsEngineOf (run : RunView) (parts : ℕ) (population : Database) (cells : CellsView) (board : BoardView)
    (annals : AnnalsView) : Type 0 where
  pub population_is : population ≡ run.population
  pub of_population : IsOf run.population run.first
  pub cells_are : cells ≡ run.cells
  pub count : AreCellsOf run.first.scale run.cells
  pub board_is : board ≡ run.board
  pub annals_are : annals ≡ run.annals
  pub annals_base : run.annals.base ≡ run.board.plan.base
  pub some : 0 < parts

-- what the type of the terminals' seats keeps of those that are left, in a run of so many parts: the readers and the seats of the board, the parts and the commits of the share that they have together, and
-- how many were given
pub record AreSeatsLeft (run : RunView) (all_parts : ℕ) (readers : List ReaderView) (seats : List SeatView)
    (parts commits given : ℕ) : Type 0 where
  pub own : All (λ reader. reader.cells ≡ run.cells) readers
  pub new : All (λ seat. seat ≡ new_seat run.board Terminal) seats
  pub as_many : length seats ≡ length readers
  pub shares : parts ≡ length readers
  pub none : commits ≡ 0
  pub all : given + length readers ≡ all_parts
  pub few : all_parts < 2 ^ 16
