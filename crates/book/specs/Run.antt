-- What names a run.
use Rattle.std.specs.Prelude.{ℕ, []}
use Rattle.annals.specs.Passes.{AnnalsView}
use Rattle.atomic_table.specs.Seated.{TableId}
use Rattle.tables.specs.Database.{Database}
use Rattle.cells.specs.Records.{CellsView}
use Rattle.board.specs.Seats.{BoardView}

-- a table that isn't there
abbrev pub no_table : TableId
no_table = record { words = 0; slots = 0; views_name = 0; atom = 0; block = 0; offset = 0; slot_names = [] }

-- a run's population with the seed of that, the tables that it began with, which are the population's or what past
-- commits have made of them, how many those were, its record cells, its board, and its annals
pub record RunView : Type 0 where
  pub population : Database
  pub seed : ℕ
  pub first : Database
  pub past : ℕ
  pub cells : CellsView
  pub board : BoardView
  pub annals : AnnalsView
