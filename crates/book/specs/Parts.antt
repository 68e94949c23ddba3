-- What an engine is opened with.
use Rattle.std.specs.Prelude.{◌≡◌, ℕ, ◌<◌, ◌≤◌, List, [], ◌∷◌, length, replicate, All}
use Rattle.std.specs.Option.{option_map_or}
use Rattle.std.specs.Arc.{arc_value}
use Rattle.tables.specs.Database.{Database, database}
use Rattle.tables.specs.Records.{record_count}
use Rattle.tables.specs.Rows.{rows}
use Rattle.population.specs.Initial.{initial, seed_of}
use Rattle.cells.specs.First.{first_version}
use Rattle.cells.specs.Records.{CellsView, seen_all}
use Rattle.readset.specs.Cells.{AreCellsOf}
use Rattle.cells.specs.Records.{at}
use Rattle.board.specs.Seats.{BoardView}
use Rattle.board.specs.Opening.{Opens}
use Rattle.book.specs.Base.{IsStart}
use Rattle.book.specs.Run.{RunView}
use Rattle.book.specs.declared.untaken.Untaken.{Untaken}
use Rattle.annals.specs.Passes.{AnnalsView}
use Rattle.book.specs.declared.parts.BlankAnnals.{BlankAnnals}
use Rattle.book.specs.declared.parts.Fresh.{Fresh}
use Rattle.book.specs.declared.parts.Parts.{Parts}
use Rattle.book.specs.declared.parts.Records.{Records}
use Rattle.tables.specs.declared.limits.TheConstants.{MAX_LOGGERS, MAX_TERMINALS}

-- the population of a run of these parts, the tables that it begins with, which are the population's own where no
-- others were handed in, how many commits made them, the seed of its population, its cells, its board and what that
-- opened with, its annals, its ledger, and how many loggers and terminals it has
abbrev pub population_of : Parts → Database
population_of p = initial (arc_value p.population)

abbrev pub first_of : Parts → Database
first_of p = option_map_or database p.begun.base (population_of p)

abbrev pub past_of : Parts → ℕ
past_of p = p.begun.past

abbrev pub population_seed : Parts → ℕ
population_seed p = seed_of (arc_value p.population)

abbrev pub cells_of : Parts → CellsView
cells_of p = p.fresh.records.cells

abbrev pub board_of : Parts → BoardView
board_of p = p.fresh.board

abbrev pub annals_of : Parts → AnnalsView
annals_of p = arc_value p.fresh.blank.annals

abbrev pub ledger_name : Parts → ℕ
ledger_name p = p.blank.name

abbrev pub ledger_parts : Parts → ℕ
ledger_parts p = p.blank.parts

-- all that names the run of these parts, but its ledger
abbrev pub run_of : Parts → RunView
run_of p = record {
  population = population_of p;
  seed = population_seed p;
  first = first_of p;
  past = past_of p;
  cells = cells_of p;
  board = board_of p;
  annals = annals_of p;
}

abbrev pub base_of : Parts → ℕ
base_of p = p.fresh.board.plan.base

abbrev pub loggers_of : Parts → ℕ
loggers_of p = p.fresh.board.plan.loggers

abbrev pub terminals_of : Parts → ℕ
terminals_of p = length p.fresh.records.readers.items

-- these are the streams of so many loggers, of which nothing was taken and nothing waits, at this mark
pub record AreEmpty (loggers mark : ℕ) (streams : List Untaken) : Type 0 where
  pub count : length streams ≡ loggers
  pub empty : All (λ s. (s.taken ≡ 0) × (s.last_taken ≡ 0) × (s.waiting.items ≡ []) × (s.mark ≡ mark)) streams

-- each record of tables has a cell, whose only version is the one that it begins with, which a reader a terminal has seen
pub record AreUnwritten (first : Database) (terminals : ℕ) (r : Records) : Type 0 where
  pub cells : r.pen.cells ≡ r.cells
  pub count : AreCellsOf first.scale r.cells
  pub versions : (n : ℕ) → n < record_count first.scale → at r.pen.all n ≡ first_version (rows first n) ∷ []
  pub readers : All (λ reader. reader ≡ seen_all r.pen) r.readers.items
  pub as_many : length r.readers.items ≡ terminals

-- annals behind an epoch in which nothing stands, which two have, and the pass with which they are kept
pub record AreBlank (epoch : ℕ) (blank : BlankAnnals) : Type 0 where
  pub lent : arc_value blank.lent ≡ arc_value blank.annals
  pub base : (arc_value blank.annals).base ≡ epoch
  pub keeper : blank.annalist ≡ record { annals = arc_value blank.annals; history = []; mark = epoch }

-- nobody has read, stepped, committed or taken anything yet: the records of these tables have one version, the board is
-- behind this epoch, the streams are empty at it, no terminal has a TID, and annals behind it are blank
pub record IsUnused (first : Database) (epoch loggers terminals : ℕ) (f : Fresh) : Type 0 where
  pub records : AreUnwritten first terminals f.records
  pub board : Opens (record { loggers = loggers; base = epoch }) terminals f.board f.seats
  pub streams : AreEmpty loggers epoch f.streams.items
  pub lasts : f.lasts.items ≡ replicate terminals 0
  pub blank : AreBlank epoch f.blank

-- nothing has committed behind the tables that the run begins with, and the ledger has a part a terminal. Both that
-- have the population have the same
pub record IsFresh (p : Parts) : Type 0 where
  pub lent : arc_value p.lent ≡ arc_value p.population
  pub start : IsStart (population_of p) (first_of p) p.begun.rows.items p.begun.past p.begun.totals
  pub history : p.history.items ≡ []
  pub unused : IsUnused (first_of p) (base_of p) (loggers_of p) (terminals_of p) p.fresh
  pub parts : ledger_parts p ≡ terminals_of p
  pub some : 0 < terminals_of p
  pub few : terminals_of p ≤ MAX_TERMINALS
  pub loggers : (0 < loggers_of p) × (loggers_of p ≤ MAX_LOGGERS)

-- these parts are fresh, and of this population, these first tables, which so many past commits have made, and this
-- base, with so many loggers and terminals
pub record ArePartsOf (population first : Database) (seed past base loggers terminals : ℕ) (p : Parts) : Type 0 where
  pub fresh : IsFresh p
  pub population_is : population_of p ≡ population
  pub first_is : first_of p ≡ first
  pub seed_is : population_seed p ≡ seed
  pub past_is : past_of p ≡ past
  pub base_is : base_of p ≡ base
  pub loggers_are : loggers_of p ≡ loggers
  pub terminals_are : terminals_of p ≡ terminals

-- these parts are fresh, and this names the run that opens with them
pub record IsOpenedAs (p : Parts) (run : RunView) : Type 0 where
  pub fresh : IsFresh p
  pub population_is : population_of p ≡ run.population
  pub seed_is : population_seed p ≡ run.seed
  pub first_is : first_of p ≡ run.first
  pub past_is : past_of p ≡ run.past
  pub cells_are : cells_of p ≡ run.cells
  pub board_is : board_of p ≡ run.board
  pub annals_are : annals_of p ≡ run.annals

-- and these are the name of its ledger, and how many parts that has
pub record IsLedgerOf (p : Parts) (name parts : ℕ) : Type 0 where
  pub name_is : ledger_name p ≡ name
  pub parts_are : ledger_parts p ≡ parts

-- they are so, and of one terminal, which begins with its population's tables
pub record IsAlone (p : Parts) (name parts : ℕ) : Type 0 where
  pub ledger : IsLedgerOf p name parts
  pub one : terminals_of p ≡ 1
  pub none : past_of p ≡ 0
  pub began : first_of p ≡ population_of p
