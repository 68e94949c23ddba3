-- What contracts see of a session, and what its type keeps.
use Rattle.std.specs.Prelude.{◌≡◌, ℕ, List, length}
use Rattle.book.specs.Book.{BookView}
use Rattle.book.specs.declared.entry.Entry.{Entry}
use Rattle.book.specs.Done.{Done}
use Rattle.book.specs.Run.{RunView}

-- the book's history, and what the terminal was told, both in order
pub record SessionView : Type 0 where
  pub history : List Entry
  pub dones : List Done

-- the terminal was told of each commit, and the run began with its population's
-- tables
pub record IsSession (run : RunView) (book : BookView) (dones : List Done) : Type 0 where
  pub told : length dones ≡ length book.history
  pub none : run.past ≡ 0
  pub began : run.first ≡ run.population
