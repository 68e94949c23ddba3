-- What terminals have made of tables.
use Rattle.std.specs.Prelude.{ℕ, ◌<◌, List, All}
use Rattle.tables.specs.Database.{Database}
use Rattle.book.specs.History.{IsLegal, replay}
use Rattle.book.specs.Stamps.{AreStamped}
use Rattle.book.specs.declared.entry.Entry.{Entry}

-- a history that so many terminals have made from these tables on, which so many past commits have made: it is legal
-- and stamped, and each entry is one of theirs
pub record IsMadeBy (terminals : ℕ) (past : ℕ) (t0 : Database) (history : List Entry) : Type 0 where
  pub legal : IsLegal past t0 history (replay t0 history)
  pub stamped : AreStamped history
  pub asked : All (λ e. e.terminal < terminals) history
