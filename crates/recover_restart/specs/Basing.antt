-- What a database goes on from whose log files have some bodies.
use Rattle.std.specs.Prelude.{◌≡◌, ℕ, ◌<◌, List, length}
use Rattle.tables.specs.Database.{Database, database}
use Rattle.board.specs.Words.{last_epoch}
use Rattle.book.specs.declared.parts.Base.{Base}
use Rattle.log_text.specs.Bodies.{BodyView}
use Rattle.recover_found.specs.Found.{found}
use Rattle.recover_found.specs.Rebuilt.{IsRebuilt}
use Rattle.recover_sound.specs.Sound.{AreSoundTables, rows_behind_those_of}

-- these tables, which are rebuilt of what counts there and such as so many commits can have made, with the HISTORY rows
-- that they have behind the first ones, and this as the last epoch, behind which there are more
pub record IsBaseOf (t0 : Database) (files : List (List BodyView)) (top : ℕ) (b : Base) : Type 0 where
  pub rebuilt : IsRebuilt t0 (found files) (database b.tables)
  pub commits : b.commits ≡ length (found files)
  pub rows : b.rows.items ≡ rows_behind_those_of t0 (database b.tables)
  pub sound : AreSoundTables (length (found files)) (database b.tables)
  pub epoch : b.epoch ≡ top
  pub room : top < last_epoch

-- tables that are rebuilt of what counts there are none that so many commits can have made
pub record AreUnsound (t0 : Database) (files : List (List BodyView)) : Type 0 where
  pub tables : Database
  pub rebuilt : IsRebuilt t0 (found files) tables
  pub unsound : AreSoundTables (length (found files)) tables → ⊥
