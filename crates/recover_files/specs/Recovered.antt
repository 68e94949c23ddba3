-- What recovery gives.
use Rattle.std.specs.Prelude.{◌≡◌, ℕ, List, length}
use Rattle.tables.specs.Sizes.{Sizes}
use Rattle.tables.specs.Database.{Database, database}
use Rattle.log_text.specs.Bodies.{BodyView}
use Rattle.recover_found.specs.Found.{found, durable_of}
use Rattle.recover_found.specs.Rebuilt.{HaveNoGap, IsRebuilt}
use Rattle.recover_files.specs.Files.{AreFilesOf, AreShort}
use Rattle.recover_files.specs.declared.recovering.Recovered.{Recovered}

-- what was recovered from files with these bodies: the tables are rebuilt from what counts in them, and so many entries
-- count, up to this epoch
pub record IsOfFiles (t0 : Database) (files : List (List BodyView)) (r : Recovered) : Type 0 where
  pub rebuilt : IsRebuilt t0 (found files) (database r.tables)
  pub commits : r.commits ≡ length (found files)
  pub durable : r.durable ≡ durable_of files

-- what was recovered from these strings of bytes: they are the database's log files, all of one version, and it is what
-- these make, whichever version that is
pub record IsRecovery (t0 : Database) (seed : ℕ) (strings : List (List ℕ)) (r : Recovered) : Type 0 where
  pub version : ℕ
  pub files : List (List BodyView)
  pub short : AreShort strings
  pub read : AreFilesOf version t0.scale seed strings files
  pub of_files : IsOfFiles t0 files r

-- they are its log files, but a commit that counts is missing
pub record HasGap (s : Sizes) (seed : ℕ) (strings : List (List ℕ)) : Type 0 where
  pub version : ℕ
  pub files : List (List BodyView)
  pub short : AreShort strings
  pub read : AreFilesOf version s seed strings files
  pub gap : HaveNoGap (found files) → ⊥
