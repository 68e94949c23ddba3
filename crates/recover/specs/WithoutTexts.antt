-- Files of version 1, in which nothing of C_DATA stands, and what recovery gives of them.
use Rattle.std.specs.Prelude.{◌≡◌, false, List, length}
use Rattle.tables.specs.Database.{Database, database}
use Rattle.log_text.specs.Bodies.{BodyView}
use Rattle.book.specs.History.{replay}
use Rattle.book.specs.declared.entry.Entry.{Entry}
use Rattle.recover_laws.specs.Found.{durable_cut}
use Rattle.recover_lives.specs.World.{Lives}
use Rattle.recover.specs.Beginning.{IsBeginningFrom}
use Rattle.recover_files.specs.declared.recovering.Recovered.{Recovered}

-- the same tables, whose Payments leave C_DATA alone, as those did that files of version 1 tell of
abbrev pub without_texts : Database → Database
without_texts t = record t { keeps_texts = false }

-- what was recovered of files is the replay of what counts in them of a history whose Payments left C_DATA alone: it has
-- the C_DATA that the database began with
pub record IsReplayWithoutTexts (t0 : Database) (files : List (List BodyView)) (history : List Entry) (r : Recovered)
    : Type 0 where
  pub tables : without_texts (database r.tables) ≡ replay (without_texts t0) (durable_cut files history)
  pub texts : (database r.tables).texts ≡ t0.texts
  pub commits : r.commits ≡ length (durable_cut files history)

-- and it is that of a beginning of what had happened over all lives of such a database, as `IsBeginningOf` says of
-- today's
abbrev pub IsBeginningWithoutTexts : Database → Lives → List (List BodyView) → Recovered → Type 0
IsBeginningWithoutTexts t0 w files r =
    IsBeginningFrom (without_texts t0) (λ history. IsReplayWithoutTexts t0 files history r) w files r
