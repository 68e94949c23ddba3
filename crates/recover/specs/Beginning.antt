-- That recovery gives a beginning of what had happened.
use Rattle.std.specs.Prelude.{◌≡◌, ℕ, ◌<◌, ◌≤◌, List, [], ◌++◌, length, slice_index_or}
use Rattle.std.specs.List.{All, Contains}
use Rattle.tables.specs.Database.{Database, database}
use Rattle.log_text.specs.Bodies.{BodyView}
use Rattle.book.specs.History.{IsLegal, replay}
use Rattle.book.specs.declared.entry.Entry.{Entry}
use Rattle.recover_laws.specs.Found.{durable_cut}
use Rattle.recover_lives.specs.World.{Origin, Lives, joined_history, released_by, durable_at}
use Rattle.recover_files.specs.declared.recovering.Recovered.{Recovered}

-- strings in the order of the loggers' numbers
pub record AreInTurn (loggers : ℕ) (by_logger : ℕ → List ℕ) (strings : List (List ℕ)) : Type 0 where
  pub count : length strings ≡ loggers
  pub each : (l : ℕ) → l < length strings → slice_index_or strings l [] ≡ by_logger l

-- what was recovered of files is the replay of what counts of a history in them, and its commits are as many
pub record IsReplayOf (t0 : Database) (files : List (List BodyView)) (history : List Entry) (r : Recovered)
    : Type 0 where
  pub tables : database r.tables ≡ replay t0 (durable_cut files history)
  pub commits : r.commits ≡ length (durable_cut files history)

-- what was recovered of files is a beginning of what had happened over all lives: what counts of it in them, up to a
-- durable epoch that is no less than D; it is legal, and in replay, from these first tables; among it is each entry
-- whose reply was released; and the tables are what `IsReplay` says of the history over all lives
pub record IsBeginningFrom (first : Database) (IsReplay : List Entry → Type 0) (w : Lives)
    (files : List (List BodyView)) (r : Recovered) : Type 0 where
  pub no_less : durable_at w ≤ r.durable
  pub rest : List Entry
  pub beginning : joined_history w ≡ durable_cut files (joined_history w) ++ rest
  pub legal : IsLegal 0 first (durable_cut files (joined_history w))
      (replay first (durable_cut files (joined_history w)))
  pub recovered : IsReplay (joined_history w)
  pub released : All (Contains (durable_cut files (joined_history w))) (released_by w)

-- and it is that beginning's replay
abbrev pub IsBeginningOf : Origin → Lives → List (List BodyView) → Recovered → Type 0
IsBeginningOf o w files r = IsBeginningFrom o.first (λ history. IsReplayOf o.first files history r) w files r
