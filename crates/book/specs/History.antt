-- What has committed, in order, and what it makes of the tables and of the records' versions.
use Rattle.std.specs.Prelude.{◌≡◌, ℕ, ◌+◌, Option, List, [], ◌∷◌, ◌++◌, flat_map, unwrap_or}
use Rattle.std.specs.Option.{option_map_or}
use Rattle.std.specs.Ordering.{nat_cmp}
use Rattle.std.specs.Map.{lookup}
use Rattle.std.specs.BTreeMap.{is_at}
use Rattle.tables.specs.Database.{Database}
use Rattle.tables.specs.Inputs.{IsInput}
use Rattle.tables.specs.Apply.{after}
use Rattle.tables.specs.Rows.{rows}
use Rattle.tables.specs.declared.input.Input.{Input}
use Rattle.tables.specs.declared.reply.Reply.{Reply}
use Rattle.tables.specs.declared.rows.History.{History}
use Rattle.money.specs.Payload.{no_payload}
use Rattle.tidword.specs.TidWord.{installed_word}
use Rattle.cells.specs.Versions.{Versions}
use Rattle.cells.specs.First.{first_version}
use Rattle.readset.specs.Commit.{IsCommitOf}
use Rattle.readset.specs.Writes.{WriteSetView, added}
use Rattle.book.specs.declared.entry.Entry.{Entry}

-- the tables after these entries: their inputs applied one after another
abbrev pub replay : Database → List Entry → Database
replay t [] = t
replay t (e ∷ es) = replay (after t e.input) es

-- a transaction is done at these tables: it commits there with this reply and these writes
pub record CommitsAt (t : Database) (x : Input) (writes : WriteSetView) (reply : Reply) : Type 0 where
  pub input : IsInput t.scale x
  pub commit : IsCommitOf t x writes reply

-- the entries have the commit numbers from n on, and each is done at the tables that the entries before it leave
abbrev pub Replays : ℕ → Database → List Entry → Type 0
Replays n t [] = Unit {0}
Replays n t (e ∷ es) = (e.number ≡ n) × CommitsAt t e.input e.writes e.reply × Replays (n + 1) (after t e.input) es

-- a history from t0, which so many past commits have made, to t: numbers behind theirs, each entry done in its turn,
-- and the end is t
pub record IsLegal (past : ℕ) (t0 : Database) (history : List Entry) (t : Database) : Type 0 where
  pub replays : Replays (past + 1) t0 history
  pub end : replay t0 history ≡ t

-- the rows that entries add to HISTORY
abbrev pub rows_added : List Entry → List History
rows_added entries = flat_map (λ e. added e.writes.history_row) entries

-- the version that a commit, by its TID, makes of a value
abbrev pub committed_version : ℕ → Option (List ℕ) → List ℕ
committed_version tid value = installed_word tid value ∷ unwrap_or value no_payload

-- the versions that these writes of a commit add to record n, and those of an entry: one or none
abbrev pub new_versions : ℕ → List (ℕ × Option (List ℕ)) → ℕ → Versions
new_versions tid values n = option_map_or (λ value. committed_version tid value ∷ [])
    (lookup (is_at (nat_cmp n)) values) []

abbrev pub entry_versions : Entry → ℕ → Versions
entry_versions e n = new_versions e.tid e.writes.values n

-- the versions that entries add to record n, and all its versions: the one of the first tables, then those
abbrev pub later_versions : List Entry → ℕ → Versions
later_versions [] n = []
later_versions (e ∷ es) n = entry_versions e n ++ later_versions es n

abbrev pub all_versions : Database → List Entry → ℕ → Versions
all_versions t0 history n = first_version (rows t0 n) ∷ later_versions history n
