-- When what a transaction read explains what it is to write and reply.
use Rattle.std.specs.Prelude.{◌≡◌, ◌⊎◌, ℕ, ◌<◌, ◌≤◌, true, Option, Some, IsSome, List, length}
use Rattle.tables.specs.Sizes.{Sizes}
use Rattle.tables.specs.Database.{Database}
use Rattle.tables.specs.Keys.{IsDistrictKey, is_district}
use Rattle.tables.specs.Records.{number_of_key}
use Rattle.tables.specs.Rows.{rows}
use Rattle.tables.specs.Conditions.{Condition2At, Condition3At, Condition6At}
use Rattle.tables.specs.Constant.{IsOf}
use Rattle.tables.specs.WellFormed.{IsWellFormed}
use Rattle.tables.specs.declared.keys.DistrictKey.{DistrictKey}
use Rattle.tables.specs.declared.keys.OrderKey.{OrderKey}
use Rattle.tables.specs.declared.records.RecordKey.TheVariants as key
use Rattle.tables.specs.declared.input.Input.{Input}
use Rattle.tables.specs.declared.reply.Reply.{Reply}
use Rattle.cells.specs.Records.{CellsView, cell_count}
use Rattle.cells.specs.declared.cells.Version.{Version}
use Rattle.tables.specs.declared.limits.TheConstants.{MAX_READS, MAX_WRITES}
use Rattle.readset.specs.Reads.{ReadSetView, AreWithin, held, value_of}
use Rattle.readset.specs.Writes.{WriteSetView, AreWrittenOfKind, value_for}
use Rattle.readset.specs.Commit.{IsCommitOf}

-- each value read is the one that the tables have
abbrev pub Agrees : Database → ReadSetView → Type 0
Agrees t reads = (n : ℕ) (v : Version) → held reads n ≡ Some v → value_of v ≡ rows t n

-- a district's orders and their numbers are as conditions 2, 3 and 6 say (TPC-C 3.3.2)
pub record HasOrderConditions (t : Database) (k : DistrictKey) : Type 0 where
  pub condition_2 : Condition2At t k
  pub condition_3 : Condition3At t k
  pub condition_6 : (j : OrderKey) → is_district j.warehouse j.district k ≡ true → Condition6At t j

-- a record of the district was read: its DISTRICT row's, or OLDEST's
abbrev pub IsDistrictRead : Sizes → ReadSetView → DistrictKey → Type 0
IsDistrictRead s reads k =
    IsSome (held reads (number_of_key s (key.District k))) ⊎ IsSome (held reads (number_of_key s (key.Oldest k)))

-- the tables at which a transaction may have read: the population's, well-formed, as read, and with these conditions of
-- each district read. All consistent, well-formed tables that agree with what was read are among them
pub record IsCandidate (t0 : Database) (reads : ReadSetView) (t : Database) : Type 0 where
  pub of_population : IsOf t0 t
  pub well_formed : IsWellFormed t
  pub numbered : (k : DistrictKey) → IsDistrictKey t.scale k → IsDistrictRead t.scale reads k → HasOrderConditions t k
  pub agrees : Agrees t reads

-- at all such tables, the transaction has this reply and these writes
abbrev pub Explains : Database → Input → ReadSetView → WriteSetView → Reply → Type 0
Explains t0 x reads writes reply = (t : Database) → IsCandidate t0 reads t → IsCommitOf t x writes reply

-- no such tables
abbrev pub NoCandidate : Database → ReadSetView → Type 0
NoCandidate t0 reads = (t : Database) → ¬ IsCandidate t0 reads t

-- no write of a record that wasn't read
abbrev pub WritesAreRead : WriteSetView → ReadSetView → Type 0
WritesAreRead writes reads = (n : ℕ) (value : Option (List ℕ)) → value_for writes n ≡ Some value → IsSome (held reads n)

-- at most so many reads and writes, each of a record that has a cell and is of that kind, and no write of a record that
-- wasn't read
pub record IsWithinLimits (cells : CellsView) (reads : ReadSetView) (writes : WriteSetView) : Type 0 where
  pub reads_limit : length reads ≤ MAX_READS
  pub writes_limit : length writes.values ≤ MAX_WRITES
  pub reads_cells : AreWithin (cell_count cells) reads
  pub writes_cells : (n : ℕ) (value : Option (List ℕ)) → value_for writes n ≡ Some value → n < cell_count cells
  pub writes_kinds : AreWrittenOfKind cells writes
  pub writes_read : WritesAreRead writes reads
