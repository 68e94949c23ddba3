-- When totals may be taken of records, and when they may follow a commit.
use Rattle.std.specs.Prelude.{◌≡◌, ℕ, ◌<◌}
use Rattle.tables.specs.Inputs.{IsInput}
use Rattle.tables.specs.Apply.{after}
use Rattle.tables.specs.Records.{record_count}
use Rattle.tables.specs.Rows.{rows}
use Rattle.tables.specs.Conditions.{IsConsistent}
use Rattle.tables.specs.WellFormed.{IsWellFormed}
use Rattle.tables.specs.Database.{Database}
use Rattle.tables.specs.declared.input.Input.{Input}
use Rattle.tables.specs.declared.reply.Reply.{Reply}
use Rattle.cells.specs.Records.{PenView, held_by}
use Rattle.readset.specs.Cells.{AreCellsOf}
use Rattle.readset.specs.Writes.{WriteSetView, AreWrittenOfKind}
use Rattle.readset.specs.Commit.{IsCommitOf}
use Rattle.totals.specs.Totals.{TotalsView, AreTotals}
use Rattle.totals.specs.Written.{AreWrites}

-- what records hold by their newest versions is what those of tables do
abbrev pub AreHeld : PenView → Database → Type 0
AreHeld pen t = (n : ℕ) → n < record_count t.scale → held_by pen n ≡ rows t n

-- these are the records of well-formed, consistent tables
pub record AreRecords (pen : PenView) (t : Database) : Type 0 where
  pub count : AreCellsOf t.scale pen.cells
  pub held : AreHeld pen t
  pub well_formed : IsWellFormed t
  pub consistent : IsConsistent t

-- totals of tables, and a commit's writes there, each of its record's kind, that leave well-formed tables
pub record MayFollow (t : Database) (x : Input) (reply : Reply) (v : TotalsView) (pen : PenView) (writes : WriteSetView)
    : Type 0 where
  pub totals : AreTotals t v
  pub records : AreRecords pen t
  pub input : IsInput t.scale x
  pub commit : IsCommitOf t x writes reply
  pub ordered : AreWrites t.scale writes
  pub kinds : AreWrittenOfKind pen.cells writes
  pub leaves : IsWellFormed (after t x)
