use Rattle.std.proofs.Common.{refl, sym, subst}
use Rattle.tables.specs.Database.{database}
use Rattle.cells.specs.Records.{PenView}
use Rattle.book.specs.Parts.{AreUnwritten}
use Rattle.book.proofs.TotalsKept.{first_records}
use Rattle.book.proofs.parts.records_of.Goals as goal

pub of-requires-clause-records : goal.of-requires-clause-records
of-requires-clause-records g c =
    let t0 = database c.args.tables.now in (
      t0,
      refl,
      sym c.deref.ensures.value,
      first_records t0 c.in_ok-records.records c.args.terminals c.in_ok-records.ensures.records c.requires.well_formed c.requires.consistent,
    )

pub returns-clause-totals : goal.returns-clause-totals
returns-clause-totals g c =
    let t0 = database c.args.tables.now in
    c.in_ok-totals.ensures.totals t0 refl (sym c.deref.ensures.value)
    (first_records t0 c.in_ok-records.records c.args.terminals c.in_ok-records.ensures.records c.requires.well_formed c.requires.consistent)

pub returns-clause-records : goal.returns-clause-records
returns-clause-records g c =
    subst (λ (pen : PenView). AreUnwritten (database c.args.tables.now) c.args.terminals (record c.in_ok-records.records { pen = pen })) (sym c.of.ensures.pen)
    c.in_ok-records.ensures.records
