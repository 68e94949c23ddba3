use Rattle.std.proofs.Common.{◌-◌, ◌+◌, ℕ, subst, sym, arith}
use Rattle.tables.specs.declared.records.Table.TheVariants as table
use Rattle.tables.proofs.InTurn.{IsPast, past_none, past_one, past_all, found_here}
use Rattle.tables.proofs.located.locate.Goals as goal

pub loop-table-init : goal.loop-table-init
loop-table-init c = past_none c.args.scale.now c.args.number c.requires

pub returns-then-place-size-clause-table : goal.returns-then-place-size-clause-table
returns-then-place-size-clause-table c =
    (found_here c.args.scale.now c.args.number c.loop-table.table-index c.loop-table.place table.Warehouse c.loop-table-test.true c.loop-table.invariant
    (omega (arith, c.size-size.ensures.value))).0

pub returns-then-place-size-clause-place : goal.returns-then-place-size-clause-place
returns-then-place-size-clause-place c =
    (found_here c.args.scale.now c.args.number c.loop-table.table-index c.loop-table.place table.Warehouse c.loop-table-test.true c.loop-table.invariant
    (omega (arith, c.size-size.ensures.value))).1

pub loop-table-preserved : goal.loop-table-preserved
loop-table-preserved c =
    subst (λ (m : ℕ). IsPast c.args.scale.now c.args.number (c.loop-table.table-index + 1) (c.loop-table.place - m)) (sym c.size-size.ensures.value)
    (past_one c.args.scale.now c.args.number c.loop-table.table-index c.loop-table.place table.Warehouse c.loop-table-test.true c.loop-table.invariant
    (omega (arith, c.size-size.ensures.value)))

pub returns-clause-table : goal.returns-clause-table
returns-clause-table c = absurd (past_all c.args.scale.now c.args.number c.loop-table.table-index c.loop-table.place (omega arith) c.loop-table.invariant)

pub returns-clause-place : goal.returns-clause-place
returns-clause-place c = absurd (past_all c.args.scale.now c.args.number c.loop-table.table-index c.loop-table.place (omega arith) c.loop-table.invariant)

pub returns-clause-within : goal.returns-clause-within
returns-clause-within c = absurd (past_all c.args.scale.now c.args.number c.loop-table.table-index c.loop-table.place (omega arith) c.loop-table.invariant)

pub returns-clause-fits : goal.returns-clause-fits
returns-clause-fits c = absurd (past_all c.args.scale.now c.args.number c.loop-table.table-index c.loop-table.place (omega arith) c.loop-table.invariant)
