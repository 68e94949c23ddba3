use Rattle.std.proofs.Common.{sym, subst}
use Rattle.tables.specs.Keys.{IsWarehouseKey}
use Rattle.totals_report.specs.Found.{IsFound}
use Rattle.totals_report.proofs.Tells.{through, told_1, told_8}
use Rattle.totals_report.proofs.Arms.{asked_warehouse}
use Rattle.totals_report.proofs.asking.ask_warehouse.Goals as goal

pub returns : goal.returns
returns c = λ t totals at found.
    let v = c.args.sums.now in
    let b = c.args.bounds.now in
    let k = c.args.warehouse in
    let ws = c.args.words.now in
    let is : IsWarehouseKey t.scale k = subst (λ s. IsWarehouseKey s k) totals.sums_scale c.requires in
    let asked = asked_warehouse t k is c.args.report.now c.condition_1.result c.condition_8.result
    (through c.condition_1.ensures (told_1 v b t totals k is ws at))
    (through c.condition_8.ensures (told_8 v b t totals k is ws at)) found in
    subst (IsFound t _) (λ i. record c.args.report.now { condition_1 = sym c.note.ensures i; condition_8 = sym c.note-2.ensures i }) asked
