use Rattle.std.proofs.Common.{sym, subst}
use Rattle.tables.specs.Keys.{IsOrderKey}
use Rattle.totals_report.specs.Found.{IsFound}
use Rattle.totals_report.proofs.Tells.{says_6, through, told_5}
use Rattle.totals_report.proofs.Arms.{asked_order}
use Rattle.totals_report.proofs.asking.ask_order.Goals as goal

pub returns : goal.returns
returns c = λ t totals at beside found.
    let v = c.args.sums.now in
    let b = c.args.bounds.now in
    let k = c.args.key in
    let ws = c.args.words.now in
    let is : IsOrderKey t.scale k = subst (λ s. IsOrderKey s k) totals.sums_scale c.requires in
    let asked = asked_order t k is c.args.report.now c.condition_5.result c.condition_6.result
    (through c.condition_5.ensures (told_5 v b t totals k ws c.args.new_order.now at beside))
    (says_6 v b t totals k is ws at c.condition_6.result c.condition_6.ensures) found in
    subst (IsFound t _) (λ i. record c.args.report.now { condition_5 = sym c.note.ensures i; condition_6 = sym c.note-2.ensures i }) asked
