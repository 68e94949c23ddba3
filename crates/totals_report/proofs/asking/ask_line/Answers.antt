use Rattle.std.proofs.Common.{sym, subst}
use Rattle.tables.specs.Keys.{IsLineKey}
use Rattle.totals_report.specs.Found.{IsFound}
use Rattle.totals_report.proofs.Tells.{through, told_7}
use Rattle.totals_report.proofs.Arms.{asked_line}
use Rattle.totals_report.proofs.asking.ask_line.Goals as goal

pub returns : goal.returns
returns c = λ t totals at beside found.
    let v = c.args.sums.now in
    let b = c.args.bounds.now in
    let k = c.args.key in
    let ws = c.args.words.now in
    let is : IsLineKey t.scale k = subst (λ s. IsLineKey s k) totals.sums_scale c.requires in
    let asked = asked_line t k is c.args.report.now c.condition_7.result
    (through c.condition_7.ensures (told_7 v b t totals k ws c.args.order.now at beside)) found in
    subst (IsFound t _) (λ i. record c.args.report.now { condition_7 = sym c.note.ensures i }) asked
