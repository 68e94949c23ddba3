use Rattle.std.proofs.Common.{sym, subst}
use Rattle.tables.specs.Keys.{IsCustomerKey}
use Rattle.totals_report.specs.Found.{IsFound}
use Rattle.totals_report.proofs.Tells.{says_10, says_12}
use Rattle.totals_report.proofs.Arms.{asked_customer}
use Rattle.totals_report.proofs.asking.ask_customer.Goals as goal

pub returns : goal.returns
returns c = λ t totals at found.
    let v = c.args.sums.now in
    let b = c.args.bounds.now in
    let k = c.args.key in
    let ws = c.args.words.now in
    let is : IsCustomerKey t.scale k = subst (λ s. IsCustomerKey s k) totals.sums_scale c.requires in
    let asked = asked_customer t k is c.args.report.now c.condition_10.result c.condition_12.result
    (says_10 v b t totals k is ws at c.condition_10.result c.condition_10.ensures)
    (says_12 v b t totals k is ws at c.condition_12.result c.condition_12.ensures) found in
    subst (IsFound t _) (λ i. record c.args.report.now { condition_10 = sym c.note.ensures i; condition_12 = sym c.note-2.ensures i }) asked
