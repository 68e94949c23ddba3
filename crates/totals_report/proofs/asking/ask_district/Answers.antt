use Rattle.std.proofs.Common.{sym, subst}
use Rattle.tables.specs.Keys.{IsDistrictKey}
use Rattle.totals_report.specs.Found.{IsFound}
use Rattle.totals_report.proofs.Tells.{says_2, says_3, says_4, says_9}
use Rattle.totals_report.proofs.Arms.{asked_district}
use Rattle.totals_report.proofs.asking.ask_district.Goals as goal

pub returns : goal.returns
returns c = λ t totals at found.
    let v = c.args.sums.now in
    let b = c.args.bounds.now in
    let k = c.args.key in
    let ws = c.args.words.now in
    let is : IsDistrictKey t.scale k = subst (λ s. IsDistrictKey s k) totals.sums_scale c.requires.sums in
    let asked = asked_district t k is c.args.report.now c.condition_2.result c.condition_3.result c.condition_4.result c.condition_9.result
    (says_2 v b t totals k is ws at c.condition_2.result c.condition_2.ensures)
    (says_3 v b t totals k is c.condition_3.result c.condition_3.ensures)
    (says_4 v b t totals k is c.condition_4.result c.condition_4.ensures)
    (says_9 v b t totals k is ws at c.condition_9.result c.condition_9.ensures) found in
    subst (IsFound t _) (λ i. record c.args.report.now { condition_2 = sym c.note.ensures i; condition_3 = sym c.note-2.ensures i; condition_4 = sym c.note-3.ensures i; condition_9 = sym c.note-4.ensures i }) asked
