use Rattle.std.proofs.Common.{rules, ◌-ℤ◌, FitsSigned, ◌∙◌}
use Rattle.std.proofs.lemmas.Int.{to_z-of_z}
use Rattle.std.specs.Int.{w64, w128}
use Rattle.totals_report.proofs.Tells.{equal_sides, through}
use Rattle.totals_report.proofs.holding.is_difference.Goals as goal

pub returns : goal.returns
returns c =
    let here : FitsSigned w128 c.wide.result = search rules in
    let there : FitsSigned w128 c.difference.result = search rules in
    let amount : FitsSigned w64 c.args.amount = search rules in
    let one : FitsSigned w64 c.args.one = search rules in
    let other : FitsSigned w64 c.args.other = search rules in
    through c.same.ensures (equal_sides (to_z-of_z w128 c.wide.result here ∙ c.wide.ensures ∙ to_z-of_z w64 c.args.amount amount)
    (to_z-of_z w128 c.difference.result there ∙ c.difference.ensures ∙ (λ i. to_z-of_z w64 c.args.one one i -ℤ to_z-of_z w64 c.args.other other i)))
