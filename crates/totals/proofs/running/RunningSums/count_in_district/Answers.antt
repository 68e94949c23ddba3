use Rattle.std.proofs.Common.{rules, FitsSigned, option_copied, refl, ap, ◌∙◌}
use Rattle.std.specs.Int.{w64}
use Rattle.totals.specs.Totals.{SumsView}
use Rattle.totals.specs.Steps.{district_line_step}
use Rattle.totals.specs.contracts.running.RunningSums.{the_view}
use Rattle.totals.proofs.Wraps.{moved_by, stored}
use Rattle.totals.proofs.running.RunningSums.count_in_district.Goals as goal

pub returns : goal.returns
returns c =
    let new : FitsSigned w64 c.presence-after.result = search rules in
    let old : FitsSigned w64 c.presence-before.result = search rules in
    let moves = moved_by w64 c.self.inside.district_lines.items _ _ _ _ _ _ _ _ new old c.move_amount.ensures c.deref_mut.ensures.value refl
    c.presence-after.ensures c.presence-before.ensures in
    (λ i. record (the_view c.self.inside) { district_lines = stored w64 c.self.inside.district_lines _ _ _ moves i })
    ∙ ap (λ (v : SumsView). district_line_step v c.args.district (option_copied c.args.old) (option_copied c.args.new)) c.self.view_is
