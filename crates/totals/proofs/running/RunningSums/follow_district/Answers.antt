use Rattle.std.proofs.Common.{rules, ℕ, ◌*◌, ◌/◌, ◌<◌, FitsSigned, option_copied, length, sym, ap, ◌∙◌, subst}
use Rattle.std.specs.Int.{w64}
use Rattle.tables.specs.Records.{district_at}
use Rattle.totals_bounds.proofs.KeysAt.{down, row_below}
use Rattle.totals.specs.Totals.{SumsView}
use Rattle.totals.specs.Steps.{district_step}
use Rattle.totals.specs.contracts.running.RunningSums.{the_view}
use Rattle.totals.proofs.Wraps.{moved_by, stored}
use Rattle.totals.proofs.running.RunningSums.follow_district.Goals as goal

pub returns : goal.returns
returns c =
    let new : FitsSigned w64 c.signed_word-after.result = search rules in
    let old : FitsSigned w64 c.signed_word-before.result = search rules in
    let place = ap (λ w. c.args.place / w) c.districts.ensures.value ∙ sym (down (c.args.place / c.self.inside.scale.districts)) in
    let moves = moved_by w64 c.self.inside.year_to_date.items _ _ _ _ _ _ _ _ new old c.move_amount.ensures c.deref_mut.ensures.value place
    c.signed_word-after.ensures c.signed_word-before.ensures in
    (λ i. record (the_view c.self.inside) { year_to_date = stored w64 c.self.inside.year_to_date _ _ _ moves i })
    ∙ ap (λ (v : SumsView). district_step v (district_at v.scale c.args.place) (option_copied c.args.old) (option_copied c.args.new)) c.self.view_is

pub move_amount-requires : goal.move_amount-requires
move_amount-requires c =
    let s = c.self.inside.scale in
    let p = c.args.place in
    let below = subst (λ (w : SumsView). p < w.scale.warehouses * w.scale.districts) (sym c.self.view_is) c.requires in
    let room = ap length c.deref_mut.ensures.value ∙ c.self.invariant.year_to_date in
    subst (λ (q : ℕ × ℕ). p / q.0 < q.1) (λ i. (sym c.districts.ensures.value i, sym room i)) (row_below s.warehouses s.districts p below)
