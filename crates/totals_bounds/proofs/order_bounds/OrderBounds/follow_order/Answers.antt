use Rattle.std.proofs.Common.{◌<◌, ◌*◌, ◌-◌, length, refl, sym, ap, ◌∙◌, subst, arith}
use Rattle.std.proofs.lemmas.Grind.{get_or_default_zero}
use Rattle.std.specs.Vec.{with_item}
use Rattle.tables.specs.Records.{record_number}
use Rattle.tables.specs.declared.records.Table.TheVariants as table
use Rattle.totals_bounds.specs.Bounds.{BoundsView}
use Rattle.cells.specs.Records.{held_by}
use Rattle.totals_bounds.specs.Ends.{KeepsEnds}
use Rattle.totals_bounds.specs.contracts.order_bounds.OrderBounds.{the_view}
use Rattle.totals_bounds.proofs.Stored.{order_stored, IsGreatestAfter}
use Rattle.totals_bounds.proofs.order_bounds.OrderBounds.follow_order.Goals as goal

pub returns-clause-follows : goal.returns-clause-follows
returns-clause-follows c =
    let held = held_by c.args.pen.now in
    let v = the_view c.self.inside in
    let at = c.order_at-district in
    let first = c.args.number - (at.result.1 - 1) in
    let found : IsGreatestAfter held first at.result.1 c.index-greatest.result.now c.greatest_after.result = record {
      there = c.greatest_after.ensures.there;
      number = λ there. c.greatest_after.ensures.number there (omega arith);
      others = λ n there up. c.greatest_after.ensures.others n there (omega arith) up;
      limit = let h = c.greatest_after.ensures.limit in omega (arith, h);
    } in
    let below : at.result.0 < length v.greatest_order = subst (λ n. at.result.0 < n) (sym c.self.invariant.greatest_order) at.ensures.limit in
    subst (λ (w : BoundsView). KeepsEnds w.scale held c.args.number w
    (the_view (record c.self.inside { greatest_order = with_item c.self.inside.greatest_order at.result.0 c.greatest_after.result })))
    c.self.view_is
    (order_stored held v c.self.invariant c.args.place
    (subst (λ (w : BoundsView). c.args.place < w.scale.warehouses * w.scale.districts * w.scale.orders) (sym c.self.view_is) c.requires.place)
    at.result.0 at.result.1 at.ensures.district at.ensures.order c.args.number first refl
    (c.requires.number ∙ ap (λ (w : BoundsView). record_number w.scale table.Order c.args.place) (sym c.self.view_is))
    c.index-greatest.result.now (c.index-greatest.ensures ∙ get_or_default_zero v.greatest_order at.result.0 c.index-greatest.result.now below)
    c.greatest_after.result found _ refl)
