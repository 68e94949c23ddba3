use Rattle.std.proofs.Common.{◌<◌, ◌*◌, ◌-◌, length, refl, sym, ap, ◌∙◌, subst}
use Rattle.std.proofs.lemmas.Grind.{get_or_default_zero}
use Rattle.std.specs.Vec.{with_item}
use Rattle.tables.specs.Records.{record_number}
use Rattle.tables.specs.declared.records.Table.TheVariants as table
use Rattle.totals_bounds.specs.Bounds.{BoundsView}
use Rattle.cells.specs.Records.{PenView, held_by}
use Rattle.totals_bounds.specs.Ends.{KeepsEnds}
use Rattle.totals_bounds.specs.contracts.order_bounds.OrderBounds.{the_view}
use Rattle.totals_bounds.proofs.Stored.{new_order_stored, IsLeastAfter, IsGreatestBeside}
use Rattle.totals_bounds.proofs.order_bounds.OrderBounds.follow_new_order.Goals as goal

pub returns-clause-follows : goal.returns-clause-follows
returns-clause-follows c =
    let held = held_by c.args.pen.now in
    let v = the_view c.self.inside in
    let at = c.order_at-district in
    let place = at.result.0 in
    let first = c.args.number - (at.result.1 - 1) in
    let least = c.index-least.result.now in
    let greatest = c.index-greatest.result.now in
    let low = c.least_after-low.result in
    let high = c.greatest_beside.result in
    let found : IsLeastAfter held first at.result.1 least greatest low = record {
      there = c.least_after-low.ensures.there;
      number = c.least_after-low.ensures.number;
      others = c.least_after-low.ensures.others;
      limit = c.least_after-low.ensures.limit;
    } in
    let beside' : IsGreatestBeside (held_by c.least_after-low.new.pen) first at.result.1 low greatest high = record {
      there = c.greatest_beside.ensures.there;
      number = c.greatest_beside.ensures.number;
      others = c.greatest_beside.ensures.others;
      limit = c.greatest_beside.ensures.limit;
    } in
    let beside = subst (λ (p : PenView). IsGreatestBeside (held_by p) first at.result.1 low greatest high) c.least_after-low.ensures.pen beside' in
    let below : place < length v.least_waiting = subst (λ n. place < n) (sym c.self.invariant.least_waiting) at.ensures.limit in
    let below' : place < length v.greatest_waiting = subst (λ n. place < n) (sym c.self.invariant.greatest_waiting) at.ensures.limit in
    subst (λ (w : BoundsView). KeepsEnds w.scale held c.args.number w
    (the_view (record c.self.inside {
      least_waiting = with_item c.self.inside.least_waiting place low;
      greatest_waiting = with_item c.self.inside.greatest_waiting place high;
    })))
    c.self.view_is
    (new_order_stored held v c.self.invariant c.args.place
    (subst (λ (w : BoundsView). c.args.place < w.scale.warehouses * w.scale.districts * w.scale.orders) (sym c.self.view_is) c.requires.place)
    place at.result.1 at.ensures.district at.ensures.order c.args.number first refl
    (c.requires.number ∙ ap (λ (w : BoundsView). record_number w.scale table.NewOrder c.args.place) (sym c.self.view_is)) least greatest
    (c.index-least.ensures ∙ get_or_default_zero v.least_waiting place least below)
    (c.index-greatest.ensures ∙ get_or_default_zero v.greatest_waiting place greatest below') low high found beside _ _ refl refl)
