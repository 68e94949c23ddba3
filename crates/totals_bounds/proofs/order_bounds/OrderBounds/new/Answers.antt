use Rattle.std.proofs.Common.{rules, ◌≡◌, sym, subst}
use Rattle.tables.specs.Database.{empty_database}
use Rattle.totals_bounds.specs.Bounds.{BoundsView, AreBounds, no_bounds}
use Rattle.totals_bounds.proofs.Opening.{without_rows}
use Rattle.totals_bounds.proofs.order_bounds.OrderBounds.new.Goals as goal

pub returns-clause-bounds : goal.returns-clause-bounds
returns-clause-bounds c =
    let made : BoundsView = record {
      scale = c.args.scale;
      greatest_order = c.in_ok-vec.field-0.items;
      least_waiting = c.in_ok-vec-2.field-0.items;
      greatest_waiting = c.in_ok-vec-3.field-0.items;
    } in
    let zeros : made ≡ no_bounds c.args.scale = search rules in
    subst (AreBounds c.args.scale (empty_database c.args.scale)) (sym zeros) (without_rows c.args.scale)
