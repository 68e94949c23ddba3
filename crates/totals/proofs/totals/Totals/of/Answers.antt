use Rattle.std.proofs.Common.{List, sym, ◌∙◌, subst}
use Rattle.tables.specs.Sizes.{Sizes, IsScale}
use Rattle.tables.specs.declared.rows.History.{History}
use Rattle.tables.proofs.Numbers.{narrow_among}
use Rattle.cells.specs.Records.{PenView, held_by}
use Rattle.totals.specs.Moves.{HasBuyers}
use Rattle.totals.specs.Opening.{SumsOpen}
use Rattle.totals.specs.Counts.{AreHeld}
use Rattle.totals.proofs.Recorded.{buyers_named}
use Rattle.totals.proofs.totals.Totals.of.Goals as goal

pub of-requires-clause-buyers : goal.of-requires-clause-buyers
of-requires-clause-buyers c =
    let t = c.requires.records.0 in
    subst (λ s. HasBuyers s (held_by c.args.pen.now)) c.requires.records.1 (buyers_named c.args.pen.now t c.requires.records.3)

pub returns-clause-totals : goal.returns-clause-totals
returns-clause-totals c = λ t scale history are.
    let held = held_by c.args.pen.now in
    record {
      sums_scale = c.in_ok-sums.ensures.scale ∙ sym scale;
      bounds_scale = c.in_ok-bounds.ensures.scale ∙ sym scale;
      sums = c.sums_begin_with_tables.ensures t held c.in_ok-sums.sums (subst IsScale (sym scale) c.keeps_limits.ensures) are.well_formed
          are.consistent (λ n small. are.held n (narrow_among t.scale n small))
          (subst (λ (q : Sizes × List History). SumsOpen q.0 held q.1 c.in_ok-sums.sums) (λ i. (sym scale i, sym history i))
          c.in_ok-sums.ensures.sums);
      bounds = c.in_ok-bounds.ensures.bounds t scale (record { orders = are.well_formed.orders; new_orders = are.well_formed.new_orders })
          (λ n small. subst (λ (p : PenView). AreHeld p t) (sym c.of.ensures.pen) are.held n (narrow_among t.scale n small));
    }
