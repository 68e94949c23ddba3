use Rattle.std.proofs.Common.{◌+◌, ◌++◌, ◌≡◌, ℕ, List, Option, None, true, [], drop, get_or, refl, sym, ap, ◌∙◌, subst}
use Rattle.std.proofs.lemmas.List.{drop_more, drop_all}
use Rattle.tables.specs.Sizes.{Sizes}
use Rattle.tables.specs.Records.{first_number, size}
use Rattle.tables.specs.declared.records.Table.TheVariants as table
use Rattle.totals_bounds.specs.Bounds.{BoundsView}
use Rattle.cells.specs.Records.{PenView, held_by}
use Rattle.totals_bounds.specs.Ends.{AreEnds, KeepsEnds, is_among}
use Rattle.totals_bounds.proofs.Placed.{looked_at}
use Rattle.totals_bounds.proofs.order_bounds.OrderBounds.follow_narrow.Goals as goal

pub loop-number-init : goal.loop-number-init
loop-number-init c = record {
  pen = refl;
  scale = refl;
  ends = λ others before. before;
}

pub follow_record-requires-clause-first : goal.follow_record-requires-clause-first
follow_record-requires-clause-first c = c.order_records-first.ensures.first
    ∙ ap (λ (w : BoundsView). first_number w.scale table.NewOrder) c.self.view_is
    ∙ ap (λ s. first_number s table.NewOrder) (sym c.loop-number.invariant.scale)

pub follow_record-requires-clause-end : goal.follow_record-requires-clause-end
follow_record-requires-clause-end c = c.order_records-first.ensures.end
    ∙ ap (λ (w : BoundsView). first_number w.scale table.NewOrder + (size w.scale table.NewOrder + size w.scale table.Order)) c.self.view_is
    ∙ ap (λ s. first_number s table.NewOrder + (size s table.NewOrder + size s table.Order)) (sym c.loop-number.invariant.scale)

pub loop-number-preserved : goal.loop-number-preserved
loop-number-preserved c =
    let s = c.args.self.now.scale in
    let held = held_by c.args.pen.now in
    let items = c.args.values.now in
    let i = c.loop-number.number-index in
    let w = get_or items i (0, None) in
    record {
      pen = c.follow_record.ensures.pen ∙ c.loop-number.invariant.pen;
      scale = c.follow_record.ensures.scale ∙ c.loop-number.invariant.scale;
      ends = λ others before.
          let follows = subst (λ (q : Sizes × PenView). KeepsEnds q.0 (held_by q.1) w.0 c.loop-number.self c.follow_record.new.self)
          (λ i. (c.loop-number.invariant.scale i, c.loop-number.invariant.pen i)) c.follow_record.ensures.follows in
          follows (is_among (drop i items ++ others)) (is_among (drop (i + 1) items ++ others))
          (λ n done was. looked_at w (drop (i + 1) items ++ others) n done
          (subst (λ ws. is_among (ws ++ others) n ≡ true) (drop_more items i (0, None) c.loop-number-test.true) was))
          (c.loop-number.invariant.ends others before);
    }

pub returns-clause-scale : goal.returns-clause-scale
returns-clause-scale c = c.loop-number.invariant.scale

pub returns-clause-ends : goal.returns-clause-ends
returns-clause-ends c = λ others before.
    let none : drop c.loop-number.number-index c.args.values.now ≡ [] =
    drop_all c.loop-number.number-index c.args.values.now c.loop-number-test.false in
    subst (λ (ws : List (ℕ × Option (List ℕ))). AreEnds c.args.self.now.scale (held_by c.args.pen.now) (is_among (ws ++ others)) c.loop-number.self) none
    (c.loop-number.invariant.ends others before)
