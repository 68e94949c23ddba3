use Rattle.std.proofs.Common.{◌≡◌, ℕ, ◌+◌, refl, sym, ap, ◌∙◌, subst, arith}
use Rattle.tables.specs.Sizes.{Sizes}
use Rattle.tables.specs.Records.{first_number, size}
use Rattle.tables.specs.declared.records.Table.TheVariants as table
use Rattle.totals_bounds.specs.Bounds.{BoundsView}
use Rattle.cells.specs.Records.{PenView, held_by}
use Rattle.totals_bounds.specs.Ends.{AreEnds, KeepsEnds}
use Rattle.totals_bounds.proofs.Opening.{is_outside, next_inside, none_yet, all_seen}
use Rattle.totals_bounds.proofs.order_bounds.OrderBounds.follow_all.Goals as goal

pub loop-number-init : goal.loop-number-init
loop-number-init c = record {
  pen = refl;
  scale = refl;
  ends = λ none. subst (AreEnds c.args.self.now.scale (held_by c.args.pen.now) (is_outside c.order_records-first.result.0 c.order_records-first.result.0))
      (sym none) (none_yet c.args.self.now.scale (held_by c.args.pen.now) c.order_records-first.result.0);
}

pub loop-number-preserved : goal.loop-number-preserved
loop-number-preserved c = record {
  pen = c.follow_record.ensures.pen ∙ c.loop-number.invariant.pen;
  scale = c.follow_record.ensures.scale ∙ c.loop-number.invariant.scale;
  ends = λ none.
      let follows = subst (λ (q : Sizes × PenView). KeepsEnds q.0 (held_by q.1) c.loop-number.number c.loop-number.self c.follow_record.new.self)
      (λ i. (c.loop-number.invariant.scale i, c.loop-number.invariant.pen i)) c.follow_record.ensures.follows in
      follows (is_outside c.order_records-first.result.0 c.loop-number.number) (is_outside c.order_records-first.result.0 (c.loop-number.number + 1))
      (next_inside c.order_records-first.result.0 c.loop-number.number) (c.loop-number.invariant.ends none);
}

pub returns-clause-ends : goal.returns-clause-ends
returns-clause-ends c = λ none.
    let v = c.args.self.now in
    let held = held_by c.args.pen.now in
    let first : c.order_records-first.result.0 ≡ first_number v.scale table.NewOrder =
    c.order_records-first.ensures.first ∙ ap (λ (w : BoundsView). first_number w.scale table.NewOrder) c.self.view_is in
    let end : c.order_records-first.result.1 ≡ first_number v.scale table.NewOrder + (size v.scale table.NewOrder + size v.scale table.Order) =
    c.order_records-first.ensures.end
    ∙ ap (λ (w : BoundsView). first_number w.scale table.NewOrder + (size w.scale table.NewOrder + size w.scale table.Order)) c.self.view_is in
    let next : c.loop-number.number ≡ c.order_records-first.result.1 = omega (arith, c.loop-number.auto.number-end, c.loop-number-test.false) in
    all_seen v.scale held c.loop-number.self
    (subst (λ (q : ℕ × ℕ). AreEnds v.scale held (is_outside q.0 q.1) c.loop-number.self) (λ i. (first i, (next ∙ end) i)) (c.loop-number.invariant.ends none))
