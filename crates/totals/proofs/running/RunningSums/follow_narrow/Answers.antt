use Rattle.std.proofs.Common.{◌+◌, ◌<◌, ◌≡◌, None, [], drop, get_or, refl, sym, ◌∙◌, subst}
use Rattle.std.proofs.lemmas.List.{drop_more, drop_all}
use Rattle.tables.specs.Sizes.{Sizes}
use Rattle.tables.specs.Records.{key_of, narrow_count}
use Rattle.cells.specs.Records.{PenView, held_by}
use Rattle.readset.specs.Cells.{AreCellsOf}
use Rattle.totals.specs.Moves.{MovesSums, HasBuyers, order_before, step, moved, no_history}
use Rattle.totals.proofs.Moving.{then_moves, none_moves}
use Rattle.totals.proofs.running.RunningSums.follow_narrow.Goals as goal

pub loop-number-init : goal.loop-number-init
loop-number-init c = record { pen = refl; scale = refl; rest = λ v moves. moves }

pub follow_record-requires-clause-number : goal.follow_record-requires-clause-number
follow_record-requires-clause-number c =
    subst (λ z. (get_or c.args.values.now c.loop-number.number-index (0, None)).0 < narrow_count z) (sym c.loop-number.invariant.scale)
    (c.requires.below c.loop-number.number-index (0, None) c.loop-number-test.true)

pub follow_record-requires-clause-count : goal.follow_record-requires-clause-count
follow_record-requires-clause-count c = subst (λ s. AreCellsOf s c.args.cells.now) (sym c.loop-number.invariant.scale) c.requires.count

pub follow_record-requires-clause-buyers : goal.follow_record-requires-clause-buyers
follow_record-requires-clause-buyers c = subst (λ (q : Sizes × PenView). HasBuyers q.0 (held_by q.1))
    (λ i. (sym c.loop-number.invariant.scale i, sym c.loop-number.invariant.pen i)) c.requires.buyers

pub loop-number-preserved : goal.loop-number-preserved
loop-number-preserved c =
    let s = c.args.self.now.scale in
    let held = held_by c.args.pen.now in
    let items = c.args.values.now in
    let w = get_or items c.loop-number.number-index (0, None) in
    record {
      pen = c.follow_record.ensures.pen ∙ c.loop-number.invariant.pen;
      scale = c.follow_record.ensures.scale ∙ c.loop-number.invariant.scale;
      rest = λ v moves.
          let this = subst (λ (q : Sizes × PenView). MovesSums q.0 (order_before q.0 (held_by q.1)) (step (key_of q.0 w.0) (held_by q.1 w.0) w.1) no_history
          c.loop-number.self c.follow_record.new.self)
          (λ i. (c.loop-number.invariant.scale i, c.loop-number.invariant.pen i)) c.follow_record.ensures.moves in
          c.loop-number.invariant.rest v
          (subst (λ ws. MovesSums s (order_before s held) (moved s held ws) no_history c.loop-number.self v)
          (sym (drop_more items c.loop-number.number-index (0, None) c.loop-number-test.true))
          (then_moves s (order_before s held) (step (key_of s w.0) (held w.0) w.1) (moved s held (drop (c.loop-number.number-index + 1) items)) no_history no_history
          c.loop-number.self c.follow_record.new.self v this moves));
    }

pub returns-clause-scale : goal.returns-clause-scale
returns-clause-scale c = c.loop-number.invariant.scale

pub returns-clause-moves : goal.returns-clause-moves
returns-clause-moves c =
    let s = c.args.self.now.scale in
    let held = held_by c.args.pen.now in
    let none : drop c.loop-number.number-index c.args.values.now ≡ [] =
    drop_all c.loop-number.number-index c.args.values.now c.loop-number-test.false in
    c.loop-number.invariant.rest c.loop-number.self
    (subst (λ ws. MovesSums s (order_before s held) (moved s held ws) no_history c.loop-number.self c.loop-number.self) (sym none)
    (none_moves s (order_before s held) c.loop-number.self))
