use Rattle.std.proofs.Common.{◌≡◌, ℕ, suc, ◌+◌, ◌-◌, ◌<◌, ◌≤◌, None, sym, ap, ◌∙◌, subst, arith}
use Rattle.tables.specs.Sizes.{Sizes}
use Rattle.tables.specs.Records.{narrow_count, key_of}
use Rattle.totals.specs.Totals.{SumsView}
use Rattle.cells.specs.Records.{PenView, held_by}
use Rattle.totals.specs.Moves.{MovesSums, order_before, step, no_history}
use Rattle.totals.specs.Opening.{worth_from}
use Rattle.totals.proofs.Moving.{none_moves, then_moves}
use Rattle.totals.proofs.running.RunningSums.count_records.Goals as goal

one_less : (count n : ℕ) → n < count → count - n ≡ suc (count - (n + 1))
one_less count n h = omega (arith, h)

none_left : (count n : ℕ) → count ≤ n → count - n ≡ 0
none_left count n h = omega (arith, h)

pub loop-number-preserved : goal.loop-number-preserved
loop-number-preserved c =
    let s = c.args.self.now.scale in
    let held = held_by c.args.pen.now in
    let n = c.loop-number.number in
    let count = c.narrow_count-count.result in
    record {
      pen = c.count_record.ensures.pen ∙ c.loop-number.invariant.pen;
      scale = c.count_record.ensures.scale ∙ c.loop-number.invariant.scale;
      rest = λ v moves.
          let this = subst (λ (q : Sizes × PenView). MovesSums q.0 (order_before q.0 (held_by q.1)) (step (key_of q.0 n) None (held_by q.1 n)) no_history
          c.loop-number.self c.count_record.new.self)
          (λ i. (c.loop-number.invariant.scale i, c.loop-number.invariant.pen i)) c.count_record.ensures.moves in
          c.loop-number.invariant.rest v
          (subst (λ m. MovesSums s (order_before s held) (worth_from s held m n) no_history c.loop-number.self v)
          (sym (one_less count n c.loop-number-test.true))
          (then_moves s (order_before s held) (step (key_of s n) None (held n)) (worth_from s held (count - (n + 1)) (n + 1)) no_history no_history
          c.loop-number.self c.count_record.new.self v this moves));
    }

pub returns-clause-moves : goal.returns-clause-moves
returns-clause-moves c =
    let s = c.args.self.now.scale in
    let held = held_by c.args.pen.now in
    let n = c.loop-number.number in
    let count = c.narrow_count-count.result in
    subst (λ m. MovesSums s (order_before s held) (worth_from s held m 0) no_history c.args.self.now c.loop-number.self)
    (c.narrow_count-count.ensures ∙ ap (λ (w : SumsView). narrow_count w.scale) c.self.view_is)
    (c.loop-number.invariant.rest c.loop-number.self
    (subst (λ m. MovesSums s (order_before s held) (worth_from s held m n) no_history c.loop-number.self c.loop-number.self)
    (sym (none_left count n c.loop-number-test.false))
    (none_moves s (order_before s held) c.loop-number.self)))
