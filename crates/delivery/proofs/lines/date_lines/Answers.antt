use Rattle.std.proofs.Common.{◌≡◌, ◌+◌, ◌-◌, ℤ, sym, subst, arith}
use Rattle.std.proofs.lemmas.Int.{ints}
use Rattle.readset.proofs.UnderWay.{goes_on_twice}
use Rattle.delivery.specs.Steps.{AreDated}
use Rattle.delivery.proofs.lines.date_lines.Goals as goal

pub loop-done-preserved : goal.loop-done-preserved
loop-done-preserved g c =
    let i = c.loop-done.invariant in
    let k = c.args.order in
    let x = c.args.delivery.now in
    let t0 = g.K.Start.tables in
    let done = c.loop-done.done in
    let before : done ≡ done + 1 - 1 = omega arith in
    let low = c.in_ok-amount.ensures.range in
    record {
      dated = subst (λ (s : ℤ). AreDated t0 x (k.district - 1) k.order (done + 1) c.date_line.new.transaction s) (sym c.add-sum.ensures)
          (c.in_ok-amount.ensures.dated c.loop-done.sum
          (subst (λ m. AreDated t0 x (k.district - 1) k.order m c.loop-done.transaction c.loop-done.sum) before i.dated));
      range = (omega (arith, ints, low.0, i.range.0, c.add-sum.ensures), omega (arith, ints, low.1, i.range.1, c.add-sum.ensures));
      goes_on = goes_on_twice c.args.transaction.now c.loop-done.transaction c.date_line.new.transaction done done 1 1 (done + 1) (done + 1) i.goes_on
          c.date_line.ensures.goes_on (omega arith) (omega arith);
    }

pub returns-clause-dated : goal.returns-clause-dated
returns-clause-dated g c =
    let all : c.loop-done.done ≡ c.args.count = omega (arith, c.loop-done.auto.done-end, c.loop-done-test.false) in
    subst (λ m. AreDated g.K.Start.tables c.args.delivery.now (c.args.order.district - 1) c.args.order.order m c.loop-done.transaction c.loop-done.sum) all
    c.loop-done.invariant.dated
