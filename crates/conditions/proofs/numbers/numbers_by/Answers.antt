use Rattle.std.proofs.Common.{ap, length, subst, sym, arith}
use Rattle.std.specs.Ordering.{eq_by_cmp}
use Rattle.std.specs.FinMap.{from_entries}
use Rattle.tables.specs.Keys.{district_cmp, order_cmp}
use Rattle.tables.specs.OrderNumbers.{numbers_in}
use Rattle.conditions.specs.Numbers.{gathered_at, AreNumbersOf}
use Rattle.conditions.proofs.Numbered.{numbered_more, count_more, are_numbers}
use Rattle.conditions.proofs.numbers.numbers_by.Goals as goal

pub loop-key-preserved : goal.loop-key-preserved
loop-key-preserved g c =
    let fewer = ap length c.in-Some.ensures.steps in
    record {
      numbers = λ k. numbered_more k c.loop-key.key-iterator c.next.new.self c.in-Some.key.now c.in-Some._row.now _ _ _ c.in-Some.ensures.steps
          (c.in_ok-add_number.ensures k) (c.loop-key.invariant.numbers k);
      few = λ k. omega (
        arith,
        fewer,
        c.loop-key.invariant.few k,
        count_more (eq_by_cmp district_cmp (record { warehouse = c.in-Some.key.now.warehouse; district = c.in-Some.key.now.district }) k)
            c.in-Some.key.now.order (gathered_at c.loop-key.gathered k) (gathered_at c.add_number.new.gathered k) (c.in_ok-add_number.ensures k),
      );
    }

pub returns : goal.returns
returns g c = λ k. subst (AreNumbersOf (numbers_in k (from_entries {R = order_cmp} c.args.rows.now.entries))) (sym (c.in_ok-put.ensures k))
    (are_numbers k c.args.rows.now c.loop-key.key-iterator (gathered_at c.loop-key.gathered k) c.iter-key-items.ensures.ordered
    c.in-None.ensures.steps.0 (c.loop-key.invariant.numbers k) (omega (arith, c.loop-key.invariant.few k)))
