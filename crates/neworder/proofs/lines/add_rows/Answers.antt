use Rattle.std.proofs.Common.{◌+◌, ◌<◌, List, [], ◌∷◌, ◌++◌, length, take, get_or, sym, ap, ◌∙◌, subst, arith}
use Rattle.std.proofs.lemmas.List.{take_more}
use Rattle.tables.specs.declared.new_order.RequestedLine.{RequestedLine}
use Rattle.readset.proofs.UnderWay.{goes_on_twice}
use Rattle.neworder.specs.Steps.{AreTaken, with_last}
use Rattle.neworder.proofs.SoFar.{so_far}
use Rattle.neworder.proofs.lines.add_rows.Goals as goal

pub loop-line-preserved : goal.loop-line-preserved
loop-line-preserved g c =
    let i = c.loop-line.line-index in
    let so = c.loop-line.invariant in
    let x = c.args.order.now in
    let t0 = g.K.Start.tables in
    let k = c.args.key in
    let now = c.add_row.new.transaction in
    let none : RequestedLine = record { item = 0; supply_warehouse = 0; quantity = 0 } in
    let more = subst (λ (ls : List RequestedLine). i < length ls) c.as_slice-line-items.ensures c.loop-line-test.true in
    record {
      number = ap (λ n. n + 1) so.number;
      added =
          subst (λ ls. AreTaken t0 x k ls [] (with_last t0 x k now) [])
          (sym (take_more x.lines i none more ∙ ap (λ (ls : List RequestedLine). take i x.lines ++ get_or ls i none ∷ [])
          (sym c.as_slice-line-items.ensures)))
          (c.in_ok-add_row.ensures.added (take i x.lines) (so_far x.lines c.loop-line.number i so.number more) so.added);
      goes_on = goes_on_twice c.args.transaction.now c.loop-line.transaction now i i 1 1 (i + 1) (i + 1) so.goes_on
          c.add_row.ensures.goes_on (omega arith) (omega arith);
    }
