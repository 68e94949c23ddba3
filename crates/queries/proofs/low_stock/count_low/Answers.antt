use Rattle.std.proofs.Common.{◌≡◌, ℕ, ◌+◌, Bool, ◌==◌, ◌&&◌, List, length, filter, get_or, ◌∙◌, subst, arith}
use Rattle.std.proofs.lemmas.List.{take_all}
use Rattle.std.specs.List.{list_any, range_with_len}
use Rattle.tables.specs.Keys.{IsItemKey}
use Rattle.tables.specs.StockLevel.{is_low}
use Rattle.readset.proofs.UnderWay.{reads_none, reads_twice, candidate_still}
use Rattle.queries.proofs.Counted.{none_counted, counted_next}
use Rattle.queries.proofs.low_stock.count_low.Goals as goal

pub loop-item-init : goal.loop-item-init
loop-item-init g c = record {
  counted = λ t h. none_counted 1 g.K.Start.tables.scale.items;
  few = omega arith;
  reads = reads_none _ c.args.transaction.now;
}

pub loop-item-preserved : goal.loop-item-preserved
loop-item-preserved g c =
    let i = c.loop-item.invariant in
    let t0 = g.K.Start.tables in
    let query = c.args.query.now in
    let at = c.loop-item.item-index in
    let items = c.args.items.now in
    let item = get_or items at 0 in
    let old = c.loop-item.transaction in
    let new = c.count_item.new.transaction in
    let more = c.count_item.ensures.reads in
    let is_item : IsItemKey t0.scale item = c.requires.items at 0 c.loop-item-test.true in
    record {
      counted = λ t h.
          let low : ℕ → Bool = λ j. is_low t query.warehouse query.threshold j in
          let so_far = i.counted t (candidate_still t0 old new 1 more t h) in
          let one = c.in_ok-low.ensures.low t h in
          counted_next items at c.loop-item-test.true low t0.scale.items c.requires.rising is_item.0 is_item.1 ∙ (λ j. so_far j + one j);
      few = omega (arith, c.in_ok-low.ensures.range, i.few);
      reads = reads_twice c.args.transaction.now old new at 1 (at + 1) i.reads more (omega arith);
    }

pub returns-clause-low : goal.returns-clause-low
returns-clause-low g c = λ t h.
    let all = take_all c.loop-item.item-index c.args.items.now (omega (arith, c.loop-item-test.false)) in
    subst (λ (items : List ℕ). length
    (filter (λ i. list_any (λ j. j == i) items && is_low t c.args.query.now.warehouse c.args.query.now.threshold i)
    (range_with_len 1 g.K.Start.tables.scale.items)) ≡ c.loop-item.low) all
    (c.loop-item.invariant.counted t h)
