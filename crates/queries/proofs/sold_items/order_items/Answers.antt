use Rattle.std.proofs.Common.{◌≡◌, ◌∙◌, ℕ, ◌+◌, List, length, All, sym, ap, subst, arith}
use Rattle.std.specs.Option.{option_map}
use Rattle.std.specs.FinMap.{get}
use Rattle.tables.specs.declared.keys.LineKey.{LineKey}
use Rattle.tables.specs.Keys.{IsItemKey}
use Rattle.readset.proofs.UnderWay.{reads_none, reads_twice, candidate_still}
use Rattle.tables.specs.Keys.{district_of_order}
use Rattle.queries.specs.SoldItems.{AreItems}
use Rattle.queries.proofs.LookedAt.{next_line, next_first}
use Rattle.queries.proofs.Pushed.{all_with, length_with}
use Rattle.queries.proofs.sold_items.order_items.Goals as goal

pub loop-done-init : goal.loop-done-init
loop-done-init g c = record {
  sold = λ first low start. start;
  keys = λ all. all;
  count = omega arith;
  reads = reads_none _ c.args.transaction.now;
}

pub loop-done-preserved : goal.loop-done-preserved
loop-done-preserved g c =
    let i = c.loop-done.invariant in
    let t0 = g.K.Start.tables in
    let pushed = sym c.in_ok-push_some.ensures.pushed in
    let more = c.read_item.ensures.reads in
    record {
      sold = λ first low start.
          subst (λ (items : List ℕ). AreItems t0 (district_of_order c.args.order) first c.args.order.order (c.loop-done.done + 1) c.read_item.new.transaction.reads items)
          pushed
          (next_line t0 (district_of_order c.args.order) first c.args.order.order c.loop-done.done c.loop-done.transaction.reads c.read_item.new.transaction.reads
          c.loop-done.items.items c.in_ok-item.item
          (i.sold first low start) more.keeps
          (λ t h. ap (λ (k : LineKey). option_map (λ r. r.item) (get t.lines k)) (sym c.line_key.ensures) ∙ c.in_ok-item.ensures.item t h));
      keys = λ before. subst (All (IsItemKey t0.scale)) pushed
          (all_with (IsItemKey t0.scale) c.loop-done.items.items c.in_ok-item.item (i.keys before) c.in_ok-item.ensures.range);
      count = let one = length_with c.loop-done.items.items c.in_ok-item.item in let same = ap length pushed in omega (arith, one, same, i.count);
      reads = reads_twice c.args.transaction.now c.loop-done.transaction c.read_item.new.transaction c.loop-done.done 1 (c.loop-done.done + 1)
          i.reads more (omega arith);
    }

pub returns-clause-sold : goal.returns-clause-sold
returns-clause-sold g c = λ first low start.
    let t0 = g.K.Start.tables in
    let all : c.loop-done.done ≡ c.args.count = omega (arith, c.loop-done.auto.done-end, c.loop-done-test.false) in
    next_first t0 (district_of_order c.args.order) first c.args.order.order c.args.count c.loop-done.transaction.reads c.loop-done.items.items low
    (λ t h. c.requires.counted t
    (candidate_still t0 c.args.transaction.now c.loop-done.transaction c.loop-done.done c.loop-done.invariant.reads t h))
    (subst (λ m. AreItems t0 (district_of_order c.args.order) first c.args.order.order m c.loop-done.transaction.reads c.loop-done.items.items) all
    (c.loop-done.invariant.sold first low start))
