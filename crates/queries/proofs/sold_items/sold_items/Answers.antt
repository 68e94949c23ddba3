use Rattle.std.proofs.Common.{◌≡◌, ◌≤◌, ◌==◌, ℕ, ◌-◌, ◌*◌, ◌+◌, max, List, get_or, length, All, sym, ap, ◌∙◌, subst, arith}
use Rattle.std.proofs.lemmas.List.Elements.{All-nil}
use Rattle.tables.specs.Sizes.{Sizes}
use Rattle.tables.specs.Keys.{IsItemKey}
use Rattle.tables.specs.declared.limits.TheConstants.{MAX_ORDER_LINES, RECENT_ORDERS}
use Rattle.readset.proofs.UnderWay.{reads_none, reads_twice, candidate_still}
use Rattle.tables.specs.declared.keys.OrderKey.{OrderKey}
use Rattle.tables.specs.Keys.{district_of_order}
use Rattle.queries.specs.SoldItems.{order_line_count, AreItems}
use Rattle.std.specs.List.{list_any}
use Rattle.queries.proofs.EachOnce.{all_same}
use Rattle.queries.proofs.LookedAt.{none_before, all_sold}
use Rattle.queries.proofs.LineCounts.{count_at}
use Rattle.queries.proofs.sold_items.sold_items.Goals as goal

pub loop-order-init : goal.loop-order-init
loop-order-init g c =
    let first : c.first_recent-first.result ≡ max 1 (c.args.next - RECENT_ORDERS) = c.first_recent-first.ensures in
    let low = c.first_recent-first.result in
    let t0 = g.K.Start.tables in
    record {
      low = omega arith;
      high = omega (arith, first, c.requires.next.0);
      counted = c.in_ok-counts.ensures.counts;
      sold = subst (λ (items : List ℕ). AreItems t0 c.args.home low low 0 c.line_counts.new.transaction.reads items) (sym c.new-items.ensures.items)
          (none_before t0 c.args.home low c.line_counts.new.transaction.reads);
      keys = subst (All (IsItemKey t0.scale)) (sym c.new-items.ensures.items) (All-nil (IsItemKey t0.scale));
      count = let empty = ap length c.new-items.ensures.items in omega (arith, empty);
      reads = reads_twice c.args.transaction.now c.line_counts.new.transaction c.line_counts.new.transaction (c.args.next - low) 0 (c.args.next - low + (low - low) * MAX_ORDER_LINES)
          c.line_counts.ensures.reads (reads_none 0 c.line_counts.new.transaction) (omega arith);
    }

pub order_items-requires-clause-counted : goal.order_items-requires-clause-counted
order_items-requires-clause-counted g c = λ t h.
    let i = c.loop-order.invariant in
    let low = c.first_recent-first.result in
    let count = c.index-count.result.now in
    ap (order_line_count t) c.order_key.ensures ∙ sym (count_at t c.args.home low c.loop-order.order i.low c.args.next count c.loop-order-test.true)
    ∙ ap (λ (counts : List ℕ). get_or counts (c.loop-order.order - low) count) (i.counted t h) ∙ sym c.index-count.ensures

pub loop-order-preserved : goal.loop-order-preserved
loop-order-preserved g c =
    let i = c.loop-order.invariant in
    let low = c.first_recent-first.result in
    let t0 = g.K.Start.tables in
    record {
      low = omega (arith, i.low);
      high = omega (arith, c.loop-order-test.true);
      counted = λ t h. i.counted t (candidate_still t0 c.loop-order.transaction c.order_items.new.transaction MAX_ORDER_LINES c.order_items.ensures.reads t h);
      sold = subst (λ (k : OrderKey). (first : ℕ) → first ≤ k.order
          → AreItems t0 (district_of_order k) first k.order 0 c.loop-order.transaction.reads c.loop-order.items.items
          → AreItems t0 (district_of_order k) first (k.order + 1) 0 c.order_items.new.transaction.reads c.order_items.new.items.items)
          c.order_key.ensures c.in_ok-order_items.ensures.sold low i.low i.sold;
      keys = c.order_items.ensures.items i.keys;
      count = omega (arith, c.order_items.ensures.count, i.count, i.low);
      reads = reads_twice c.args.transaction.now c.loop-order.transaction c.order_items.new.transaction (c.args.next - low + (c.loop-order.order - low) * MAX_ORDER_LINES)
          MAX_ORDER_LINES (c.args.next - low + (c.loop-order.order + 1 - low) * MAX_ORDER_LINES)
          i.reads c.order_items.ensures.reads (omega (arith, i.low));
    }

pub returns-clause-sold : goal.returns-clause-sold
returns-clause-sold g c = λ t h next i.
    let all : c.loop-order.order ≡ c.args.next = omega (arith, c.loop-order.invariant.high, c.loop-order-test.false) in
    let first : c.first_recent-first.result ≡ max 1 (c.args.next - RECENT_ORDERS) = c.first_recent-first.ensures in
    all_sold g.K.Start.tables c.args.home c.args.next c.loop-order.transaction.reads c.loop-order.items.items
    (subst (λ (q : ℕ × ℕ). AreItems g.K.Start.tables c.args.home q.0 q.1 0 c.loop-order.transaction.reads c.loop-order.items.items) (λ i. (first i, all i))
    c.loop-order.invariant.sold) t h next i
    ∙ sym (ap (list_any (λ j. j == i)) c.as_slice.ensures.value) ∙ sym (c.in_ok-once.ensures.same i)

pub each_once-requires-clause-items : goal.each_once-requires-clause-items
each_once-requires-clause-items g c = λ k d inside.
    let t0 = g.K.Start.tables in
    let last : c.items.result ≡ t0.scale.items = c.items.ensures.value ∙ ap (λ (s : Sizes). s.items) c.scale.ensures in
    let key : IsItemKey t0.scale (get_or c.as_slice.result.now k d) =
    subst (All (IsItemKey t0.scale)) (sym c.as_slice.ensures.value) c.loop-order.invariant.keys k d inside in
    omega (arith, last, key.1)

pub returns-clause-items : goal.returns-clause-items
returns-clause-items g c =
    all_same (IsItemKey g.K.Start.tables.scale) c.in_ok-once.once.items c.as_slice.result.now c.in_ok-once.ensures.same
    (subst (All (IsItemKey g.K.Start.tables.scale)) (sym c.as_slice.ensures.value) c.loop-order.invariant.keys)
