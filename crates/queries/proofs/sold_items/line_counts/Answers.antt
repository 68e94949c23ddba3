use Rattle.std.proofs.Common.{◌≡◌, ◌≤◌, ◌-◌, ◌+◌, [], ◌∷◌, ◌++◌, length, All, sym, ap, ◌∙◌, subst, arith}
use Rattle.std.proofs.lemmas.List.{length-append}
use Rattle.std.proofs.lemmas.List.Elements.{All-nil, All-push}
use Rattle.tables.specs.declared.limits.TheConstants.{MAX_ORDER_LINES}
use Rattle.readset.proofs.UnderWay.{reads_none, reads_twice, candidate_still}
use Rattle.queries.specs.SoldItems.{order_line_count, order_line_counts}
use Rattle.queries.proofs.LineCounts.{counts_more}
use Rattle.queries.proofs.sold_items.line_counts.Goals as goal

pub loop-number-init : goal.loop-number-init
loop-number-init g c =
    let none = c.in_ok-counts.ensures.items in
    let empty = ap length none in
    let start : c.args.first - c.args.first ≡ 0 = omega arith in
    record {
      low = omega arith;
      high = omega (arith, c.requires.first.1);
      counts_are = λ t h. ap (order_line_counts t c.args.home c.args.first) start ∙ sym none;
      range = subst (All (λ n. n ≤ MAX_ORDER_LINES)) (sym none) (All-nil (λ n. n ≤ MAX_ORDER_LINES));
      all = omega (arith, empty);
      reads = reads_none _ c.args.transaction.now;
    }

pub loop-number-preserved : goal.loop-number-preserved
loop-number-preserved g c =
    let i = c.loop-number.invariant in
    let t0 = g.K.Start.tables in
    let number = c.loop-number.number in
    let first = c.args.first in
    let old = c.loop-number.transaction in
    let new = c.read_line_count.new.transaction in
    let more = c.read_line_count.ensures.reads in
    let pushed = c.in_ok-push.ensures.items in
    record {
      low = omega (arith, i.low);
      high = omega (arith, c.loop-number-test.true);
      counts_are = λ t h.
          let before = i.counts_are t (candidate_still t0 old new 1 more t h) in
          let this = ap (order_line_count t) (sym c.order_key.ensures) ∙ c.in_ok-count.ensures.lines t h in
          counts_more t c.args.home first number i.low ∙ (λ j. before j ++ this j ∷ []) ∙ sym pushed;
      range = subst (All (λ n. n ≤ MAX_ORDER_LINES)) (sym pushed) (All-push (λ n. n ≤ MAX_ORDER_LINES) c.loop-number.counts.items c.in_ok-count.count i.range c.in_ok-count.ensures.range);
      all = let longer = ap length pushed ∙ length-append c.loop-number.counts.items (c.in_ok-count.count ∷ []) in omega (arith, longer, i.all, i.low);
      reads = reads_twice c.args.transaction.now old new (number - first) 1 (number + 1 - first) i.reads more (omega (arith, i.low));
    }

pub returns-clause-counts : goal.returns-clause-counts
returns-clause-counts g c = λ t h.
    let end : c.loop-number.number ≡ c.args.next = omega (arith, c.loop-number.invariant.high, c.loop-number-test.false) in
    subst (λ n. order_line_counts t c.args.home c.args.first (n - c.args.first) ≡ c.loop-number.counts.items) end (c.loop-number.invariant.counts_are t h)
