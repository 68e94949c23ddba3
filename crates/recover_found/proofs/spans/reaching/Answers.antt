use Rattle.std.proofs.Common.{rules, ◌≡◌, ◌<◌, length, get_or, set, max, refl, sym, ap, ◌∙◌, subst, arith}
use Rattle.std.specs.List.{list_any}
use Rattle.std.specs.List.Sorted.{IsNonDecreasingBy}
use Rattle.std.proofs.lemmas.List.{get_or_default}
use Rattle.std.proofs.lemmas.List.Sorted.{IsNonDecreasingBy-from_sort_by_key, list_any-IsPermutation}
use Rattle.recover_found.specs.Found.{is_spanned}
use Rattle.recover_found.specs.Spans.{AreReaching}
use Rattle.recover_found.specs.declared.spans.Span.{Span}
use Rattle.recover_found.proofs.Reaching.{goes_on, ends, same_all, are_reaching}
use Rattle.recover_found.proofs.spans.reaching.Goals as goal

abbrev none : Span
none = record { low = 0; high = 0 }

pub loop-n-preserved : goal.loop-n-preserved
loop-n-preserved c =
    let now = c.loop-n.spans.items in
    let d : Span = c.index_mut.result.now in
    let less : c.loop-n.n < length now = omega (arith, c.loop-n-test.true, c.len-n-end.ensures, c.loop-n.invariant.count) in
    let same : c.index.result.now ≡ get_or now c.loop-n.n d
    = c.index.ensures ∙ get_or_default now c.loop-n.n c.index.result.now d less in
    goes_on c.sort_unstable_by_key.new.self.items now (set now c.loop-n.n (record { low = d.low; high = c.max-high.result }))
    c.loop-n.n c.loop-n.high c.max-high.result d (record { low = d.low; high = c.max-high.result }) less c.loop-n.invariant
    (c.max-high.ensures ∙ ap (λ (s : Span). max s.high c.loop-n.high) same)
    (ap (λ (s : Span). record s { high = c.max-high.result }) c.index_mut.ensures.value) refl

pub returns-clause-same : goal.returns-clause-same
returns-clause-same c epoch =
    let sorted : IsNonDecreasingBy (λ s. s.low) c.sort_unstable_by_key.new.self.items
    = IsNonDecreasingBy-from_sort_by_key (λ (s : Span). s.low) _ c.sort_unstable_by_key.ensures.sorted (λ a r q k. search rules) in
    ap (list_any (is_spanned epoch)) (ends c.sort_unstable_by_key.new.self.items c.loop-n.spans.items c.loop-n.n c.loop-n.high (omega (arith, c.loop-n-test.false, c.len-n-end.ensures, c.loop-n.invariant.count)) c.loop-n.invariant)
    ∙ same_all epoch c.sort_unstable_by_key.new.self.items sorted
    ∙ sym (list_any-IsPermutation (is_spanned epoch) c.args.spans.items c.sort_unstable_by_key.new.self.items c.sort_unstable_by_key.ensures.permutation)

pub returns-clause-reaching : goal.returns-clause-reaching
returns-clause-reaching c =
    let sorted : IsNonDecreasingBy (λ s. s.low) c.sort_unstable_by_key.new.self.items
    = IsNonDecreasingBy-from_sort_by_key (λ (s : Span). s.low) _ c.sort_unstable_by_key.ensures.sorted (λ a r q k. search rules) in
    subst AreReaching (sym (ends c.sort_unstable_by_key.new.self.items c.loop-n.spans.items c.loop-n.n c.loop-n.high (omega (arith, c.loop-n-test.false, c.len-n-end.ensures, c.loop-n.invariant.count)) c.loop-n.invariant))
    (are_reaching c.sort_unstable_by_key.new.self.items sorted)
