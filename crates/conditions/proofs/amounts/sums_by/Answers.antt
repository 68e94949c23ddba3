use Rattle.std.proofs.Common.{◌≡◌, ◌+◌, ◌-◌, ◌∙◌, ap, length, refl, subst, arith}
use Rattle.std.proofs.lemmas.Result.{IfOk-weaker}
use Rattle.std.specs.BTreeMap.{btree_map_len}
use Rattle.conditions_walks.specs.Amounts.{share}
use Rattle.conditions_walks.specs.Running.{IsWithin}
use Rattle.conditions_walks.proofs.Added.{within_weaker}
use Rattle.conditions.proofs.SumSteps.{sum_entries_none, sum_entries_more, sum_entries_all, none_passed}
use Rattle.conditions.proofs.amounts.sums_by.Goals as goal

pub add_row-requires : goal.add_row-requires
add_row-requires g c = within_weaker g.S.Group.Ord.cmp c.loop-key.sums _ _ (omega arith) c.loop-key.invariant.within

pub loop-key-preserved : goal.loop-key-preserved
loop-key-preserved g c =
    let fewer = ap length c.in-Some.ensures.steps in
    let more : (btree_map_len c.args.rows.now - length c.loop-key.key-iterator) + 1 ≡ btree_map_len c.args.rows.now - length c.next.new.self =
    omega (arith, fewer, c.loop-key.invariant.left) in
    record {
      by = c.in_ok-add_row.ensures.stays ∙ c.loop-key.invariant.by;
      sums = λ k. sum_entries_more (λ (j : g.row.K.Denot) (r : g.row.X.Denot). share (g.S.Share.is_of c.args.by.now k j r) (g.S.Share.amount r))
          c.args.rows.now.entries c.loop-key.key-iterator c.next.new.self
          c.in-Some.key.now c.in-Some.row.now _ _ _ c.in-Some.ensures.steps (c.loop-key.invariant.sums k)
          (ap (λ b. share (g.S.Share.is_of b k c.in-Some.key.now c.in-Some.row.now) (g.S.Share.amount c.in-Some.row.now)) c.loop-key.invariant.by)
          (c.in_ok-add_row.ensures.sums k);
      left = omega (arith, fewer, c.loop-key.invariant.left);
      within = subst (IsWithin g.S.Group.Ord.cmp c.add_row.new.sums) more (c.in_ok-add_row.ensures.within _ c.loop-key.invariant.within);
    }

pub close-requires : goal.close-requires
close-requires g c = within_weaker g.S.Group.Ord.cmp c.loop-key.sums _ _ (omega arith) c.loop-key.invariant.within

pub loop-key-init : goal.loop-key-init
loop-key-init g c = rw (c.into_iter-key-iterator.ensures.into_iter_gives, c.iter-key-items.ensures.rest) (record {
  by = refl;
  sums = λ k. sum_entries_none _ _ (c.new-sums.ensures.nothing k);
  left = omega arith;
  within = subst (IsWithin g.S.Group.Ord.cmp c.new-sums.result) (none_passed (btree_map_len c.args.rows.now)) c.new-sums.ensures.within;
})

pub returns : goal.returns
returns g c = record {
  sums = IfOk-weaker c.close.result _ _ (λ sums closed k. closed k
      ∙ sum_entries_all (λ (j : g.row.K.Denot) (r : g.row.X.Denot). share (g.S.Share.is_of c.args.by.now k j r) (g.S.Share.amount r))
      c.args.rows.now.entries c.loop-key.key-iterator _ c.in-None.ensures.steps.0 (c.loop-key.invariant.sums k)) c.close.ensures.sums;
  bound = c.close.ensures.bound;
  ordered = c.iter-key-items.ensures.ordered;
}
