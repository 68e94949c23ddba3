use Rattle.std.proofs.Common.{◌∙◌, ap, refl, arith}
use Rattle.std.proofs.lemmas.Result.{IfOk-weaker}
use Rattle.tables.specs.declared.rows.History.{History}
use Rattle.conditions_walks.specs.Amounts.{share}
use Rattle.conditions_walks.proofs.Added.{within_weaker}
use Rattle.conditions.proofs.SumSteps.{sum_of_more, sum_of_all}
use Rattle.conditions.proofs.amounts.history_by.Goals as goal

pub add_row-requires : goal.add_row-requires
add_row-requires g c = within_weaker g.S.Group.Ord.cmp c.loop-row.sums c.loop-row.row-index _ (omega arith) c.loop-row.invariant.within

pub close-requires : goal.close-requires
close-requires g c = within_weaker g.S.Group.Ord.cmp c.loop-row.sums c.loop-row.row-index _ (omega arith) c.loop-row.invariant.within

pub loop-row-init : goal.loop-row-init
loop-row-init g c = record { by = refl; sums = c.new-sums.ensures.nothing; within = c.new-sums.ensures.within }

pub loop-row-preserved : goal.loop-row-preserved
loop-row-preserved g c = record {
  by = c.in_ok-add_row.ensures.stays ∙ c.loop-row.invariant.by;
  sums = λ k. sum_of_more (λ (r : History). share (g.S.Share.is_of c.args.by.now k tt r) (g.S.Share.amount r)) c.deref-row-items.result.now
      c.loop-row.row-index c.row-item.result _ _ _ c.loop-row-test.true c.row-item.is (c.loop-row.invariant.sums k)
      (ap (λ b. share (g.S.Share.is_of b k tt c.row-item.result) (g.S.Share.amount c.row-item.result)) c.loop-row.invariant.by)
      (c.in_ok-add_row.ensures.sums k);
  within = c.in_ok-add_row.ensures.within _ c.loop-row.invariant.within;
}

pub returns : goal.returns
returns g c = record {
  sums = IfOk-weaker c.close.result _ _ (λ sums closed k. closed k ∙ c.loop-row.invariant.sums k
      ∙ sum_of_all (λ (r : History). share (g.S.Share.is_of c.args.by.now k tt r) (g.S.Share.amount r)) c.deref-row-items.result.now _
      c.loop-row.row-index c.loop-row-test.false c.deref-row-items.ensures.value) c.close.ensures.sums;
  bound = c.close.ensures.bound;
}
