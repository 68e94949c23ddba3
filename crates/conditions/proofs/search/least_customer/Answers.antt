use Rattle.std.proofs.Common.{arith}
use Rattle.std.proofs.lemmas.Grind.{common_steps}
use Rattle.conditions.proofs.search.least_customer.Goals as goal
use Rattle.conditions.proofs.search.least_customer.Goals.{else-loop-district-test, then-loop-district-test+in_default+else-district-district-end}

pub returns-2 : goal.returns-2
returns-2 g c = λ k h. elim c.loop-district-test.branch [
  | else-loop-district-test w ↦
      grind (
        arith,
        common_steps,
        c.loop-warehouse.invariant.below k.warehouse k.district k.customer,
        c.loop-district.invariant.below k.district k.customer,
      )
  | then-loop-district-test+in_default+else-district-district-end w ↦
      grind (
        arith,
        common_steps,
        c.loop-warehouse.invariant.below k.warehouse k.district k.customer,
        c.loop-district.invariant.below k.district k.customer,
        w.in_default.ensures.finds k.customer,
      )
]
