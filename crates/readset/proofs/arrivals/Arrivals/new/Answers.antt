use Rattle.readset.proofs.Ordered.{none_arrive}
use Rattle.readset.proofs.arrivals.Arrivals.new.Goals as goal

pub invariant_of-result : goal.invariant_of-result
invariant_of-result g c = record { sound = none_arrive c.new.result.items c.new-2.result.items c.new.ensures.items c.new-2.ensures.items }
