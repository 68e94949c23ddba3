use Rattle.conditions_reach.proofs.reach.warehouses_and_districts_near.Goals as goal

pub returns-then-holds_of_each : goal.returns-then-holds_of_each
returns-then-holds_of_each c = (
  λ t. (c.holds_of_each.ensures.0 c.if-holds_of_each.true, c.holds_of_each-then-holds_of_each.ensures.0 t),
  λ near. c.holds_of_each-then-holds_of_each.ensures.1 near.1,
)
