use Rattle.std.proofs.Common.{◌≡◌, take}
use Rattle.readset.specs.Arrived.{arrived}
use Rattle.readset.proofs.arrivals.Arrivals.ordered.Given as goal

-- the entries before, in their order
abbrev pub invariant-loop-place : goal.invariant-loop-place
invariant-loop-place g l = l.list.items ≡ take l.place (arrived l.self)
