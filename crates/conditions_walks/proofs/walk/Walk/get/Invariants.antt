use Rattle.std.proofs.Common.{◌≡◌, length}
use Rattle.std.specs.Option.{option_map}
use Rattle.std.specs.Map.Iter.{deref, deref_pair}
use Rattle.conditions_walks.specs.Walk.{IsAlong, left}
use Rattle.conditions_walks.proofs.walk.Walk.get.Given as goal

abbrev pub invariant-loop-self : goal.invariant-loop-self
invariant-loop-self g l = record {
  map : l.self-inside.map ≡ l.initial.self-inside.map;
  along : IsAlong g.K.Ord.cmp l.self-inside.map.now.entries (option_map deref l.self-inside.passed)
      (left (option_map deref_pair l.self-inside.next) l.self-inside.rest);
}

abbrev pub decreases-loop-self : goal.decreases-loop-self
decreases-loop-self g l = length (left (option_map deref_pair l.self-inside.next) l.self-inside.rest)
