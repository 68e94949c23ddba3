use Rattle.std.proofs.Common.{arith}
use Rattle.std.proofs.lemmas.Int.{ints}
use Rattle.conditions_walks.proofs.Added.{held_here}
use Rattle.conditions_walks.proofs.running.Running.put.Goals as goal

pub add-requires : goal.add-requires
add-requires g c =
    let is = held_here g.met.G.Ord.total c.args.self.now c.in-Some.group c.in-Some.is in
    record { low = omega (arith, ints, is, c.requires.low c.in-Some.group); high = omega (arith, ints, is, c.requires.high c.in-Some.group) }
