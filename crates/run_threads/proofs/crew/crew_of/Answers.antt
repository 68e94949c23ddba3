use Rattle.std.proofs.Common.{arith}
use Rattle.run_threads.proofs.crew.crew_of.Goals as goal

pub returns-clause-tallies : goal.returns-clause-tallies
returns-clause-tallies g c = (c.in_ok-ends.ensures.tallies.0, omega (arith, c.in_ok-ends.ensures.tallies.1, c.len.ensures))

pub returns-clause-shares : goal.returns-clause-shares
returns-clause-shares g c = (c.in_ok-ends.ensures.shares.0, omega (arith, c.in_ok-ends.ensures.shares.1, c.len.ensures))

pub returns-clause-decks : goal.returns-clause-decks
returns-clause-decks g c = (c.in_ok-ends.ensures.decks.0, omega (arith, c.in_ok-ends.ensures.decks.1, c.len.ensures))

pub returns-clause-turned : goal.returns-clause-turned
returns-clause-turned g c = (c.in_ok-turns.ensures.turned.0, omega (arith, c.in_ok-turns.ensures.turned.1, c.len-2.ensures))

pub returns-clause-files : goal.returns-clause-files
returns-clause-files g c = (c.in_ok-turns.ensures.files.0, omega (arith, c.in_ok-turns.ensures.files.1, c.len-2.ensures))

pub returns-clause-paces : goal.returns-clause-paces
returns-clause-paces g c = (c.in_ok-turns.ensures.paces.0, omega (arith, c.in_ok-turns.ensures.paces.1, c.len-2.ensures))
