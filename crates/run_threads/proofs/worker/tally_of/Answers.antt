use Rattle.std.proofs.Common.{rules}
use Rattle.run_threads.proofs.Inputs.{came_of_more, came_of_none, came_of_one}
use Rattle.run_threads.proofs.worker.tally_of.Goals as goal

pub loop-init : goal.loop-init
loop-init g c = (
  search rules,
  came_of_none g.K.Run.run.past g.K.Run.run.first c.args.terminal.now.deck c.default-tally.result (search rules),
  search rules,
  search rules,
)

pub loop-preserved : goal.loop-preserved
loop-preserved g c =
    let i = c.loop.invariant in
    let made = c.one-outcome.ensures in
    let input = came_of_one g.K.Run.run.past g.K.Run.run.first c.loop.terminal c.one-outcome.new.self c.one-outcome.result made.tries.0
    made.deck made.ok made.missing made.tries.1 in (
      search rules,
      came_of_more g.K.Run.run.past g.K.Run.run.first c.args.terminal.now.deck c.loop.terminal.deck c.one-outcome.new.self.deck
          c.acknowledge-acknowledged.new.terminal.deck c.loop.counter c.loop.tally c.count.new.self c.one-outcome.result i.1 input
          (search rules) (search rules),
      search rules,
      search rules,
    )
