use Rattle.std.proofs.Common.{◌∙◌, sym}
use Rattle.program_run.proofs.Counted.{counts_are}
use Rattle.lane_logger.proofs.Found.{found_as}
use Rattle.program_run.proofs.driving.run_parts.Goals as goal

pub run-requires-clause-logs : goal.run-requires-clause-logs
run-requires-clause-logs g c κs within = λ k d h. found_as c.requires.named c.board.ensures (c.in_ok-logs.ensures.found k d h)

pub run-requires-clause-decks : goal.run-requires-clause-decks
run-requires-clause-decks g c κs within =
    λ k d h. c.in_ok-stations.ensures.decks k d h ∙ (c.scale-scale.ensures ∙ c.population.ensures.scale)

pub returns-clause-counted : goal.returns-clause-counted
returns-clause-counted g c =
    let o = c.in_ok-outcome.outcome in
    counts_are g.K.Run.run.first g.K.Ledger.parts c.args.plan.now.terminals g.K.Run.run.past c.args.plan.now.inputs o.closed o.tallies.items
    o.counts
    (sym c.requires.ledger.parts_are ∙ (c.requires.run.fresh.parts ∙ c.requires.terminals)) c.in_ok-outcome.ensures.history
    c.in_ok-outcome.ensures.commits c.in_ok-outcome.ensures.counted
