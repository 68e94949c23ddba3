use Rattle.std.proofs.Common.{◌≡◌, ◌+◌}
use Rattle.run_threads.specs.Inputs.{CameOfInputs}
use Rattle.run_threads.specs.Tally.{inputs_in}
use Rattle.run_threads.proofs.worker.tally_of.Given as goal

-- as many outcomes as inputs are counted, each of the deck's next input, and the share has as many commits more as were counted
abbrev pub invariant-loop : goal.invariant-loop
invariant-loop g l =
    (inputs_in l.tally ≡ l.counter)
    × CameOfInputs g.K.Run.run.past g.K.Run.run.first l.fn.terminal.deck l.counter l.tally l.terminal.deck
    × (l.terminal.share.parts ≡ l.fn.terminal.share.parts)
    × (l.terminal.share.commits ≡ l.fn.terminal.share.commits + l.tally.commits)
