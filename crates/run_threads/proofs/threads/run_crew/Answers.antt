use Rattle.std.proofs.Common.{◌∙◌}
use Rattle.run_threads.specs.declared.worker.TerminalThread.{TerminalThread}
use Rattle.run_threads.proofs.Counted.{counted_of}
use Rattle.run_threads.proofs.Inputs.{have_run_as}
use Rattle.run_threads.proofs.threads.run_crew.Goals as goal

pub returns-clause-counted : goal.returns-clause-counted
returns-clause-counted g c =
    let o = c.settled.result in
    counted_of (λ (worker : TerminalThread g.row.K.Denot g.row.G.Denot g.K.Run g.G.Gate). worker.tally) c.in_threads-workers.result.0.items o.tallies.items
    g.K.Ledger.parts c.args.inputs o.counts c.settled.ensures.tallies
    (c.in_threads-workers.ensures.workers ∙ c.requires.count) c.in_threads-workers.ensures.all c.settled.ensures.sums

pub returns-clause-inputs : goal.returns-clause-inputs
returns-clause-inputs g c =
    let o = c.settled.result in
    let ran = c.in_threads-workers.ensures.came in
    have_run_as g.K.Run.run.past g.K.Run.run.first c.args.inputs _ _ o.tallies.items _ o.decks.items c.settled.ensures.tallies c.settled.ensures.decks ran
