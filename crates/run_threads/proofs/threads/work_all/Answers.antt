use Rattle.std.proofs.Common.{◌≡◌, ℕ, ◌<◌, List, length, map, rules, slice_index_or, subst, sym, ◌∙◌, ap}
use Rattle.run_threads.specs.Inputs.{CameOfInputs, HaveRun}
use Rattle.run_threads.specs.declared.tally.Tally.{Tally}
use Rattle.run_threads.specs.declared.worker.TerminalThread.{TerminalThread}
use Rattle.terminals_deck.specs.Deck.{DeckView}
use Rattle.run_threads.proofs.Inputs.{have_run, written_back}
use Rattle.run_threads.proofs.threads.work_all.Goals as goal

pub returns-clause-came : goal.returns-clause-came
returns-clause-came g c =
    let before : List (TerminalThread g.row.K.Denot g.row.G.Denot g.K.Run g.G.Gate) = c.args.workers.items in
    let after : List (TerminalThread g.row.K.Denot g.row.G.Denot g.K.Run g.G.Gate) = c.for_each_mut.new.s in
    let deck : TerminalThread g.row.K.Denot g.row.G.Denot g.K.Run g.G.Gate → DeckView = λ worker. worker.terminal.deck in
    let tally : TerminalThread g.row.K.Denot g.row.G.Denot g.K.Run g.G.Gate → Tally = λ worker. worker.tally in
    let value : c.as_mut_slice.result.now ≡ before = c.as_mut_slice.ensures.value in
    let same : length after ≡ length before = search rules in
    let each : (k : ℕ) (w : TerminalThread g.row.K.Denot g.row.G.Denot g.K.Run g.G.Gate) → k < length before
    → CameOfInputs g.K.Run.run.past g.K.Run.run.first (deck (slice_index_or before k w)) c.args.inputs (tally (slice_index_or after k w)) (deck (slice_index_or after k w))
    = (λ k w within.
    let at = (c.for_each_mut.ensures k w (subst (λ (them : List (TerminalThread g.row.K.Denot g.row.G.Denot g.K.Run g.G.Gate)). k < length them) (sym value) within)).1 in
    subst (λ (v : TerminalThread g.row.K.Denot g.row.G.Denot g.K.Run g.G.Gate). CameOfInputs g.K.Run.run.past g.K.Run.run.first (deck (slice_index_or before k w)) c.args.inputs (tally v) (deck v)) at.left
    (subst (λ (v : TerminalThread g.row.K.Denot g.row.G.Denot g.K.Run g.G.Gate). CameOfInputs g.K.Run.run.past g.K.Run.run.first (deck v) c.args.inputs (tally at.after_call.now) (deck at.after_call.now))
    (at.argument_is ∙ ap (λ (them : List (TerminalThread g.row.K.Denot g.row.G.Denot g.K.Run g.G.Gate)). slice_index_or them k w) value) at.call.1)) in
    subst (λ (them : List (TerminalThread g.row.K.Denot g.row.G.Denot g.K.Run g.G.Gate)).
    HaveRun g.K.Run.run.past g.K.Run.run.first c.args.inputs (map deck before) (map tally them) (map deck them))
    (sym (written_back c.args.workers.len before after (c.args.workers.ok.0) same))
    (have_run g.K.Run.run.past g.K.Run.run.first c.args.inputs deck tally before after same each)
