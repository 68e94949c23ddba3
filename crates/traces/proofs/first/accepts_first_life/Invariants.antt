use Rattle.std.proofs.Common.{◌≡◌, ◌<◌, ℕ, length}
use Rattle.std.specs.Prelude.{slice_index_or}
use Rattle.traces.specs.declared.step.Start.{Start}
use Rattle.traces.specs.First.{IsMade}
use Rattle.traces.proofs.first.accepts_first_life.Given as goal

-- where the files of the loggers so far stand
abbrev pub invariant-loop-logger : goal.invariant-loop-logger
invariant-loop-logger l =
    (length l.starts.items ≡ l.logger)
    × ((n : ℕ) → n < l.logger → (d : Start) → IsMade l.trace l.seed n (slice_index_or l.starts.items n d))
