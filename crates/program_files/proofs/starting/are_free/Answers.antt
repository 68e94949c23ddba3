use Rattle.std.proofs.Common.{◌∙◌, ap, arith, List, ℕ, Some}
use Rattle.program_files.specs.Causes.{Unusable}
use Rattle.program_files.specs.Logs.{one}
use Rattle.program_files.proofs.starting.are_free.Goals as goal

pub returns-in-Err : goal.returns-in-Err
returns-in-Err g c = record {
  unready = one c.loop-logger.logger c.in-Err.trouble (omega (arith, c.loop-logger-test.true, c.loop-logger.invariant)) c.in-Err.ensures
      c.unusable.ensures.refusal
      (c.unusable.ensures.cause ∙ ap (λ (path : List ℕ). Some (Unusable path c.in-Err.trouble)) c.in_ok-path.ensures);
}
