use Rattle.std.proofs.Common.{◌∙◌, ap, List, ℕ, Some}
use Rattle.program_files.specs.Causes.{Unusable}
use Rattle.program_files.specs.Logs.{one}
use Rattle.program_files.proofs.starting.rename_one.Goals as goal

pub returns-in-Err : goal.returns-in-Err
returns-in-Err g c = record {
  unready = λ below. one c.args.logger c.in-Err.trouble below c.in-Err.ensures c.unusable.ensures.refusal
      (c.unusable.ensures.cause ∙ ap (λ (path : List ℕ). Some (Unusable path c.in-Err.trouble)) c.in_ok-path.ensures);
}
