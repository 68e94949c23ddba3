use Rattle.std.proofs.Common.{ap, List, ℕ, Some, refl}
use Rattle.program_files.specs.Causes.{Unusable}
use Rattle.program_files.specs.Logs.{one}
use Rattle.program_files.proofs.logs.disk.Goals as goal

pub returns-in-Err : goal.returns-in-Err
returns-in-Err g c = record {
  unready = λ below. one c.args.logger c.in-Err.trouble below c.in-Err.ensures refl
      (ap (λ (path : List ℕ). Some (Unusable path c.in-Err.trouble)) c.in_ok-path.ensures);
}
