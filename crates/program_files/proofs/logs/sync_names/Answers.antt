use Rattle.std.proofs.Common.{ap, List, ℕ, Some, refl}
use Rattle.program_files.specs.declared.fault.Trouble.TheVariants.{NotSynced}
use Rattle.program_files.specs.Causes.{Unusable}
use Rattle.program_files.specs.Logs.{names}
use Rattle.program_files.proofs.logs.sync_names.Goals as goal

pub returns-in-Err : goal.returns-in-Err
returns-in-Err g c = λ purpose writes. names c.in-Err.error writes refl (ap (λ (path : List ℕ). Some (Unusable path (NotSynced c.in-Err.error))) c.in_ok-path.ensures)
