use Rattle.std.proofs.Common.{refl}
use Rattle.program_files.specs.Logs.{unsound}
use Rattle.program_files.proofs.causes.unresumable.Goals as goal

pub returns-in-Ok-None : goal.returns-in-Ok-None
returns-in-Ok-None c = unsound c.beyond.result refl refl c.beyond.ensures refl
