use Rattle.program_files.specs.declared.fault.Purpose.TheVariants.{Create}
use Rattle.program_files.proofs.starting.lock_at.Goals as goal

pub returns-in-Err : goal.returns-in-Err
returns-in-Err g c = c.not_locked.ensures Create
