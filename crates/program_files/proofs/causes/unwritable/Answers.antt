use Rattle.std.proofs.Common.{refl}
use Rattle.population.specs.Initial.{initial, seed_of}
use Rattle.program_recovery.specs.declared.damage.AskedVersion.TheVariants as asked
use Rattle.program_files.specs.declared.fault.Purpose.TheVariants.{Append}
use Rattle.program_files.proofs.Flawed.{why_flawed}
use Rattle.program_files.proofs.causes.unwritable.Goals as goal

pub returns-in-None : goal.returns-in-None
returns-in-None c =
    let known = c.requires.damage in
    why_flawed asked.Today Append c.args.files.now (initial c.args.population.now).scale (seed_of c.args.population.now) _ known.0 known.1 c.args.damage.now
    refl refl known.2 c.flawed.result c.flawed.ensures
