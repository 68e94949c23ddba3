use Rattle.std.proofs.Common.{refl}
use Rattle.population.specs.Initial.{initial, seed_of}
use Rattle.program_recovery.specs.declared.damage.AskedVersion.TheVariants as asked
use Rattle.program_files.proofs.Flawed.{why_flawed}
use Rattle.program_files.proofs.causes.damaged_file.Goals as goal

pub returns-in-Ok-Some : goal.returns-in-Ok-Some
returns-in-Ok-Some c =
    let known = rw c.in-Ok-Some.field-0-is at c.in-Ok-Some.ensures.damage in
    why_flawed asked.First c.args.purpose c.args.files.now (initial c.args.population.now).scale (seed_of c.args.population.now) _ known.0 known.1
    c.in-Ok-Some.damage refl c.requires known.4 c.flawed.result c.flawed.ensures
