use Rattle.std.proofs.Common.{refl}
use Rattle.population.specs.Initial.{initial}
use Rattle.program_files.proofs.causes.beyond.Goals as goal

pub returns-in-Ok-Some : goal.returns-in-Ok-Some
returns-in-Ok-Some c =
    let known = rw c.in-Ok-Some.field-0-is at c.in-Ok-Some.ensures.beyond in
    (initial c.args.population.now, refl, known.0, known.2, known.3, known.4)
