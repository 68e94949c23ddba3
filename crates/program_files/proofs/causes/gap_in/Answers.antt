use Rattle.std.proofs.Common.{Option, refl, subst}
use Rattle.population.specs.Initial.{initial, seed_of}
use Rattle.program_recovery.specs.Flaws.{IsFirstGap}
use Rattle.program_recovery.specs.declared.gap.Misnumbered.{Misnumbered}
use Rattle.program_files.specs.Logs.{gap}
use Rattle.program_files.proofs.causes.gap_in.Goals as goal

pub returns-in-Ok-Some : goal.returns-in-Ok-Some
returns-in-Ok-Some c = λ purpose files.
    let population = c.args.population.now in
    let known = c.in-Ok-Some.ensures.gap in
    gap known.0 c.in-Ok-Some.gap refl
    (subst (λ (found : Option Misnumbered). IsFirstGap (initial population).scale (seed_of population) known.0 found) c.in-Ok-Some.field-0-is known.2) refl
