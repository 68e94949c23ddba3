use Rattle.std.proofs.Common.{arith, refl}
use Rattle.program_files.specs.Causes.{cause_view}
use Rattle.program_files.specs.Logs.{others}
use Rattle.program_files.proofs.causes.unready.Goals as goal

pub returns-in-Some : goal.returns-in-Some
returns-in-Some c = others (cause_view c.in-Some.cause) (λ same. absurd (grind (arith, same, c.eq.ensures, c.if-eq.false))) refl c.in-Some.ensures refl
