-- What was refused once all inputs had run.
use Rattle.std.proofs.Common.{◌≡◌}
use Rattle.money.specs.declared.refusal.Refusal.{Refusal}
use Rattle.program_run.specs.declared.driving.Broken.TheVariants.{Unrun, Untold}

-- isn't what was refused before
pub untold_ran : (X : Type 0) (told other : Refusal) → Untold told ≡ Unrun other → X
untold_ran X told other is = absurd cc
