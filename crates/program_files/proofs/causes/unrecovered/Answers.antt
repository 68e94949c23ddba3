use Rattle.std.proofs.Common.{Option, Some, None, ℕ, IfSome, subst, sym}
use Rattle.std.specs.Prelude.{option_map}
use Rattle.money.specs.declared.refusal.Refusal.{Refusal}
use Rattle.money.specs.declared.refusal.Refusal.TheVariants.{Gap}
use Rattle.tables.specs.Sizes.{Sizes}
use Rattle.population.specs.Initial.{initial, seed_of}
use Rattle.program_options.specs.declared.asked.LogFiles.{LogFiles}
use Rattle.program_files.specs.Causes.{cause_view}
use Rattle.program_files.specs.Logs.{IsWhy}
use Rattle.program_files.specs.declared.fault.Cause.{Cause}
use Rattle.program_files.specs.declared.fault.Purpose.{Purpose}
use Rattle.program_files.proofs.causes.unrecovered.Goals as goal

told : (purpose : Purpose) (files : LogFiles) (s : Sizes) (seed : ℕ) (found : Option Cause)
    → IfSome found (λ cause. (p : Purpose) (f : LogFiles) → IsWhy p f s seed Gap (cause_view cause))
    → IfSome (option_map cause_view found) (IsWhy purpose files s seed Gap)
told purpose files s seed None why = tt
told purpose files s seed (Some cause) why = why purpose files

pub returns-in-Gap-clause-cause : goal.returns-in-Gap-clause-cause
returns-in-Gap-clause-cause c =
    let files = c.args.files.now in
    let s = (initial c.args.population.now).scale in
    let seed = seed_of c.args.population.now in
    subst (λ (refusal : Refusal). IfSome (option_map cause_view c.gap_in.result) (IsWhy c.args.purpose files s seed refusal)) (sym c.in-Gap.is)
    (told c.args.purpose files s seed c.gap_in.result c.gap_in.ensures)
