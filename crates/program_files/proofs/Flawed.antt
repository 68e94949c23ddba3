-- The file of some damage, as a cause.
use Rattle.std.proofs.Common.{◌≡◌, ℕ, List, Option, IfSome, refl, subst, true}
use Rattle.money.specs.declared.refusal.Refusal.TheVariants.{Damaged}
use Rattle.tables.specs.Sizes.{Sizes}
use Rattle.program_options.specs.declared.asked.LogFiles.{LogFiles}
use Rattle.program_recovery.specs.Flaws.{IsDamage}
use Rattle.program_recovery.specs.declared.damage.AskedVersion.{AskedVersion}
use Rattle.program_recovery.specs.declared.damage.Damage.{Damage}
use Rattle.program_files.specs.Causes.{Flawed, cause_view}
use Rattle.program_files.specs.Logs.{IsWhy, damaged, may_ask, path_of}
use Rattle.program_files.specs.declared.fault.Cause.{Cause}
use Rattle.program_files.specs.declared.fault.Purpose.{Purpose}
use Rattle.program_files.proofs.Seen.{of_view}

-- damage in a version that may be asked for is why files weren't recovered, or gone on with
pub why_flawed : (asked : AskedVersion) (purpose : Purpose) (files : LogFiles) (s : Sizes) (seed loggers : ℕ) (first file : List ℕ)
    (damage : Damage) → may_ask asked purpose ≡ true → loggers ≡ files.loggers → IsDamage asked s seed loggers first file damage
    → (found : Option Cause) → IfSome found (λ cause. cause_view cause ≡ Flawed (path_of files damage.logger) damage.flaw)
    → IfSome found (λ cause. IsWhy purpose files s seed Damaged (cause_view cause))
why_flawed asked purpose files s seed loggers first file damage may same is =
    of_view (IsWhy purpose files s seed Damaged) (Flawed (path_of files damage.logger) damage.flaw)
    (damaged asked first file damage refl may (subst (λ (n : ℕ). IsDamage asked s seed n first file damage) same is) refl)
