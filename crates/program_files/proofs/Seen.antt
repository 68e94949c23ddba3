-- What is known of a cause by what it is seen as.
use Rattle.std.proofs.Common.{◌≡◌, Option, Some, None, IfSome, sym, subst}
use Rattle.program_files.specs.Causes.{CauseView, cause_view}
use Rattle.program_files.specs.declared.fault.Cause.{Cause}

-- what holds of a view holds of each cause of that view
pub of_view : (P : CauseView → Type 0) (view : CauseView) → P view → (found : Option Cause) → IfSome found (λ cause. cause_view cause ≡ view)
    → IfSome found (λ cause. P (cause_view cause))
of_view P view is None same = tt
of_view P view is (Some cause) same = subst P (sym same) is
