-- What is told beside the answers of a subcommand.
use Rattle.std.proofs.Common.{List, [], ℕ, Option, append-nil, refl, subst}
use Rattle.std.proofs.KnownBytes.{Appends-nil, Appends-trans}
use Rattle.std.specs.Io.KnownBytes.{Appends}
use Rattle.program_options.specs.declared.asked.Subcommand.{Subcommand}
use Rattle.program_options.specs.declared.asked.Subcommand.TheVariants.{Script, Run, Recover, Check}
use Rattle.program.specs.Run.{IsToldBeside}

-- where nothing was written
pub beside_none : (asked : Subcommand) (old : Option (List ℕ)) → IsToldBeside asked old old
beside_none (Script s) old = ([], (λ _. refl), Appends-nil old)
beside_none (Run r) old = Appends-nil old
beside_none (Recover r) old = Appends-nil old
beside_none (Check r) old = Appends-nil old

appends_on : (old between new : Option (List ℕ)) (text : List ℕ) → Appends old between text → Appends between new [] → Appends old new text
appends_on old between new text one none =
    subst (λ (t : List ℕ). Appends old new t) (append-nil text) (Appends-trans old between new text [] one none)

-- nor anything behind it
pub told_before : (asked : Subcommand) (old between new : Option (List ℕ)) → IsToldBeside asked old between → Appends between new []
    → IsToldBeside asked old new
told_before (Script s) old between new beside none = (beside.0, beside.1, appends_on old between new beside.0 beside.2 none)
told_before (Run r) old between new beside none = appends_on old between new [] beside none
told_before (Recover r) old between new beside none = appends_on old between new [] beside none
told_before (Check r) old between new beside none = appends_on old between new [] beside none
