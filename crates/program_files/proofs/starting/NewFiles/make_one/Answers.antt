use Rattle.std.proofs.Common.{◌∙◌, ap, List, ℕ, Some, Err, refl}
use Rattle.program_files.specs.Causes.{Unusable}
use Rattle.program_files.specs.Logs.{left, one}
use Rattle.program_files.specs.declared.fault.Trouble.TheVariants.{NotCreated}
use Rattle.program_files.proofs.starting.NewFiles.make_one.Goals as goal

pub returns-in-Err-New-clause-unready : goal.returns-in-Err-New-clause-unready
returns-in-Err-New-clause-unready g c = λ below.
    let trouble = NotCreated c.in-Err-New.error in
    one c.args.logger trouble below refl c.unusable.ensures.refusal
    (c.unusable.ensures.cause ∙ ap (λ (path : List ℕ). Some (Unusable path trouble)) c.in_ok-names.ensures.own)

pub returns-in-Err-Left-clause-unready : goal.returns-in-Err-Left-clause-unready
returns-in-Err-Left-clause-unready g c = λ below.
    let trouble = c.in-Err-Left.trouble in
    left c.args.logger trouble below (c.in-Err-Left.ensures trouble (ap Err c.in-Err-Left.field-0-is)) refl
    c.unusable-in-Err-Left.ensures.refusal
    (c.unusable-in-Err-Left.ensures.cause ∙ ap (λ (path : List ℕ). Some (Unusable path trouble)) c.in_ok-names.ensures.temporary)
