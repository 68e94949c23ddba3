use Rattle.std.proofs.Common.{List, ℕ, refl, subst, sym}
use Rattle.std.proofs.KnownBytes.{Appends-nil}
use Rattle.std.proofs.lemmas.Result.{IfErr-weaker}
use Rattle.program_files.specs.Causes.{cause_of}
use Rattle.program.specs.Info.{IsUntold, first_path, memory}
use Rattle.program_files.specs.declared.fault.Fault.{Fault}
use Rattle.program_live.proofs.NoMemory.{passed_on}
use Rattle.program.proofs.info.info.Goals as goal

pub returns-in_err-path-clause-untold : goal.returns-in_err-path-clause-untold
returns-in_err-path-clause-untold g c =
    let w = g.W.Write.contents c.args.output.now in
    passed_on _ _ c.from_residual.result
    (λ fault is. subst (λ (made : Fault). IsUntold (first_path c.args.options.now) w w made.refusal (cause_of made)) (sym is)
    (memory refl refl (Appends-nil w)))
    c.from_residual.ensures

pub returns-in-Ok-clause-untold : goal.returns-in-Ok-clause-untold
returns-in-Ok-clause-untold g c = IfErr-weaker c.tell_info.result _ _ (λ fault any. any (first_path c.args.options.now)) c.tell_info.ensures.untold

pub returns-in-Err-clause-untold : goal.returns-in-Err-clause-untold
returns-in-Err-clause-untold g c =
    let w = g.W.Write.contents c.args.output.now in
    let fault = c.unheaded.result in
    subst (λ (path : List ℕ). IsUntold path w w fault.refusal (cause_of fault)) c.in_ok-path.ensures (c.unheaded.ensures w)
