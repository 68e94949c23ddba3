use Rattle.std.proofs.Common.{◌∙◌, refl, subst, sym}
use Rattle.std.proofs.KnownBytes.{Appends-nil}
use Rattle.program_files.specs.Causes.{cause_of}
use Rattle.program.specs.Info.{IsUntold, begun, info_text, memory}
use Rattle.program.specs.Status.{WritesBeginning}
use Rattle.program_files.specs.declared.fault.Fault.{Fault}
use Rattle.program_live.proofs.NoMemory.{passed_on}
use Rattle.program.proofs.info.tell_info.Goals as goal

pub returns-in_err-text-clause-untold : goal.returns-in_err-text-clause-untold
returns-in_err-text-clause-untold g c =
    let w = g.W.Write.contents c.args.output.now in
    passed_on _ _ c.from_residual.result
    (λ fault is path. subst (λ (made : Fault). IsUntold path w w made.refusal (cause_of made)) (sym is) (memory refl refl (Appends-nil w)))
    c.from_residual.ensures

pub returns-clause-untold : goal.returns-clause-untold
returns-clause-untold g c = λ path.
    let err = c.in-Err.ensures.err in
    let told : WritesBeginning (info_text c.args.header.now) (g.W.Write.contents c.args.output.now) (g.W.Write.contents c.write_text.new.writer) =
    (err.0, err.1, sym c.in_ok-text.ensures ∙ (sym c.as_bytes.ensures.value ∙ err.2), err.3) in
    subst (λ (made : Fault). IsUntold path (g.W.Write.contents c.args.output.now) (g.W.Write.contents c.write_text.new.writer) made.refusal (cause_of made))
    (sym c.of.ensures) (begun c.args.header.now c.requires c.in-Err.ensures.device refl told)
