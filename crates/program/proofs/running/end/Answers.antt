use Rattle.std.proofs.Common.{◌++◌, List, ℕ, string_bytes, subst}
use Rattle.program_files.specs.Causes.{cause_of}
use Rattle.program.specs.Status.{refusal_line, WritesBeginning}
use Rattle.program_files.specs.declared.fault.Fault.{Fault}
use Rattle.program.proofs.Beginnings.{begins_any}
use Rattle.program.proofs.Details.{some_plain_detail}
use Rattle.program.proofs.Plain.{IsEndedBy, of_fault}
use Rattle.program.proofs.running.end.Goals as goal

pub returns-in-Ok-plain_detail-clause-refused : goal.returns-in-Ok-plain_detail-clause-refused
returns-in-Ok-plain_detail-clause-refused g c =
    let old = g.E.Write.contents c.args.errors.now in
    let new = g.E.Write.contents c.finish_refused.new.errors in
    of_fault (λ (it : Fault). IsEndedBy c.args.input.now.failure c.args.output.now.failure (g.E.Write.contents c.args.errors.now)
    (g.E.Write.contents c.finish_refused.new.errors) c.finish_refused.result it.refusal (cause_of it)) c.args.told c.in-Err.fault c.in-Err.is (
      string_bytes c.in-Ok-plain_detail.detail,
      c.in-Ok-plain_detail.ensures,
      subst (λ (detail : List ℕ). WritesBeginning (refusal_line c.in-Err.fault.refusal ++ detail) old new) c.as_str.ensures.value c.finish_refused.ensures.lines,
      c.finish_refused.ensures.status,
    )

pub returns-clause-refused : goal.returns-clause-refused
returns-clause-refused g c =
    let fault = c.in-Err.fault in
    let told = some_plain_detail (cause_of fault) c.args.input.now.failure c.args.output.now.failure fault.refusal in
    of_fault (λ (it : Fault). IsEndedBy c.args.input.now.failure c.args.output.now.failure (g.E.Write.contents c.args.errors.now)
    (g.E.Write.contents c.finish_refused-in-Err-plain_detail.new.errors) c.finish_refused-in-Err-plain_detail.result it.refusal (cause_of it)) c.args.told fault c.in-Err.is (
      told.0,
      told.1,
      begins_any (refusal_line fault.refusal) told.0 (g.E.Write.contents c.args.errors.now)
          (g.E.Write.contents c.finish_refused-in-Err-plain_detail.new.errors) c.finish_refused-in-Err-plain_detail.ensures.lines,
      c.finish_refused-in-Err-plain_detail.ensures.status,
    )
