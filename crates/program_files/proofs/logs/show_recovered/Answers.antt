use Rattle.std.proofs.Common.{[], append-nil, inl}
use Rattle.std.proofs.lemmas.Result.{IfOk-weaker, IfErr-weaker}
use Rattle.program_recovery.specs.Text.{recovery_text}
use Rattle.program_recovery.specs.Told.{begun}
use Rattle.program_files.proofs.logs.show_recovered.Goals as goal

pub returns-clause-shown : goal.returns-clause-shown
returns-clause-shown g c =
    let known = c.in_ok-recovered.ensures.shown in
    IfOk-weaker c.check.result _ _ (λ report exact. record {
      strings = known.0;
      recovered = c.in_ok-recovered.recovered;
      shown = known.2;
      exact = exact;
    }) c.check.ensures.ok

pub returns-clause-refused : goal.returns-clause-refused
returns-clause-refused g c =
    let known = c.in_ok-recovered.ensures.shown in
    let r = c.in_ok-recovered.recovered in
    IfErr-weaker c.check.result _ _ (λ refusal memory.
    (known.0, begun r (recovery_text r) [] known.2.recovery (append-nil (recovery_text r)) known.2.wrote c.in_ok-recovered.ensures.not_failed (inl memory))) c.check.ensures.memory
