use Rattle.std.proofs.Common.{rules, refl}
use Rattle.program_script.specs.Answered.{standing_of}
use Rattle.program_script.proofs.DeskLemmas.{last_empty, last_answered, last_too_many, full_at}
use Rattle.program_script.proofs.running.Desk.answer_last.Goals as goal

pub returns-then-is_empty-clause-ok : goal.returns-then-is_empty-clause-ok
returns-then-is_empty-clause-ok g c = λ text written h. last_empty g.K.Run.run.first text written (standing_of c.args.self.now) h (c.if-is_empty.ensures.0 refl)

pub returns-clause-ok : goal.returns-clause-ok
returns-clause-ok g c = λ text written h. last_answered g.K.Run.run.first text written (standing_of c.args.self.now) (standing_of c.answer_held.new.self) h
    (λ e. absurd (cc (c.if-is_empty.ensures.1 e))) (c.in_ok-answer_held.ensures.turn h.rest h.line_is)

pub returns-in_err-answer_held-clause-too_many : goal.returns-in_err-answer_held-clause-too_many
returns-in_err-answer_held-clause-too_many g c = λ bad text written h. last_too_many g.K.Run.run.first text written (standing_of c.args.self.now) h
    (λ e. absurd (cc (c.if-is_empty.ensures.1 e))) (full_at _ c.from_residual.result _ (search rules) c.in_err-answer_held.ensures.refusals bad)
