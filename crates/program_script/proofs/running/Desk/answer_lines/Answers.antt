use Rattle.std.proofs.Common.{rules}
use Rattle.program_script.specs.Answered.{standing_of}
use Rattle.program_script.proofs.DeskLemmas.{line_taken, line_too_many, rest_held, full_at}
use Rattle.program_script.proofs.Told.{told_on}
use Rattle.program_script.proofs.running.Desk.answer_lines.Goals as goal

pub loop-after-preserved : goal.loop-after-preserved
loop-after-preserved g c = (
  λ text written start. line_taken g.K.Run.run.first text written _ _ _ (standing_of c.loop-after.self)
      (standing_of c.answer_held.new.self) c.take_line.new.self (c.loop-after.invariant.0 text written start) c.in-Some.ensures.ended
      c.in_ok-answer_held.ensures.turn c.in_ok-answer_held.ensures.count c.in_ok-answer_held.ensures.line,
  told_on (g.H.Hints.told c.args.hints.now) (g.H.Hints.told c.loop-after.hints) (g.H.Hints.told c.answer_held.new.hints) c.loop-after.invariant.1
      c.in_ok-answer_held.ensures.told,
)

pub returns-in_err-answer_held-clause-too_many : goal.returns-in_err-answer_held-clause-too_many
returns-in_err-answer_held-clause-too_many g c = λ bad text written start. line_too_many g.K.Run.run.first text written _ _ _ (standing_of c.loop-after.self)
    c.take_line.new.self (c.loop-after.invariant.0 text written start) c.in-Some.ensures.ended
    (full_at _ c.from_residual.result _ (search rules) c.in_err-answer_held.ensures.refusals bad)

pub returns-clause-ok : goal.returns-clause-ok
returns-clause-ok g c = λ text written start. rest_held g.K.Run.run.first text written _ _ (standing_of c.loop-after.self) c.take_line.new.self
    (c.loop-after.invariant.0 text written start) c.in_default.ensures.goes_on c.in_default.ensures.all_held

pub returns-in_err-answer_held-clause-told : goal.returns-in_err-answer_held-clause-told
returns-in_err-answer_held-clause-told g c =
    told_on (g.H.Hints.told c.args.hints.now) (g.H.Hints.told c.loop-after.hints) (g.H.Hints.told c.answer_held.new.hints) c.loop-after.invariant.1
    c.in_err-answer_held.ensures.told
