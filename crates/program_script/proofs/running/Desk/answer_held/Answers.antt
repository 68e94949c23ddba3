use Rattle.program_script.specs.Answered.{state_of}
use Rattle.std.proofs.Common.{◌∙◌, refl}
use Rattle.program_script.proofs.running.Desk.answer_held.Goals as goal

pub returns-clause-turn : goal.returns-clause-turn
returns-clause-turn g c =
    let told = c.in_ok-refused.ensures.turn in
    λ bytes is. (
      record { answer = told.0; state = (state_of g.K.Run.run.first c.answer_line.new.session) },
      told.2 bytes
          (c.line-line.ensures ∙ is),
      refl,
      told.1,
    )
