use Rattle.std.proofs.lemmas.Result.{on_ok_weaker}
use Rattle.money.specs.declared.refusal.Refusal.TheVariants.{BadLine}
use Rattle.program_script_text.specs.Requests.{IsRefusedLine}
use Rattle.program_script_text.specs.declared.answer.Answer.TheVariants as answer
use Rattle.program_script.specs.Answered.{state_of}
use Rattle.program_script.proofs.TurnLemmas.{long_turn, read_turn, unread_turn, but_memory}
use Rattle.program_script.proofs.answering.answer_line.Goals as goal

pub returns-in_default-clause-turn : goal.returns-in_default-clause-turn
returns-in_default-clause-turn g c =
    let s = state_of g.K.Run.run.first c.args.session.now in
    rw c.in_default.is (on_ok_weaker c.refuse.result (λ told. (answer.Refused BadLine c.args.number, told, long_turn s c.args.number))
    c.refuse.ensures.told)

pub returns-in-Ok-clause-turn : goal.returns-in-Ok-clause-turn
returns-in-Ok-clause-turn g c =
    let before = state_of g.K.Run.run.first c.args.session.now in
    let read = c.in-Ok.ensures in
    rw c.in-Some.is (on_ok_weaker c.answer_request.result (λ told. (
      told.0,
      told.1,
      read_turn before c.args.number c.in-Some.text.now c.in-Ok.request _ read.numbers read.request told.2,
    )) c.answer_request.ensures.turn)

pub returns-in-Err-clause-turn : goal.returns-in-Err-clause-turn
returns-in-Err-clause-turn g c =
    let s = state_of g.K.Run.run.first c.args.session.now in
    let refusal = c.in-Err.refusal in
    rw c.in-Some.is (on_ok_weaker c.decline.result (λ told. (
      answer.Refused refusal c.args.number,
      told.1,
      unread_turn s c.args.number c.in-Some.text.now refusal
          (but_memory (IsRefusedLine c.args.number c.in-Some.text.now) refusal told.0 c.in-Err.ensures.refusal),
    )) c.decline.ensures.told)
