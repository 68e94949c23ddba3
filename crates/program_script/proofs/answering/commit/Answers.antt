use Rattle.std.proofs.Common.{length, ◌∙◌}
use Rattle.std.proofs.lemmas.Result.{on_ok_weaker}
use Rattle.book.specs.History.{replay}
use Rattle.book.specs.Next.{IsRefusedAt}
use Rattle.program_script_text.specs.declared.answer.Answer.TheVariants as answer
use Rattle.program_script.proofs.TurnLemmas.{committed_turn, declined_turn, but_memory}
use Rattle.program_script.proofs.answering.commit.Goals as goal

pub returns-in-Ok-clause-turn : goal.returns-in-Ok-clause-turn
returns-in-Ok-clause-turn g c =
    let next = c.in-Ok.ensures.next in
    on_ok_weaker c.tell_last.result (λ told. (
      answer.Reply next.0.reply,
      told,
      committed_turn g.K.Run.run.first c.args.session.now c.commit.new.self c.args.number c.args.input.now next.0
          c.in-Ok.ensures.count next.2 next.1,
    )) (c.tell_last.ensures.last c.args.session.now.dones next.0 (c.dones.ensures ∙ next.2))

pub returns-in-Err-clause-turn : goal.returns-in-Err-clause-turn
returns-in-Err-clause-turn g c =
    let is = c.in-Err.ensures in
    let refusal = c.in-Err.refusal in
    let t0 = g.K.Run.run.first in
    let history = c.args.session.now.history in
    on_ok_weaker c.decline.result (λ told. (
      answer.Refused refusal c.args.number,
      told.1,
      declined_turn t0 c.args.session.now c.commit.new.self c.args.number c.args.input.now refusal is.err is.count
          (but_memory (IsRefusedAt (replay t0 history) (length history) c.args.input.now) refusal told.0 is.refusals),
    )) c.decline.ensures.told
