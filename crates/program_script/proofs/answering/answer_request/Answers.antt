use Rattle.std.proofs.Common.{sym, ap, ◌∙◌, subst}
use Rattle.std.proofs.lemmas.Result.{on_ok_weaker}
use Rattle.tables.specs.Sizes.{Sizes}
use Rattle.tables.specs.Database.{Database}
use Rattle.program_script_text.specs.Requests.{IsInRange}
use Rattle.program_script_text.specs.declared.request.Request.TheVariants.{Transaction, Show}
use Rattle.program_script_text.specs.declared.answer.Answer.TheVariants as answer
use Rattle.book_session.specs.Session.{SessionView}
use Rattle.program_script.specs.Answered.{state_of}
use Rattle.program_script.proofs.TurnLemmas.{beyond_turn, within_turn}
use Rattle.program_script.proofs.answering.answer_request.Goals as goal

pub returns-in-Ok-Transaction-clause-turn : goal.returns-in-Ok-Transaction-clause-turn
returns-in-Ok-Transaction-clause-turn g c =
    let t0 = g.K.Run.run.first in
    let scale = c.scale-scale.ensures ∙ ap (λ (t : Database). t.scale) c.population.ensures in
    let ok = c.in-Ok-Transaction.ensures.ranges in
    let in_range = subst (λ (s : Sizes). IsInRange s c.args.request) scale ok.1 in
    on_ok_weaker c.commit.result (λ told. (
      told.0,
      told.1,
      within_turn t0 c.args.session.now c.args.number c.args.request (Transaction c.in-Ok-Transaction.input) _
          (sym c.in-Ok-Transaction.field-0-is ∙ ok.0, in_range) told.2,
    )) c.commit.ensures.turn

pub returns-in_ok-row-in-Ok-Show-clause-turn : goal.returns-in_ok-row-in-Ok-Show-clause-turn
returns-in_ok-row-in-Ok-Show-clause-turn g c =
    let t0 = g.K.Run.run.first in
    let scale = c.scale-scale.ensures ∙ ap (λ (t : Database). t.scale) c.population.ensures in
    let ok = c.in-Ok-Show.ensures.ranges in
    let in_range = subst (λ (s : Sizes). IsInRange s c.args.request) scale ok.1 in
    on_ok_weaker c.tell_row.result (λ told. (
      answer.Row c.in_ok-row-in-Ok-Show.row,
      told,
      within_turn t0 c.args.session.now c.args.number c.args.request (Show c.in-Ok-Show.key) _
          (sym c.in-Ok-Show.field-0-is ∙ ok.0, in_range) (
            c.in_ok-row-in-Ok-Show.row,
            c.in_ok-row-in-Ok-Show.ensures.row,
            ap (λ (v : SessionView). record { answer = answer.Row c.in_ok-row-in-Ok-Show.row; state = state_of t0 v }) c.show.ensures.same,
          ),
    )) c.tell_row.ensures.told

pub returns-in-Err-clause-turn : goal.returns-in-Err-clause-turn
returns-in-Err-clause-turn g c =
    let t0 = g.K.Run.run.first in
    let scale = c.scale-scale.ensures ∙ ap (λ (t : Database). t.scale) c.population.ensures in
    let wrong = c.in-Err.ensures.ranges in
    on_ok_weaker c.refuse.result (λ told. (
      answer.Refused c.in-Err.refusal c.args.number,
      told,
      beyond_turn t0 c.args.session.now c.args.number c.args.request c.in-Err.refusal
          (wrong.0, subst (λ (s : Sizes). ¬ IsInRange s c.args.request) scale wrong.1),
    )) c.refuse.ensures.told
