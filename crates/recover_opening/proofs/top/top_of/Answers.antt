use Rattle.std.proofs.Common.{ℕ, take, ap, ◌∙◌}
use Rattle.log_text.specs.Bodies.{mark_of, body_of, entries_in}
use Rattle.log_text.specs.declared.body.Body.{Body}
use Rattle.recover_found.specs.Found.{bodies_in}
use Rattle.recover_opening.specs.Tops.{epoch_behind, epoch_from}
use Rattle.recover_opening.proofs.BodyByBody.{mark_more, epoch_more}
use Rattle.recover_opening.proofs.top.top_of.Goals as goal

pub loop-body-preserved : goal.loop-body-preserved
loop-body-preserved c =
    let i = c.loop-body.body-index in
    let bodies = c.args.bodies.now in
    let body = c.body-item.result in (
      c.mark-mark.ensures ∙ ap (λ (b : Body). mark_of (body_of b)) c.body-item.is ∙ mark_more bodies i body c.loop-body-test.true,
      c.last_epoch_of-epoch.ensures
          ∙ ap (λ (n : ℕ). epoch_behind n (entries_in (body_of body))) c.loop-body.invariant.1
          ∙ ap (λ (b : Body). epoch_behind (epoch_from 0 (bodies_in (take i bodies))) (entries_in (body_of b))) c.body-item.is
          ∙ epoch_more bodies i body c.loop-body-test.true,
    )
