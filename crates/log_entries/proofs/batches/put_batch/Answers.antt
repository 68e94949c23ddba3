use Rattle.std.proofs.Common.{◌≡◌, [], ◌∷◌, ◌++◌, refl, ◌∙◌, append_assoc}
use Rattle.log_codec.specs.Numbers.{number}
use Rattle.log_text.specs.Bodies.{body_text}
use Rattle.log_entries.specs.Following.{body_of_batch}
use Rattle.log_entries.proofs.batches.put_batch.Goals as goal

closed : number 1 0 ≡ 0 ∷ []
unfolding number
closed = refl

pub returns-clause-text : goal.returns-clause-text
returns-clause-text c =
    c.in_ok-put_u8.ensures.ok ∙ (λ i. c.in_ok-now.ensures.text i ++ closed i)
    ∙ append_assoc c.args.out.now.items (body_text (body_of_batch c.args.batch.now)) (0 ∷ [])
