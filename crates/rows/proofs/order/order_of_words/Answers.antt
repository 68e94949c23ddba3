use Rattle.std.proofs.Common.{◌∙◌, ℕ, List, [], ◌∷◌, ◌++◌, ap, arith, rules}
use Rattle.rows.proofs.Seven.{five_and_zeros}
use Rattle.rows.proofs.order.order_of_words.Goals as goal

pub returns : goal.returns
returns c = record {
  some = λ r is.
      let got = c.order_of.ensures.some r is in
      (got.0, five_and_zeros c.args.words.now c.told-words (omega arith) (omega arith) ∙ ap (λ (l : List ℕ). l ++ 0 ∷ 0 ∷ []) got.1);
  each = λ r fits same. c.order_of.ensures.each r fits (search rules);
}
