use Rattle.std.proofs.Common.{◌≡◌, ◌+◌, ◌≤◌, List, ℕ, ◌++◌, length, take, drop, replicate, ap, ◌∙◌, sym, subst, arith, length-append}
use Rattle.std.proofs.lemmas.List.{length-replicate}
use Rattle.customer_data.specs.Words.{data_words}
use Rattle.customer_data.proofs.Fronts.{filled}
use Rattle.customer_data.proofs.text.CustomerData.words.Goals as goal

pub returns : goal.returns
returns c =
    let front = c.as_bytes-front.result.now in
    let letters = c.self.inside.letters in
    let held = c.as_bytes-front.ensures.value in
    let few : length front + letters ≤ 500 = subst (λ (l : List ℕ). length l + letters ≤ 500) (sym held) c.self.invariant in
    let whole : front ++ replicate letters 120 ≡ c.args.self.now = ap (λ (l : List ℕ). l ++ replicate letters 120) held ∙ c.self.view_is in
    let long : c.len.result ≡ length front + letters =
    c.len.ensures ∙ ap length (sym whole) ∙ length-append front (replicate letters 120) ∙ ap (λ n. length front + n) (length-replicate letters 120) in
    c.words_of.ensures
    ∙ ap (λ n. data_words (take n (c.copy_from_slice.new.self ++ drop (length front) (replicate 500 120)))) long
    ∙ ap data_words (filled front c.copy_from_slice.new.self letters few c.copy_from_slice.ensures.after ∙ whole)
