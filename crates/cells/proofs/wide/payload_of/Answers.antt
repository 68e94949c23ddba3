use Rattle.std.proofs.Common.{◌≡◌, ℕ, List, [], ◌∷◌, length, take, drop, sym, ap, ◌∙◌, arith}
use Rattle.std.proofs.lemmas.List.{take_all}
use Rattle.cells_pages.specs.Versions.{word_in}
use Rattle.cells.proofs.wide.payload_of.Goals as goal

first_and_rest : (words : List ℕ) → length words ≡ 64 → words ≡ word_in words ∷ take 63 (drop 1 words)
first_and_rest [] count = absurd (omega arith)
first_and_rest (word ∷ words) count = ap (λ (l : List ℕ). word ∷ l) (sym (take_all 63 words (omega arith)))

pub returns : goal.returns
returns c = first_and_rest c.args.words.now c.told-words ∙ ap (λ (l : List ℕ). word_in c.args.words.now ∷ l) (sym c.copy_from_slice.ensures.after)
