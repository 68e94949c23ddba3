-- A text's front, laid over letters.
use Rattle.std.proofs.Common.{◌≡◌, ℕ, ◌+◌, ◌-◌, ◌≤◌, List, ◌++◌, length, take, drop, replicate, ap, ◌∙◌, arith}
use Rattle.std.proofs.Math.Seq.{take-append-add}
use Rattle.std.proofs.lemmas.List.{drop-replicate, take-replicate}

-- letters over which a front is laid, and the cut behind the last of them
pub filled : (front laid : List ℕ) (letters : ℕ) → length front + letters ≤ 500 → laid ≡ front
    → take (length front + letters) (laid ++ drop (length front) (replicate 500 120)) ≡ front ++ replicate letters 120
filled front laid letters few is =
    let rest : List ℕ = drop (length front) (replicate 500 120) in
    ap (λ (l : List ℕ). take (length front + letters) (l ++ rest)) is ∙ take-append-add front rest letters
    ∙ ap (λ (l : List ℕ). front ++ take letters l) (drop-replicate {X = ℕ} (length front) 500 120)
    ∙ ap (λ (l : List ℕ). front ++ l) (take-replicate {X = ℕ} letters (500 - length front) 120 (omega (arith, few)))
