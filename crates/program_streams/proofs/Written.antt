-- A text that is written piece by piece.
use Rattle.std.proofs.Common.{◌≡◌, ℕ, Option, List, ◌++◌, length, append_assoc, ◌-◌, ◌≤◌, take, drop, length-drop, sym, ap, ◌∙◌}
use Rattle.std.proofs.Math.Seq.{take-length}
use Rattle.std.specs.Io.KnownBytes.{Appends}
use Rattle.std.proofs.lemmas.List.{take-append-drop}
use Rattle.std.proofs.KnownBytes.{Appends-trans}

-- a write takes the first n bytes of what is left
pub front_more : (old mid new : Option (List ℕ)) (text rest : List ℕ) (n : ℕ) → n ≤ length rest → (front : List ℕ) × (text ≡ front ++ rest)
    × Appends old mid front → Appends mid new (take n rest) → (front : List ℕ) × (text ≡ front ++ take (length rest - n) (drop n rest)) × Appends old new front
front_more old mid new text rest n within before wrote =
    let tail : take (length rest - n) (drop n rest) ≡ drop n rest = ap (λ k. take k (drop n rest)) (sym (length-drop n rest)) ∙ take-length (drop n rest) in
    let parts : text ≡ (before.0 ++ take n rest) ++ take (length rest - n) (drop n rest) =
    before.1 ∙ ap (λ r. before.0 ++ r) (sym (take-append-drop n rest)) ∙ sym (append_assoc before.0 (take n rest) (drop n rest))
    ∙ ap (λ r. (before.0 ++ take n rest) ++ r) (sym tail) in
    (before.0 ++ take n rest, parts, Appends-trans old mid new before.0 (take n rest) before.2 wrote)
