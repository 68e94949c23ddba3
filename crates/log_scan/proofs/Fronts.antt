-- What is read behind the front of a disk.
use Rattle.std.proofs.Common.{◌≡◌, ℕ, ◌+◌, ◌-◌, ◌≤◌, List, ◌++◌, length, take, drop, replicate, sym, ap, ◌∙◌, arith}
use Rattle.std.proofs.Common.{length-append}
use Rattle.std.proofs.lemmas.List.{take-append-drop, length-take-le, length-replicate}
use Rattle.std.proofs.Math.Seq.{take-add, take-append_seam}

-- bytes in front of a disk's, and more behind them, are in front of it
pub longer_front : (old more seen new : List ℕ) (count : ℕ) → old ≡ take (length old) seen → more ≡ take count (drop (length old) seen)
    → length more ≡ count → new ≡ old ++ more → new ≡ take (length new) seen
longer_front old more seen new count front behind long is =
    let whole : length new ≡ length old + count = omega (arith, ap length is, length-append old more, long) in
    is ∙ (λ i. front i ++ behind i) ∙ sym (take-add (length old) count seen) ∙ ap (λ (n : ℕ). take n seen) (sym whole)

-- what stands behind bytes in front of a disk of this size, as far as it goes, and zeros behind it
abbrev pub behind : List ℕ → ℕ → List ℕ → List ℕ
behind bytes size seen = take (size - length bytes) (drop (length bytes) seen ++ replicate size 0)

pub behind_fits : (bytes : List ℕ) (size : ℕ) (seen : List ℕ) → length bytes ≤ size → length bytes + length (behind bytes size seen) ≡ size
behind_fits bytes size seen within =
    let all : List ℕ = drop (length bytes) seen ++ replicate size 0 in
    let enough : size - length bytes ≤ length all =
    omega (arith, length-append (drop (length bytes) seen) (replicate size 0), length-replicate {A = ℕ} size 0) in
    omega (arith, within, length-take-le (size - length bytes) all enough)

pub behind_whole : (bytes : List ℕ) (size : ℕ) (seen : List ℕ) → length bytes ≤ size → bytes ≡ take (length bytes) seen → size ≡ length seen
    → bytes ++ behind bytes size seen ≡ seen
behind_whole bytes size seen within front whole =
    let n : ℕ = length bytes in
    let parts = take-append-drop n seen in
    let long : size - n ≡ length (drop n seen) = omega (arith, within, whole, ap length parts, length-append (take n seen) (drop n seen), ap length front) in
    (λ i. front i ++ (ap (λ (k : ℕ). take k (drop n seen ++ replicate size 0)) long ∙ take-append_seam (drop n seen) (replicate size 0)) i) ∙ parts
