-- Lists that are copied one behind the other into zeros, and the cut behind them.
use Rattle.std.proofs.Common.{◌≡◌, ℕ, zero, suc, ◌+◌, ◌-◌, List, [], ◌∷◌, ◌++◌, length, take, drop, replicate, min}
use Rattle.std.proofs.Common.{refl, sym, ap, ◌∙◌, append_assoc, arith}
use Rattle.std.proofs.lemmas.List.{drop-replicate, drop_at, length-append, take_at, take_min}
use borrow.Rule.Slice.PartMut.{put_mid}

-- a list that is laid behind another, into the zeros there
pub laid : (n a k : ℕ) (front behind : List ℕ) → length front ≡ a
    → put_mid a k (front ++ drop a (replicate n 0)) behind ≡ front ++ (behind ++ replicate (n - a - k) 0)
laid n a k front behind long =
    let zeros : List ℕ = drop a (replicate n 0) in
    let fewer = drop-replicate {X = ℕ} a n 0 in
    let left = drop-replicate {X = ℕ} k (n - a) 0 in
    rw (take_at front zeros a long, drop_at front zeros a long, fewer, left) refl

-- two lists that were copied so, without the zeros behind them
pub joined : (n : ℕ) (front behind first second : List ℕ) → first ≡ front → second ≡ behind
    → take (length front + length behind) (put_mid (length front) (length front + length behind - length front)
    (first ++ drop (length front) (replicate n 0)) second) ≡ front ++ behind
joined n front behind first second is_front is_behind =
    let k : ℕ = length front + length behind - length front in
    let zeros : List ℕ = replicate (n - length front - k) 0 in
    let whole : front ++ (behind ++ zeros) ≡ front ++ behind ++ zeros = sym (append_assoc front behind zeros) in
    rw (is_front, is_behind, laid n (length front) k front behind refl, whole)
    (take_at (front ++ behind) zeros (length front + length behind) (length-append front behind))

-- a list whose two parts are cut each is cut as a whole
cut : (n : ℕ) (front behind : List ℕ)
    → take n front ++ take (n - length (take n front)) behind ≡ take n (front ++ behind)
cut zero front behind = refl
cut (suc n) [] behind = let whole : suc n - 0 ≡ suc n = omega arith in ap (λ k. take k behind) whole
cut (suc n) (x ∷ xs) behind =
    let less : suc n - suc (length (take n xs)) ≡ n - length (take n xs) = omega arith in
    ap (λ k. x ∷ (take n xs ++ take k behind)) less ∙ ap (λ (rest : List ℕ). x ∷ rest) (cut n xs behind)

-- the same, where each part is cut to the places that are there
pub cut_both : (n i j : ℕ) (front behind : List ℕ) → i ≡ min (length front) n
    → j ≡ min (length behind) (n - length (take i front)) → take i front ++ take j behind ≡ take n (front ++ behind)
cut_both n i j front behind is_i is_j =
    let least : i ≡ min n (length front) = omega (arith, is_i) in
    let first : take i front ≡ take n front = ap (λ k. take k front) least ∙ take_min n front in
    let room : ℕ = n - length (take i front) in
    let fewer : j ≡ min room (length behind) = omega (arith, is_j) in
    let second : take j behind ≡ take room behind = ap (λ k. take k behind) fewer ∙ take_min room behind in
    rw (second, first) (cut n front behind)
