-- The bytes of a number and the number in bytes.
use Rattle.std.proofs.Common.{◌≡◌, ℕ, zero, suc, ◌+◌, ◌*◌, ◌/◌, ◌%◌, ◌^◌, ◌<◌, ◌≤◌, true, false, List, [], ◌∷◌, ◌++◌, length, take, drop, refl}
use Rattle.std.proofs.Common.{sym, ap, ◌∙◌, subst, Some, None, arith}
use Rattle.std.specs.Prelude.{nat_lt, if◌then◌else◌}
use Rattle.std.proofs.Math.Nat.{div-div-eq-div-mul, pow-succ'}
use Rattle.std.proofs.Math.Seq.{drop-append_seam}
use Rattle.std.proofs.lemmas.Bool.{ltb-false, le-ltb}
use Rattle.std.proofs.lemmas.List.{take-append-drop, length-append, get_or-append-add}
use Rattle.std.specs.Int.{byte_at, bytes_low_first}
use Rattle.byteorder.specs.Endian.{little_from}
use Rattle.byteorder.specs.Numbers.{little_from-cons, little_from-lt, little_number-reads_back, length-bytes_low_first}
use Rattle.log_codec.specs.Numbers.{number, number_at, IsBytes}
use Rattle.log_codec.specs.Codec.{IsCodec}

-- what stands behind a text is bytes where the whole is
pub bytes_behind : (front rest : List ℕ) → IsBytes (front ++ rest) → IsBytes rest
bytes_behind front rest h i = subst (λ (b : ℕ). b < 256) (get_or-append-add front rest i 0) (h (length front + i))

byte_at-more : (j x : ℕ) → byte_at (suc j) x ≡ byte_at j (x / 256)
byte_at-more zero x = refl
byte_at-more (suc j) x =
    ap (λ (p : ℕ). x / p % 256) (pow-succ' 256 (suc j)) ∙ ap (λ (q : ℕ). q % 256) (sym (div-div-eq-div-mul x 256 (256 ^ suc j)))

bytes_low_first-more : (j k x : ℕ) → bytes_low_first (suc j) k x ≡ bytes_low_first j k (x / 256)
bytes_low_first-more j zero x = refl
bytes_low_first-more j (suc k) x = let b = byte_at-more j x in let bs = bytes_low_first-more (suc j) k x in cc

-- the bytes of the number in bytes are these
pub bytes_of_number : (n : ℕ) (bytes : List ℕ) → n ≤ length bytes → IsBytes bytes → bytes_low_first 0 n (little_from 0 n bytes) ≡ take n bytes
bytes_of_number zero bytes h is = refl
bytes_of_number (suc n) [] h is = absurd (omega arith)
bytes_of_number (suc n) (b ∷ bs) h is =
    let r : ℕ = little_from 0 n bs in
    let byte : b < 256 = is 0 in
    let low : (b + 256 * r) % 256 ≡ b = omega (arith, byte) in
    let high : (b + 256 * r) / 256 ≡ r = omega (arith, byte) in
    let others : bytes_low_first 1 n (b + 256 * r) ≡ take n bs =
    bytes_low_first-more 0 n (b + 256 * r) ∙ ap (bytes_low_first 0 n) high ∙ bytes_of_number n bs (omega arith) (λ i. is (suc i)) in
    ap (λ (q : ℕ). bytes_low_first 0 (suc n) (b + 256 * q)) (little_from-cons 0 n b bs) ∙ ap (λ (x : ℕ). x ∷ bytes_low_first 1 n (b + 256 * r)) low
    ∙ ap (λ (xs : List ℕ). b ∷ xs) others

-- a number has as many bytes as its width
pub length-number : (width n : ℕ) → length (number width n) ≡ width
unfolding number
length-number width n = length-bytes_low_first 0 width n

-- a number that fits its width is read back, with what stands behind it
pub number_at-number : (width n : ℕ) (rest : List ℕ) → n < 256 ^ width → number_at width (number width n ++ rest) ≡ Some (n, rest)
unfolding number number_at
number_at-number width n rest h =
    let long = length-bytes_low_first 0 width n in
    let enough : width ≤ length (bytes_low_first 0 width n ++ rest) = omega (arith, length-append (bytes_low_first 0 width n) rest) in
    let behind : drop width (bytes_low_first 0 width n ++ rest) ≡ rest =
    ap (λ (k : ℕ). drop k (bytes_low_first 0 width n ++ rest)) (sym long) ∙ drop-append_seam (bytes_low_first 0 width n) rest in
    rw (le-ltb _ _ enough, little_number-reads_back width n rest h, behind) refl

-- a number that is read has just the bytes that were taken, and fits its width
pub number-number_at : (width : ℕ) (bytes : List ℕ) (x : ℕ × List ℕ) → IsBytes bytes → number_at width bytes ≡ Some x
    → (bytes ≡ number width x.0 ++ x.1) × (x.0 < 256 ^ width)
unfolding number number_at
number-number_at width bytes x is e =
    elim (nat_lt (length bytes) width) as
    (λ b. nat_lt (length bytes) width ≡ b → (if b then None else Some (little_from 0 width bytes, drop width bytes)) ≡ Some x
    → (bytes ≡ bytes_low_first 0 width x.0 ++ x.1) × (x.0 < 256 ^ width)) [
      | true ↦ λ _ h. absurd cc
      | false ↦ λ t h. found (ltb-false _ _ t) cc
    ] refl e
  where
    found : width ≤ length bytes → (little_from 0 width bytes, drop width bytes) ≡ x → (bytes ≡ bytes_low_first 0 width x.0 ++ x.1) × (x.0 < 256 ^ width)
    found enough same = subst (λ (y : ℕ × List ℕ). (bytes ≡ bytes_low_first 0 width y.0 ++ y.1) × (y.0 < 256 ^ width)) same (
      sym (take-append-drop width bytes) ∙ ap (λ (front : List ℕ). front ++ drop width bytes) (sym (bytes_of_number width bytes enough is)),
      little_from-lt 0 width bytes is,
    )

-- a number and its reader are a codec
pub codec-number : (width : ℕ) → IsCodec (number width) (number_at width) (λ n. n < 256 ^ width)
codec-number width = record { takes = number-number_at width; again = number_at-number width }
