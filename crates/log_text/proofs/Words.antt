-- Many numbers of eight bytes, read at once.
use Rattle.std.proofs.Common.{◌≡◌, ℕ, zero, suc, ◌+◌, ◌-◌, ◌*◌, ◌<◌, ◌≤◌, List, [], ◌∷◌, ◌++◌, length, drop, replicate, refl, sym, ap, ◌∙◌, Some, None, arith}
use Rattle.std.proofs.Common.{true, false, Option, length-drop, length-append, drop-drop}
use Rattle.std.proofs.lemmas.List.{drop-append-le}
use Rattle.std.proofs.Math.Seq.{drop-append_seam}
use Rattle.std.specs.Prelude.{slice_index, nat_lt}
use Rattle.std.specs.Option.{option_map, option_and_then}
use Rattle.std.proofs.lemmas.Bool.{ltb-true, ltb-false, le-ltb, lt-ltb}
use Rattle.byteorder.specs.Endian.{little_number, IsRead}
use Rattle.byteorder.specs.Numbers.{little_from-append}
use Rattle.log_codec.specs.Numbers.{number_at}
use Rattle.log_codec.specs.Read.{many}

one_there : (bytes : List ℕ) → 8 ≤ length bytes → number_at 8 bytes ≡ Some (little_number 8 bytes, drop 8 bytes)
unfolding number_at
one_there bytes h = rw (le-ltb _ _ h) refl

none_there : (bytes : List ℕ) → length bytes < 8 → number_at 8 bytes ≡ None
unfolding number_at
none_there bytes h = rw (lt-ltb _ _ h) refl

-- too few bytes
pub too_few : (n : ℕ) (bytes : List ℕ) → length bytes < 8 * n → many n (number_at 8) bytes ≡ None
unfolding many
too_few zero bytes h = absurd (omega (arith, h))
too_few (suc n) bytes h =
    elim (nat_lt (length bytes) 8) as (λ b. nat_lt (length bytes) 8 ≡ b → many (suc n) (number_at 8) bytes ≡ None) [
      | true ↦ λ t. ap (option_and_then next) (none_there bytes (ltb-true _ _ t))
      | false ↦ λ t. ap (option_and_then next) (one_there bytes (ltb-false _ _ t))
          ∙ ap (option_map (λ (others : List ℕ × List ℕ). (little_number 8 bytes ∷ others.0, others.1)))
          (too_few n (drop 8 bytes) (omega (arith, h, length-drop 8 bytes, ltb-false _ _ t)))
    ] refl
  where
    next : ℕ × List ℕ → Option (List ℕ × List ℕ)
    next a = option_map (λ (others : List ℕ × List ℕ). (a.0 ∷ others.0, others.1)) (many n (number_at 8) a.1)

-- enough bytes, whose numbers these are
pub enough : (words bytes : List ℕ) → 8 * length words ≤ length bytes
    → ((k : ℕ) → k < length words → slice_index words k ≡ little_number 8 (drop (8 * k) bytes))
    → many (length words) (number_at 8) bytes ≡ Some (words, drop (8 * length words) bytes)
unfolding many
enough [] bytes h is = refl
enough (word ∷ words) bytes h is =
    ap (option_and_then (λ (a : ℕ × List ℕ). option_map (λ (others : List ℕ × List ℕ). (a.0 ∷ others.0, others.1)) (many (length words) (number_at 8) a.1)))
    (one_there bytes (omega (arith, h)))
    ∙ ap (option_map (λ (others : List ℕ × List ℕ). (little_number 8 bytes ∷ others.0, others.1)))
    (enough words (drop 8 bytes) (omega (arith, h, length-drop 8 bytes))
    (λ k small. is (suc k) (omega (arith, small)) ∙ ap (little_number 8) (shifted k)))
    ∙ (λ i. Some (sym (is 0 (omega arith)) i ∷ words, sym (shifted (length words)) i))
  where
    shifted : (k : ℕ) → drop (8 * suc k) bytes ≡ drop (8 * k) (drop 8 bytes)
    shifted k = ap (λ (n : ℕ). drop n bytes) (at k) ∙ sym (drop-drop (8 * k) 8 bytes)
      where
        at : (k : ℕ) → 8 * suc k ≡ 8 + 8 * k
        at k = omega arith

-- numbers read from the front of bytes are those of the whole
pub read_in_front : (words front rest : List ℕ) → length front ≡ 8 * length words → IsRead little_number 8 front words
    → many (length words) (number_at 8) (front ++ rest) ≡ Some (words, rest)
read_in_front words front rest long is =
    enough words (front ++ rest) (omega (arith, long, length-append front rest))
    (λ k small. is k small ∙ sym (ap (little_number 8) (drop-append-le (8 * k) front rest (omega (arith, long, small)))
    ∙ little_from-append 8 (drop (8 * k) front) rest (omega (arith, long, small, length-drop (8 * k) front))))
    ∙ ap (λ (r : List ℕ). Some (words, r)) (ap (λ (n : ℕ). drop n (front ++ rest)) (sym long) ∙ drop-append_seam front rest)

pub drop-zeros : (m n : ℕ) → drop {A = ℕ} m (replicate n 0) ≡ replicate (n - m) 0
drop-zeros zero n = ap (λ (k : ℕ). replicate k 0) (whole n)
  where
    whole : (n : ℕ) → n ≡ n - 0
    whole n = omega arith
drop-zeros (suc m) zero = ap (λ (k : ℕ). replicate k 0) (none m)
  where
    none : (m : ℕ) → 0 ≡ 0 - suc m
    none m = omega arith
drop-zeros (suc m) (suc n) = drop-zeros m n ∙ ap (λ (k : ℕ). replicate k 0) (less n m)
  where
    less : (n m : ℕ) → n - m ≡ suc n - suc m
    less n m = omega arith
