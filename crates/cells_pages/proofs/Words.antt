-- Where the words of records stand, side by side.
use Rattle.std.proofs.Common.{◌≡◌, ◌≢◌, ℕ, suc, ◌+◌, ◌*◌, ◌<◌, ◌≤◌, List, length, length-set, set, sym, ◌∙◌, subst, ⊎_elim, arith, mul-le-mul_right, suc-mul}
use Rattle.std.specs.Prelude.{slice_index}
use Rattle.std.proofs.lemmas.Bool.{cases_eq, cases_lt}
use Rattle.std.proofs.lemmas.List.{get_or-set_other, get_or-set_same, ext_get_or}
use Rattle.cells_pages.specs.Rule.{HasWords}

up : (x z y n i : ℕ) → z ≡ x + n → z ≤ y → i < n → x + i < y
up x z y n i e h l = omega arith

met : (x y j : ℕ) → y < x → y ≡ x + j → ⊥
met x y j h e = omega arith

same_place : (x i j : ℕ) → x + i ≡ x + j → i ≡ j
same_place x i j e = omega arith

module _ (n : ℕ) where
  -- a word of a record before record p stands before it
  pub word_below : (q p i : ℕ) → q < p → i < n → q * n + i < p * n
  word_below q p i h l = up (q * n) (suc q * n) (p * n) n i (suc-mul q n) (mul-le-mul_right n h) l

  pub other_word : (q p i j : ℕ) → q ≢ p → i < n → j < n → q * n + i ≢ p * n + j
  other_word q p i j apart il jl e = ⊎_elim
      (λ (h : q < p). met (p * n) (q * n + i) j (word_below q p i h il) e)
      (λ (h : p ≤ q). met (q * n) (p * n + j) i (word_below p q j (omega arith) jl) (sym e))
      (cases_lt q p)

  -- a word of record p changes: other records keep theirs
  pub elsewhere : (words record_words : List ℕ) (q p j new : ℕ) → q ≢ p → j < n → HasWords n words q record_words
      → HasWords n (set words (p * n + j) new) q record_words
  elsewhere words record_words q p j new apart jl has i il = get_or-set_other words (p * n + j) (q * n + i) new 0 (other_word q p i j apart il jl) ∙ has i il

  pub changed : (words record_words : List ℕ) (p j new : ℕ) → p * n + j < length words → length record_words ≡ n → j < n → HasWords n words p record_words
      → HasWords n (set words (p * n + j) new) p (set record_words j new)
  changed words record_words p j new within wide jl has i il = ⊎_elim
      (λ (e : i ≡ j). subst (λ k. slice_index (set words (p * n + j) new) (p * n + k) ≡ slice_index (set record_words j new) k) (sym e)
      (get_or-set_same words (p * n + j) new 0 within ∙ sym (get_or-set_same record_words j new 0 (omega arith))))
      (λ (apart : i ≢ j). get_or-set_other words (p * n + j) (p * n + i) new 0 (λ e. apart (same_place (p * n) i j e)) ∙ has i il ∙ sym (get_or-set_other record_words j i new 0 apart))
      (cases_eq i j)

-- words that are the same one by one
pub same_words : (n : ℕ) (xs ys : List ℕ) → length xs ≡ n → length ys ≡ n → ((i : ℕ) → i < length xs → slice_index xs i ≡ slice_index ys i) → xs ≡ ys
same_words n xs ys a b each = ext_get_or 0 xs ys (a ∙ sym b) each

-- words that are a version's but for the first, and then that too
pub first_set : (n : ℕ) (next version : List ℕ) → 0 < n → length next ≡ n → length version ≡ n
    → ((i : ℕ) → 0 < i → i < n → slice_index next i ≡ slice_index version i) → set next 0 (slice_index version 0) ≡ version
first_set n next version some wide long each = same_words n (set next 0 (slice_index version 0)) version (length-set next 0 (slice_index version 0) ∙ wide) long
    (λ i l. let within : i < n = subst (λ k. i < k) (length-set next 0 (slice_index version 0) ∙ wide) l in
    ⊎_elim
    (λ (e : i ≡ 0). subst (λ j. slice_index (set next 0 (slice_index version 0)) j ≡ slice_index version j) (sym e)
    (get_or-set_same next 0 (slice_index version 0) 0 (omega arith)))
    (λ (other : i ≢ 0). get_or-set_other next 0 i (slice_index version 0) 0 other ∙ each i (omega arith) within)
    (cases_eq i 0))
