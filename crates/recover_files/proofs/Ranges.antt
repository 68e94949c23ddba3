-- Words in the ranges of their columns, and the numbers that they are.
use Rattle.std.proofs.Common.{◌≡◌, ℕ, zero, suc, ◌^◌, ◌<◌, ◌≤◌, ℤ, pos, ◌≤ℤ◌, true, ◌&&◌, true≢false, cond, List, [], ◌∷◌, ◌++◌, length, replicate}
use Rattle.std.proofs.Common.{get_or, slice_index}
use Rattle.std.proofs.Common.{Option, Some, None, refl, sym, ap, subst, arith, not-suc-le-zero}
use Rattle.std.specs.Prelude.{◌==◌, nat_lt, int_le}
use Rattle.std.specs.Int.{w64}
use Rattle.std.specs.Option.{unwrap_or, ForSome}
use Rattle.std.proofs.lemmas.Bool.{ltb-true}
use Rattle.std.proofs.lemmas.Int.{ints, of_z-to_z}
use Rattle.std.proofs.lemmas.Option.{none-some, same_Some}
use Rattle.tables.specs.Sizes.{IsBetween, IsNumber}
use Rattle.tables.specs.Rows.{money_word, money_of}
use Rattle.log_text.specs.Columns.{span, is_within, are_within}
use Rattle.log_text.proofs.Fitting.{and_split}

-- a word of 64 bits whose number, two's complement, is in a range
pub record IsIn (least most : ℤ) (word : ℕ) : Type 0 where
  pub small : word < 2 ^ 64
  pub low : least ≤ℤ money_of word
  pub high : money_of word ≤ℤ most

-- (`_` is a range of log_text's, whose type has no name outside of that crate)
int_le_true : (a b : ℤ) → int_le a b ≡ true → a ≤ℤ b
int_le_true a b h = grind (arith, ints)

in_range : (range : _) (word : ℕ) → is_within range word ≡ true → IsIn range.low range.high word
in_range range word e =
    let parts = and_split (nat_lt word (2 ^ 64)) (int_le range.low (money_of word) && int_le (money_of word) range.high) e in
    let bounds = and_split (int_le range.low (money_of word)) (int_le (money_of word) range.high) parts.1 in
    record {
      small = ltb-true word (2 ^ 64) parts.0;
      low = int_le_true range.low (money_of word) bounds.0;
      high = int_le_true (money_of word) range.high bounds.1;
    }

-- each word is in its range, and there are as many words as ranges
pub each_in : (ranges : _) (words : List ℕ) → are_within ranges words ≡ true → (i : ℕ) → i < length ranges
    → IsIn (get_or ranges i (span 0 0)).low (get_or ranges i (span 0 0)).high (slice_index words i)
each_in [] words e i h = absurd (not-suc-le-zero h)
each_in (range ∷ ranges) [] e i h = absurd (true≢false (sym e))
each_in (range ∷ ranges) (word ∷ words) e zero h = in_range range word (and_split (is_within range word) (are_within ranges words) e).0
each_in (range ∷ ranges) (word ∷ words) e (suc i) h = each_in ranges words (and_split (is_within range word) (are_within ranges words) e).1 i (omega (arith, h))

pub as_many : (ranges : _) (words : List ℕ) → are_within ranges words ≡ true → length words ≡ length ranges
as_many [] [] e = refl
as_many [] (word ∷ words) e = absurd (true≢false (sym e))
as_many (range ∷ ranges) [] e = absurd (true≢false (sym e))
as_many (range ∷ ranges) (word ∷ words) e =
    ap (λ (n : ℕ). suc n) (as_many ranges words (and_split (is_within range word) (are_within ranges words) e).1)

-- a word between two numbers
number_between : (low high word : ℕ) → word < 2 ^ 64 → pos low ≤ℤ money_of word → money_of word ≤ℤ pos high → IsBetween low high word
number_between low high word small above under = (grind (arith, ints), grind (arith, ints))

pub between : (low high word : ℕ) → IsIn (pos low) (pos high) word → IsBetween low high word
between low high word is = number_between low high word is.small is.low is.high

-- past the columns stand zeros
zero_in : (word : ℕ) → IsIn (pos 0) (pos 0) word → word ≡ 0
zero_in word is = let most = (between 0 0 word is).1 in omega (arith, most)

zeros : (n : ℕ) (words : List ℕ) → are_within (replicate n (span 0 0)) words ≡ true → words ≡ replicate n 0
zeros zero [] e = refl
zeros zero (word ∷ words) e = absurd (true≢false (sym e))
zeros (suc n) [] e = absurd (true≢false (sym e))
zeros (suc n) (word ∷ words) e =
    let parts = and_split (is_within (span 0 0) word) (are_within (replicate n (span 0 0)) words) e in
    λ i. zero_in word (in_range (span 0 0) word parts.0) i ∷ zeros n words parts.1 i

-- the first so many words, one after another
abbrev pub listed : ℕ → (ℕ → ℕ) → List ℕ
listed zero word = []
listed (suc n) word = word 0 ∷ listed n (λ i. word (suc i))

pub padded : (columns : List _) (n : ℕ) (words : List ℕ) → are_within (columns ++ replicate n (span 0 0)) words ≡ true
    → words ≡ listed (length columns) (slice_index words) ++ replicate n 0
padded [] n words e = zeros n words e
padded (range ∷ columns) n [] e = absurd (true≢false (sym e))
padded (range ∷ columns) n (word ∷ words) e =
    ap (λ (l : List ℕ). word ∷ l) (padded columns n words (and_split (is_within range word) (are_within (columns ++ replicate n (span 0 0)) words) e).1)

-- money comes back from its word
pub back_in : {least most : ℤ} (word : ℕ) → IsIn least most word → money_word (money_of word) ≡ word
back_in word is = of_z-to_z w64 word is.small

-- a column that may be null
abbrev pub nullable : ℕ → Option ℕ
nullable zero = None
nullable (suc n) = Some (suc n)

pub null_back : (word : ℕ) → unwrap_or (nullable word) 0 ≡ word
null_back zero = refl
null_back (suc n) = refl

null_some : (high word : ℕ) → word ≤ high → ForSome (nullable word) (λ n. IsNumber high n)
null_some high zero h n e = absurd (none-some n e)
null_some high (suc word) h n e = subst (λ m. IsNumber high m) (same_Some (suc word) n e) (omega arith, h)

pub null_in : (high word : ℕ) → IsIn (pos 0) (pos high) word → ForSome (nullable word) (λ n. IsNumber high n)
null_in high word is = null_some high word (between 0 high word is).1

-- a flag
flag : (word : ℕ) → word ≤ 1 → cond (word == 1) 1 0 ≡ word
flag zero h = refl
flag (suc zero) h = refl
flag (suc (suc word)) h = absurd (omega (arith, h))

pub flag_back : (word : ℕ) → IsIn (pos 0) (pos 1) word → cond (word == 1) 1 0 ≡ word
flag_back word is = flag word (between 0 1 word is).1
