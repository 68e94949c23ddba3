-- Tests of record numbers.
use Rattle.std.proofs.Common.{◌≡◌, ◌≢◌, ℕ, Bool, true, false, true≢false, refl, sym, ◌∙◌}
use Rattle.std.proofs.lemmas.Bool.{eqb-true, eq-eqb}
use Rattle.std.specs.Ordering.{nat_cmp, is_eq}
use Rattle.tables.proofs.KeyTests.{eqb-nat_cmp}

-- what the test says of the numbers
pub same_number : (n m : ℕ) → is_eq (nat_cmp n m) ≡ true → n ≡ m
same_number n m e = eqb-true n m (eqb-nat_cmp n m ∙ e)

pub other_number : (n m : ℕ) → is_eq (nat_cmp n m) ≡ false → n ≢ m
other_number n m f e = true≢false (sym (eq-eqb n m e) ∙ eqb-nat_cmp n m ∙ f)

-- what the numbers say of the test
pub same_test : (n m : ℕ) → n ≡ m → is_eq (nat_cmp n m) ≡ true
same_test n m e = sym (eqb-nat_cmp n m) ∙ eq-eqb n m e

pub other_test : (n m : ℕ) → n ≢ m → is_eq (nat_cmp n m) ≡ false
other_test n m never = go (is_eq (nat_cmp n m)) refl
  where
    go : (b : Bool) → is_eq (nat_cmp n m) ≡ b → b ≡ false
    go true e = absurd (never (same_number n m e))
    go false e = refl
