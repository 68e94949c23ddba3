-- What locks make of TID words, and what a choice is above.
use Rattle.std.proofs.Common.{◌≡◌, ◌≢◌, ℕ, ◌+◌, ◌-◌, ◌%◌, ◌<◌, ◌≤◌, max, true, false, true≢false, sym, ◌∙◌, arith, eqb-true, eq-eqb}
use Rattle.tidword.specs.TidWord.{tid_of, is_locked}

odd : (n : ℕ) → is_locked n ≡ true → n % 2 ≡ 1
odd n h = eqb-true (n % 2) 1 h

pub even : (n : ℕ) → is_locked n ≡ false → n % 2 ≡ 0
even n h = let apart : n % 2 ≢ 1 = λ e. true≢false (sym (eq-eqb (n % 2) 1 e) ∙ h) in omega arith

pub locked_word : (n : ℕ) → is_locked n ≡ false → is_locked (n + 1) ≡ true
locked_word n h = let e : n % 2 ≡ 0 = even n h in eq-eqb ((n + 1) % 2) 1 (omega arith)

pub lock_keeps_tid : (n : ℕ) → is_locked n ≡ false → tid_of (n + 1) ≡ tid_of n
lock_keeps_tid n h = let e : n % 2 ≡ 0 = even n h in omega arith

pub unlock_keeps_tid : (n : ℕ) → is_locked n ≡ true → tid_of (n - 1) ≡ tid_of n
unlock_keeps_tid n h = let e : n % 2 ≡ 1 = odd n h in omega arith

-- a TID above the greatest of two, without status bits, is above what is below one of them
pub above_first : (n a b tid : ℕ) → n ≤ a → tid_of (max a b) < tid → tid % 8 ≡ 0 → n < tid
above_first n a b tid less above bits = omega arith

pub above_second : (n a b tid : ℕ) → n ≤ b → tid_of (max a b) < tid → tid % 8 ≡ 0 → n < tid
above_second n a b tid less above bits = omega arith
