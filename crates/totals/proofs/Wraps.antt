-- Amounts that wrap.
use Rattle.std.proofs.Common.{◌≡◌, ◌<◌, ◌+◌, ◌-◌, ◌%◌, ◌^◌, ℤ, ◌+ℤ◌, ◌-ℤ◌, neg_ℤ, ℕ, List, length, to_z, of_z, sym, ap, ◌∙◌, arith}
use Rattle.std.proofs.lemmas.Int.{ints, wrapping_add_is, wrapping_sub_onto, int_wrap-add_left, to_z-of_z}
use Rattle.std.proofs.lemmas.List.{length-set, with_items_is}
use Rattle.std.proofs.lemmas.Nat.{mod_below}
use Rattle.std.specs.Prelude.{Vec}
use Rattle.std.specs.Vec.{with_items}
use mir.Val.{bits}
use Rattle.std.specs.Int.{Width, int_wrap, cast_signed, cast_unsigned}
use Rattle.std.specs.Int.RustNames.{FitsSigned}
use Rattle.totals.specs.Steps.{moved_at}

-- to add one amount and to take another away, as the bits go
pub wrapped : (w : Width) (a new old : ℤ) → FitsSigned w a → FitsSigned w new → FitsSigned w old → 0 < 2 ^ bits w
    → cast_signed w (((cast_unsigned w a + cast_unsigned w new) % 2 ^ bits w + (2 ^ bits w - cast_unsigned w old)) % 2 ^ bits w)
    ≡ int_wrap w (a +ℤ (new -ℤ old))
wrapped w a new old f g h some =
    wrapping_sub_onto w ((cast_unsigned w a + cast_unsigned w new) % 2 ^ bits w) old (mod_below (cast_unsigned w a + cast_unsigned w new) (2 ^ bits w) some) h
    ∙ ap (λ r. int_wrap w (r -ℤ old)) (wrapping_add_is w a new f g)
    ∙ ap (int_wrap w) (less (int_wrap w (a +ℤ new)) old)
    ∙ int_wrap-add_left w (a +ℤ new) (neg_ℤ old)
    ∙ ap (int_wrap w) (regrouped a new old)
  where
    less : (x y : ℤ) → x -ℤ y ≡ x +ℤ neg_ℤ y
    less x y = omega (arith, ints)

    regrouped : (x y z : ℤ) → (x +ℤ y) +ℤ neg_ℤ z ≡ x +ℤ (y -ℤ z)
    regrouped x y z = omega (arith, ints)

-- what a move of an amount comes to, its arguments as they are passed
pub moved_by : (w : Width) (xs before now : List ℤ) (p q : ℕ) (a b x y : ℤ) → FitsSigned w a → FitsSigned w b
    → now ≡ moved_at w before p (to_z w (of_z w a) -ℤ to_z w (of_z w b)) → before ≡ xs → p ≡ q → a ≡ x → b ≡ y
    → now ≡ moved_at w xs q (x -ℤ y)
moved_by w xs before now p q a b x y f g moves same place new old =
    moves ∙ (λ i. moved_at w (same i) (place i) (to_z-of_z w a f i -ℤ to_z-of_z w b g i)) ∙ (λ i. moved_at w xs q (new i -ℤ old i))

-- and what its vector then has
pub stored : {Z : Type 0} (w : Width) (v : Vec ℤ Z) (now : List ℤ) (p : ℕ) (z : ℤ) → now ≡ moved_at w v.items p z
    → (with_items v now).items ≡ moved_at w v.items p z
stored w v now p z moves = with_items_is v now (ap length moves ∙ length-set v.items p _ ∙ sym v.ok.0) ∙ moves
