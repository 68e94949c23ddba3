-- The digits so far stand for `number`; a text that is refused lacks what each decimal text has.
use Rattle.std.proofs.Common.{arith, ◌≡◌, ◌<◌, ◌^◌, length, take, get_or}
use Rattle.std.proofs.Math.Seq.{take-length}
use Rattle.std.specs.Int.{IsInRange}
use Rattle.std.specs.Str.Parse.{digits_value}
use Rattle.money.proofs.MoneyText.{decimal_shape, decimal_digit_at, prefix_below, digits_are_decimal, one_more_digit}
use Rattle.money.proofs.text.read_decimal.Goals as goal
use Rattle.money.proofs.text.read_decimal.Goals.{then-is_empty-via-then-is_empty, then-is_empty-via-else-is_empty+then-digits-gt-MAX_DIGITS}
use Rattle.money.proofs.text.read_decimal.Goals.{then-is_empty-via-else-is_empty+else-digits-gt-MAX_DIGITS+then-digits-gt1, then-digits-eq48, else-digits-eq48}

pub returns-then-is_empty-clause-none : goal.returns-then-is_empty-clause-none
returns-then-is_empty-clause-none c = λ n small e.
    let shape = decimal_shape c.args.digits.now n small e in
    elim c.then-is_empty.branch [
      | then-is_empty-via-then-is_empty w ↦ grind arith
      | then-is_empty-via-else-is_empty+then-digits-gt-MAX_DIGITS w ↦ omega arith
      | then-is_empty-via-else-is_empty+else-digits-gt-MAX_DIGITS+then-digits-gt1 w ↦ elim w.if-digits-eq48.branch [
        | then-digits-eq48 w' ↦ grind arith
        | else-digits-eq48 w' ↦ grind arith
      ]
    ]

pub returns-then-not-is_ascii_digit-clause-none : goal.returns-then-not-is_ascii_digit-clause-none
returns-then-not-is_ascii_digit-clause-none c = λ n small e.
    let digit = decimal_digit_at c.args.digits.now n c.loop-digit.digit-index small e c.loop-digit-test.true in
    grind (arith, digit, c.is_ascii_digit.ensures.value)

pub overflow_mul-number : goal.overflow_mul-number
overflow_mul-number c =
    let below : digits_value 10 (take c.loop-digit.digit-index c.args.digits.now) < 10 ^ 11 =
    prefix_below _ c.loop-digit.digit-index 11 (omega arith) c.loop-digit.invariant.are_digits in
    omega arith

pub overflow_add-number : goal.overflow_add-number
overflow_add-number c =
    let below : digits_value 10 (take c.loop-digit.digit-index c.args.digits.now) < 10 ^ 11 =
    prefix_below _ c.loop-digit.digit-index 11 (omega arith) c.loop-digit.invariant.are_digits in
    omega (arith, c.from.ensures)

pub loop-digit-preserved : goal.loop-digit-preserved
loop-digit-preserved c =
    let range : IsInRange 48 57 (get_or c.args.digits.now c.loop-digit.digit-index 0) = grind (arith, c.is_ascii_digit.ensures.value) in
    let more = one_more_digit c.args.digits.now c.loop-digit.digit-index c.loop-digit-test.true c.loop-digit.invariant.are_digits range in
    record { are_digits = more.0; value = omega (arith, more.1, c.from.ensures, c.loop-digit.invariant.value) }

pub returns-clause-some : goal.returns-clause-some
returns-clause-some c =
    let end : c.loop-digit.digit-index ≡ length c.args.digits.now = omega arith in
    let whole : take c.loop-digit.digit-index c.args.digits.now ≡ c.args.digits.now = rw end (take-length c.args.digits.now) in
    let digits = rw whole at c.loop-digit.invariant.are_digits in
    let value = rw whole at c.loop-digit.invariant.value in
    let some : 0 < length c.args.digits.now = grind arith in
    let plain : get_or c.args.digits.now 0 0 ≡ 48 → length c.args.digits.now ≡ 1 = λ zero. grind arith in
    rw value (digits_are_decimal c.args.digits.now digits some (omega arith) plain)
