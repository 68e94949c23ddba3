-- The digits so far stand for `number`; a word that is none lacks what each number's text has.
use Rattle.std.proofs.Common.{arith, ◌≡◌, ◌<◌, ◌^◌, length, take, get_or}
use Rattle.std.proofs.Math.Seq.{take-length}
use Rattle.std.specs.Int.{IsInRange}
use Rattle.std.specs.Str.Parse.{digits_value}
use Rattle.program_script_text.proofs.Numbers.{decimal_shape, decimal_digit_at, prefix_below, digits_are_decimal, one_more_digit}
use Rattle.program_script_text.proofs.words.read_digits.Goals as goal
use Rattle.program_script_text.proofs.words.read_digits.Goals.{then-is_empty-via-then-is_empty, then-is_empty-via-else-is_empty+then-word-gt-MAX_DIGITS}
use Rattle.program_script_text.proofs.words.read_digits.Goals.{then-is_empty-via-else-is_empty+else-word-gt-MAX_DIGITS+then-word-gt1, then-word-eq48, else-word-eq48}

pub returns-then-is_empty-clause-none : goal.returns-then-is_empty-clause-none
returns-then-is_empty-clause-none c = λ n small e.
    let shape = decimal_shape c.args.word.now n small e in
    elim c.then-is_empty.branch [
      | then-is_empty-via-then-is_empty w ↦ grind arith
      | then-is_empty-via-else-is_empty+then-word-gt-MAX_DIGITS w ↦ omega arith
      | then-is_empty-via-else-is_empty+else-word-gt-MAX_DIGITS+then-word-gt1 w ↦ elim w.if-word-eq48.branch [
        | then-word-eq48 w' ↦ grind arith
        | else-word-eq48 w' ↦ grind arith
      ]
    ]

pub returns-then-not-is_ascii_digit-clause-none : goal.returns-then-not-is_ascii_digit-clause-none
returns-then-not-is_ascii_digit-clause-none c = λ n small e.
    let digit = decimal_digit_at c.args.word.now n c.loop-digit.digit-index small e c.loop-digit-test.true in
    grind (arith, digit, c.is_ascii_digit.ensures.value)

pub overflow_mul-number : goal.overflow_mul-number
overflow_mul-number c =
    let below : digits_value 10 (take c.loop-digit.digit-index c.args.word.now) < 10 ^ 9 =
    prefix_below _ c.loop-digit.digit-index 9 (omega arith) c.loop-digit.invariant.are_digits in
    omega arith

pub overflow_add-number : goal.overflow_add-number
overflow_add-number c =
    let below : digits_value 10 (take c.loop-digit.digit-index c.args.word.now) < 10 ^ 9 =
    prefix_below _ c.loop-digit.digit-index 9 (omega arith) c.loop-digit.invariant.are_digits in
    omega (arith, c.from.ensures)

pub loop-digit-preserved : goal.loop-digit-preserved
loop-digit-preserved c =
    let range : IsInRange 48 57 (get_or c.args.word.now c.loop-digit.digit-index 0) = grind (arith, c.is_ascii_digit.ensures.value) in
    let more = one_more_digit c.args.word.now c.loop-digit.digit-index c.loop-digit-test.true c.loop-digit.invariant.are_digits range in
    record { are_digits = more.0; value = omega (arith, more.1, c.from.ensures, c.loop-digit.invariant.value) }

pub returns-clause-some : goal.returns-clause-some
returns-clause-some c =
    let end : c.loop-digit.digit-index ≡ length c.args.word.now = omega arith in
    let whole : take c.loop-digit.digit-index c.args.word.now ≡ c.args.word.now = rw end (take-length c.args.word.now) in
    let digits = rw whole at c.loop-digit.invariant.are_digits in
    let value = rw whole at c.loop-digit.invariant.value in
    let some : 0 < length c.args.word.now = grind arith in
    let plain : get_or c.args.word.now 0 0 ≡ 48 → length c.args.word.now ≡ 1 = λ zero. grind arith in
    rw value (digits_are_decimal c.args.word.now digits some (omega arith) plain)
