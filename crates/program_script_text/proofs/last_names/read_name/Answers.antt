use Rattle.std.proofs.Common.{◌≡◌, ◌/◌, ◌%◌, [], ◌++◌, length, ap, ◌∙◌, arith}
use Rattle.std.proofs.lemmas.Bool.Decides.{nat_tests}
use Rattle.program_script_text.specs.LastNames.{syllable}
use Rattle.program_script_text.proofs.Numerals.{length-zero}
use Rattle.program_script_text.proofs.LastNames.{name_parts, behind_hundreds, behind_tens, behind_ones, name_of_digits}
use Rattle.program_script_text.proofs.last_names.read_name.Goals as goal

pub returns-in_err-hundreds : goal.returns-in_err-hundreds
returns-in_err-hundreds c =
    rw c.from_residual.ensures (λ n small e. c.in_err-hundreds.ensures (n / 100) (omega arith) (syllable (n / 10 % 10) ++ syllable (n % 10)) (e ∙ name_parts n))

pub returns-in_err-tens : goal.returns-in_err-tens
returns-in_err-tens c =
    let first = c.in_ok-hundreds.ensures in
    rw c.from_residual-in_err-tens.ensures
    (λ n small e. c.in_err-tens.ensures (n / 10 % 10) (omega arith) (syllable (n % 10)) (behind_hundreds _ n c.args.word.now _ first.0 small first.1 e))

pub returns-in_err-ones : goal.returns-in_err-ones
returns-in_err-ones c =
    let first = c.in_ok-hundreds.ensures in
    let second = c.in_ok-tens.ensures in
    rw c.from_residual-in_err-ones.ensures
    (λ n small e. c.in_err-ones.ensures (n % 10) (omega arith) []
    (behind_tens _ n _ _ second.0 second.1 (behind_hundreds _ n c.args.word.now _ first.0 small first.1 e)))

pub returns-then-is_empty : goal.returns-then-is_empty
returns-then-is_empty c =
    let first = c.in_ok-hundreds.ensures in
    let second = c.in_ok-tens.ensures in
    let third = c.in_ok-ones.ensures in
    let none : length c.in_ok-ones.rest.now ≡ 0 = grind (arith, nat_tests, c.if-is_empty.ensures, c.if-is_empty.true) in (
      omega (arith, first.0, second.0, third.0),
      name_of_digits _ _ _ c.args.word.now _ _ _ first.0 second.0 third.0 first.1 second.1 third.1
          (length-zero _ none),
    )

pub returns-else-is_empty : goal.returns-else-is_empty
returns-else-is_empty c n small e =
    let first = c.in_ok-hundreds.ensures in
    let second = c.in_ok-tens.ensures in
    let third = c.in_ok-ones.ensures in
    let none = behind_ones _ n _ _ third.0 third.1 (behind_tens _ n _ _ second.0 second.1 (behind_hundreds _ n c.args.word.now _ first.0 small first.1 e)) in
    let empty : length c.in_ok-ones.rest.now ≡ 0 = ap length none in
    grind (arith, nat_tests, c.if-is_empty.ensures, c.if-is_empty.false, empty)
