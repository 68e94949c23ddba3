use Rattle.std.proofs.Common.{◌≡◌, ◌≢◌, ◌<◌, ◌≤◌, length, get_or, arith, rules}
use Rattle.std.proofs.lemmas.Bool.Decides.{nat_tests}
use Rattle.program_script_text.proofs.Numerals.{no_numeral, numeral_answer}
use Rattle.program_script_text.proofs.amount.is_numeral.Goals as goal
use Rattle.program_script_text.proofs.amount.is_numeral.Goals.{then-word-lt2, else-word-lt2+in_default-1}

pub returns-in-48 : goal.returns-in-48
returns-in-48 c = no_numeral c.args.word.now (λ _. (search rules, omega arith))

pub returns-else-not-is_empty : goal.returns-else-not-is_empty
returns-else-not-is_empty c =
    let empty : length c.args.word.now ≤ 0 = grind (arith, nat_tests, c.if-not-is_empty.ensures) in
    rw c.if-not-is_empty.false (no_numeral c.args.word.now (λ some. absurd (omega arith)))

pub returns-then-not-is_empty : goal.returns-then-not-is_empty
returns-then-not-is_empty c =
    let some : 0 < length c.args.word.now = grind (arith, nat_tests, c.if-not-is_empty.ensures) in
    let alone : get_or c.args.word.now 0 0 ≡ 48 → length c.args.word.now ≡ 1 = λ zero.
    elim c.if-word-lt2.branch [
      | then-word-lt2 w ↦ let short : length c.args.word.now < 2 = search rules in omega arith
      | else-word-lt2+in_default-1 w ↦ let no : get_or c.args.word.now 0 0 ≢ 48 = search rules in absurd (no zero)
    ] in
    numeral_answer c.args.word.now c.are_digits.result c.are_digits.ensures some alone
