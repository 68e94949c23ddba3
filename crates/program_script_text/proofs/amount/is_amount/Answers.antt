use Rattle.std.proofs.Common.{◌≢◌, ◌<◌, length, get_or, arith, rules}
use Rattle.program_script_text.proofs.Amounts.{behind_minus, negative_answer, no_negative, plain_answer}
use Rattle.std.proofs.lemmas.List.{get_or_past}
use Rattle.program_script_text.proofs.amount.is_amount.Goals as goal
use Rattle.program_script_text.proofs.amount.is_amount.Goals.{in_default-via-then-word-lt1, in_default-via-else-word-lt1+in_default-1}

pub returns-then-is_unsigned_amount : goal.returns-then-is_unsigned_amount
returns-then-is_unsigned_amount c =
    let minus = behind_minus c.args.word.now c.in-45.len_at_least (search rules) in
    negative_answer c.args.word.now _ c.as_slice.result.now c.ne.result minus c.if-is_unsigned_amount.ensures c.as_slice.ensures c.ne.ensures

pub returns-else-is_unsigned_amount : goal.returns-else-is_unsigned_amount
returns-else-is_unsigned_amount c =
    let minus = behind_minus c.args.word.now c.in-45.len_at_least (search rules) in
    rw c.if-is_unsigned_amount.false (no_negative c.args.word.now _ minus c.if-is_unsigned_amount.ensures)

pub returns-in_default : goal.returns-in_default
returns-in_default c =
    let plain : get_or c.args.word.now 0 0 ≢ 45 = λ e.
    elim c.in_default.branch [
      | in_default-via-then-word-lt1 w ↦ let short : length c.args.word.now < 1 = search rules in omega (arith, get_or_past c.args.word.now 0 0 (omega arith))
      | in_default-via-else-word-lt1+in_default-1 w ↦ let no : get_or c.args.word.now 0 0 ≢ 45 = search rules in no e
    ] in
    plain_answer c.args.word.now c.is_unsigned_amount-in_default.result plain c.is_unsigned_amount-in_default.ensures
