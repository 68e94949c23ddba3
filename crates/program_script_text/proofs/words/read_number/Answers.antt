use Rattle.std.proofs.Common.{◌≡◌, ◌+◌, length, get_or, arith}
use Rattle.program_script_text.proofs.Numbers.{one_digit}
use Rattle.program_script_text.proofs.words.read_number.Goals as goal

pub returns-in-48-to-57 : goal.returns-in-48-to-57
returns-in-48-to-57 c =
    let bytes = c.args.word.now in
    let digit = c.from.result in
    let one : length bytes ≡ 1 = omega arith in
    let is : get_or bytes 0 0 ≡ 48 + digit = grind arith in
    one_digit bytes digit one is (grind arith)
