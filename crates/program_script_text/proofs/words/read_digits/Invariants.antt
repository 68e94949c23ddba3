use Rattle.std.proofs.Common.{◌≡◌, take}
use Rattle.std.specs.Str.Parse.{AllDigits, digits_value}
use Rattle.program_script_text.proofs.words.read_digits.Given as goal

-- the bytes so far are digits, and `number` is what they stand for
abbrev pub invariant-loop-digit : goal.invariant-loop-digit
invariant-loop-digit l = record {
  are_digits : AllDigits 10 (take l.digit-index l.word);
  value : l.number ≡ digits_value 10 (take l.digit-index l.word);
}
