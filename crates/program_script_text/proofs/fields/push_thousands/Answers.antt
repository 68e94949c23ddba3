use Rattle.std.proofs.Common.{◌≡◌, ◌∙◌, ap, append_assoc, arith, refl, length}
use Rattle.program_script_text.proofs.DigitTable.{decimal_more}
use Rattle.program_script_text.proofs.fields.push_thousands.Goals as goal

pub returns : goal.returns
returns c =
    let n = c.args.number in
    let whole = decimal_more n c.requires.number.0 (omega arith) in
    let width : length c.three_digits.result.now ≡ 3 = ap length c.three_digits.ensures in record {
      text = c.push_text.ensures.text ∙ rw (c.push_short.ensures.text, c.three_digits.ensures, whole, append_assoc) refl;
      len = omega (arith, c.push_text.ensures.len, c.push_short.ensures.len, width);
      capacity = omega (arith, c.push_text.ensures.capacity, c.push_short.ensures.capacity);
    }
