use Rattle.std.proofs.Common.{◌≡◌, ◌+◌, ◌-◌, length, refl, ap, ◌∙◌, arith}
use Rattle.byteorder.specs.Endian.{little_bytes}
use Rattle.customer_data.specs.Words.{words_in}
use Rattle.customer_data.proofs.Laid.{laid}
use Rattle.customer_data.proofs.words.words_of.Goals as goal

pub returns : goal.returns
returns c =
    let text = c.args.text.now in
    let n = length text in
    let long : 2 + n - 2 ≡ n = omega arith in
    let whole = laid 504 2 n (little_bytes 2 n) text refl in
    c.words_at.ensures ∙ ap (words_in 63) (rw (c.write_u16.ensures, c.copy_from_slice.ensures.after, long) whole)
