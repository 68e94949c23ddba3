use Rattle.std.proofs.Common.{◌≡◌, sym, arith, ◌∙◌}
use Rattle.std.proofs.lemmas.Fmt.{decimal_injective}
use Rattle.program_script_text.proofs.words.read_longer.Goals as goal

pub returns-else-number-from : goal.returns-else-number-from
returns-else-number-from c = λ n small is.
    let read = c.in_ok-number.ensures.some in
    let same : n ≡ c.in_ok-number.number =
    decimal_injective n c.in_ok-number.number (omega arith) (omega (arith, read.1)) (sym is ∙ read.0) in
    omega (arith, same, c.from.ensures, c.if-number-from.false)
