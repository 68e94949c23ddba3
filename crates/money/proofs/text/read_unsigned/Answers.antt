-- The units and the two digits make the number; a text that is refused lacks one of its parts.
use Rattle.std.proofs.Common.{arith, ◌≡◌, ◌<◌, ◌+◌, ◌*◌, get_or, sym, ◌∙◌}
use Rattle.std.specs.Int.{IsInRange}
use Rattle.money.proofs.MoneyText.{unsigned_money_text-injective}
use Rattle.money.proofs.MoneyReading.{split_text, join_text}
use Rattle.money.proofs.text.read_unsigned.Goals as goal

pub returns-in_err-cents-clause-none : goal.returns-in_err-cents-clause-none
returns-in_err-cents-clause-none c =
    rw c.from_residual.ensures (λ n small e. c.in_err-cents.ensures.none _ (omega arith) (c.split_at.ensures.front ∙ (split_text c.args.text.now n e).0))

pub returns-then-cents-le-LIMIT-clause-some : goal.returns-then-cents-le-LIMIT-clause-some
returns-then-cents-le-LIMIT-clause-some c =
    let tens : IsInRange 48 57 (get_or c.split_at.result.1.now 1 0) = grind (arith, c.is_ascii_digit.ensures.value) in
    let ones : IsInRange 48 57 (get_or c.split_at.result.1.now 2 0) = grind (arith, c.is_ascii_digit-else-not-is_ascii_digit.ensures.value) in (
      join_text c.args.text.now c.split_at.result.0.now c.split_at.result.1.now c.in_ok-cents.field-0 c.from.result c.from-2.result
          c.if-text-lt3.false c.split_at.ensures.front c.split_at.ensures.back c.in_ok-cents.ensures.some.0 c.if-rest-ne46.false
          tens ones c.from.ensures c.from-2.ensures,
      c.if-cents-le-LIMIT.true,
    )

pub returns-else-cents-le-LIMIT-clause-none : goal.returns-else-cents-le-LIMIT-clause-none
returns-else-cents-le-LIMIT-clause-none c = λ n small e.
    let tens : IsInRange 48 57 (get_or c.split_at.result.1.now 1 0) = grind (arith, c.is_ascii_digit.ensures.value) in
    let ones : IsInRange 48 57 (get_or c.split_at.result.1.now 2 0) = grind (arith, c.is_ascii_digit-else-not-is_ascii_digit.ensures.value) in
    let text = join_text c.args.text.now c.split_at.result.0.now c.split_at.result.1.now c.in_ok-cents.field-0 c.from.result c.from-2.result
    c.if-text-lt3.false c.split_at.ensures.front c.split_at.ensures.back c.in_ok-cents.ensures.some.0 c.if-rest-ne46.false
    tens ones c.from.ensures c.from-2.ensures in
    let below : c.in_ok-cents.field-0 < 1000000000000 = c.in_ok-cents.ensures.some.1 in
    let same : n ≡ c.in_ok-cents.field-0 * 100 + (c.from.result * 10 + c.from-2.result) =
    unsigned_money_text-injective n _ (omega arith) (omega arith) (sym e ∙ text) in
    omega arith
