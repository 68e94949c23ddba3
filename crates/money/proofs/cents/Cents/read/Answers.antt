-- After a minus stands zero, or no text of a number at all.
use Rattle.std.proofs.Common.{rules, arith, ◌≡◌, get_or, ap, Ok}
use Rattle.std.proofs.lemmas.Grind.{common_steps}
use Rattle.money.specs.Money.{IsMoneyText}
use Rattle.money.proofs.MoneyReading.{after_minus, no_money_below, no_negative_zero, one_value}
use Rattle.money.proofs.cents.Cents.read.Goals as goal
use Rattle.money.proofs.cents.Cents.read.Goals.{in_default-via-in-Some+else-cents-gt0, in_default-via-in_default}

pub returns-in_default-clause-no_money : goal.returns-in_default-clause-no_money
returns-in_default-clause-no_money c =
    let minus : get_or c.args.text.now 0 0 ≡ 45 = search rules in
    let bytes = c.as_bytes-bytes.ensures.value in
    let text = after_minus c.args.text.now minus in
    elim c.in_default.branch [
      | in_default-via-in-Some+else-cents-gt0 w ↦
          let zero : w.in-Some.cents ≡ 0 = omega arith in
          let rest = rw (bytes, zero) at w.in-Some.ensures.some.0 in
          no_negative_zero c.args.text.now _ text rest
      | in_default-via-in_default w ↦
          let none = rw bytes at w.in_default.ensures.none in
          no_money_below c.args.text.now _ text none
    ]

-- the text has no other value than the one that is read
pub returns-in-Some-clause-inverse : goal.returns-in-Some-clause-inverse
returns-in-Some-clause-inverse c =
    let read : IsMoneyText c.args.text.now c.new.result = grind (arith, common_steps) in
    λ z text. ap Ok (one_value c.args.text.now c.new.result z read text)

pub returns-in_default-clause-inverse : goal.returns-in_default-clause-inverse
returns-in_default-clause-inverse c = λ z text. absurd (returns-in_default-clause-no_money c z text)

pub returns-in-Some-read_unsigned-clause-inverse : goal.returns-in-Some-read_unsigned-clause-inverse
returns-in-Some-read_unsigned-clause-inverse c =
    let read : IsMoneyText c.args.text.now c.new-in-Some-read_unsigned.result = grind (arith, common_steps) in
    λ z text. ap Ok (one_value c.args.text.now c.new-in-Some-read_unsigned.result z read text)
