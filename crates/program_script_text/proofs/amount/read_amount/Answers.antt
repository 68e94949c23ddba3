use Rattle.std.proofs.Common.{inl, inr, sym, ◌∙◌, refl}
use Rattle.program_script_text.proofs.Amounts.{utf8_amount, amount_is_money}
use Rattle.program_script_text.proofs.amount.read_amount.Goals as goal

pub returns-in_default : goal.returns-in_default
returns-in_default c = inr (refl, λ z e. c.in_default.ensures.cases.0 (utf8_amount c.args.word.now z e))

pub returns-in-Ok-read : goal.returns-in-Ok-read
returns-in-Ok-read c =
    let read = c.in-Ok-read.ensures.ok in
    (sym c.in-Ok.ensures.cases.0 ∙ read.0 ∙ sym (amount_is_money c.in-Ok-read.amount read.1), read.1)

pub returns-in-Err : goal.returns-in-Err
returns-in-Err c =
    let amount = c.if-is_amount.ensures in
    let text = c.in-Ok.ensures.cases.0 in
    inl (refl, (amount.0, amount.1, λ small. c.in-Err.ensures.no_money amount.0 (text ∙ amount.1 ∙ amount_is_money amount.0 small, small)))
