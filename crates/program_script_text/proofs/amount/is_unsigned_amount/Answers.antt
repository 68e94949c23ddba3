use Rattle.std.proofs.Common.{arith}
use Rattle.program_script_text.proofs.Amounts.{unsigned_answer}
use Rattle.program_script_text.proofs.amount.is_unsigned_amount.Goals as goal

pub returns-then-is_numeral : goal.returns-then-is_numeral
returns-then-is_numeral c =
    unsigned_answer c.args.word.now c.split_at.result.0.now c.split_at.result.1.now c.are_cents.result (omega arith)
    c.split_at.ensures.front c.split_at.ensures.back c.if-is_numeral.ensures c.are_cents.ensures
