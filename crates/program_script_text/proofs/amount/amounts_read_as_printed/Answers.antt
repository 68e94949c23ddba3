use Rattle.program_script_text.proofs.Amounts.{amount_is_money}
use Rattle.program_script_text.proofs.amount.amounts_read_as_printed.Goals as goal

pub returns : goal.returns
returns c = amount_is_money
