use Rattle.std.proofs.Common.{arith, rules}
use Rattle.program_script_text.proofs.Amounts.{cents_from_bytes}
use Rattle.program_script_text.proofs.amount.are_cents.Goals as goal

pub returns-in-46 : goal.returns-in-46
returns-in-46 c = cents_from_bytes c.args.bytes.now (omega arith) (search rules) (search rules) (search rules)
