use Rattle.std.proofs.Common.{arith}
use Rattle.conditions_walks.proofs.Added.{within_weaker}
use Rattle.conditions.proofs.amounts.add_row.Goals as goal

pub returns-in_default-clause-within : goal.returns-in_default-clause-within
returns-in_default-clause-within g c = λ n before. within_weaker g.S.Group.Ord.cmp c.args.sums.now n _ (omega arith) before
