use Rattle.std.proofs.Common.{arith}
use Rattle.std.proofs.lemmas.Grind.{common_steps}
use Rattle.log_scan.proofs.reading.read_more.Goals as goal

pub returns-clause-more : goal.returns-clause-more
returns-clause-more g c = (c.read_at.new.into, grind (arith, common_steps), grind (arith, common_steps), λ modelled. grind (arith, common_steps, c.in_ok-read_at.ensures.bytes modelled))
