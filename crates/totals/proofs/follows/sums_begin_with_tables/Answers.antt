use Rattle.totals.proofs.Begin.{sums_begin}
use Rattle.totals.proofs.follows.sums_begin_with_tables.Goals as goal

pub returns : goal.returns
returns c = λ t held v scale wf con latest opened. sums_begin t scale wf con held latest v opened
