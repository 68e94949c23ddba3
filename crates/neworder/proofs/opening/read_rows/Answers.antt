use Rattle.std.proofs.Common.{arith}
use Rattle.readset.proofs.UnderWay.{reads_twice}
use Rattle.neworder.proofs.opening.read_rows.Goals as goal

pub returns-in_err-read-2-clause-reads : goal.returns-in_err-read-2-clause-reads
returns-in_err-read-2-clause-reads g c = reads_twice c.args.transaction.now c.read.new.self c.read-2.new.self 1 1 2 c.read.ensures.reads c.read-2.ensures.reads
    (omega arith)

pub returns-clause-reads : goal.returns-clause-reads
returns-clause-reads g c = reads_twice c.args.transaction.now c.read.new.self c.read-2.new.self 1 1 2 c.read.ensures.reads c.read-2.ensures.reads (omega arith)
