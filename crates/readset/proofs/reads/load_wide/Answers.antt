use Rattle.std.proofs.Common.{◌∷◌}
use Rattle.cells.proofs.Grown.{reads_grown}
use Rattle.readset.proofs.reads.load_wide.Goals as goal

pub returns-clause-grown : goal.returns-clause-grown
returns-clause-grown g c = reads_grown c.args.reader.now c.read_wide.new.reader c.args.number (c.read_wide.result.word ∷ c.read_wide.result.payload) c.read_wide.ensures.reads
