use Rattle.tests_sets.proofs.Putting.{below, still}
use Rattle.readset.proofs.NarrowOrWide.{narrow_kind}
use Rattle.tests_sets.proofs.write_tests.put.Goals as goal

pub put-requires : goal.put-requires
put-requires c = record { below = below c.args.cells.now c.args.writes.now c.requires.kinds c.args.number c.requires.narrow }

pub returns : goal.returns
returns c = still c.args.cells.now c.args.writes.now c.put.new.self c.args.number c.args.value c.put.result c.requires.kinds
    (narrow_kind c.args.cells.now c.args.number c.args.value c.requires.narrow c.put.ensures.narrow) c.put.ensures.puts c.put.ensures.kept
