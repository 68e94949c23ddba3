use Rattle.std.proofs.Common.{Some}
use Rattle.tests_sets.proofs.Putting.{above, still}
use Rattle.readset.proofs.NarrowOrWide.{wide_kind}
use Rattle.tests_sets.proofs.write_tests.put_wide.Goals as goal

pub put_wide-requires : goal.put_wide-requires
put_wide-requires c = record { above = above c.args.cells.now c.args.writes.now c.requires.kinds c.args.number c.requires.wide }

pub returns : goal.returns
returns c = still c.args.cells.now c.args.writes.now c.put_wide.new.self c.args.number (Some c.args.words.now) c.put_wide.result c.requires.kinds
    (wide_kind c.args.cells.now c.args.number (Some c.args.words.now) c.requires.wide c.told-words) c.put_wide.ensures.puts c.put_wide.ensures.kept
