use Rattle.std.proofs.Common.{◌+◌, length, subst}
use Rattle.cells.specs.Records.{ReaderView, both_readers, LoadsRecord}
use Rattle.cells.proofs.Halves.{loads_wide}
use Rattle.cells.proofs.both.Reader.read_wide.Goals as goal

pub returns : goal.returns
returns g c =
    subst (λ (r : ReaderView). LoadsRecord r (both_readers c.self.inside.narrow c.read.new.self) (length r.cells.narrow + c.args.place) c.read.result)
    c.self.view_is
    (loads_wide c.self.inside.narrow c.self.inside.wide c.knows_its_cells.ensures.seen c.knows_its_cells.ensures.loads c.read.new.self c.args.place c.read.result
    c.read.ensures)
