use Rattle.std.proofs.Common.{◌+◌, length, subst}
use Rattle.cells.specs.Records.{PenView, both_pens, StoresVersion}
use Rattle.cells.proofs.Halves.{stores_wide}
use Rattle.cells.proofs.both.Pen.store_wide.Goals as goal

pub returns : goal.returns
returns c =
    subst (λ (w : PenView). StoresVersion w (both_pens c.self.inside.narrow c.store.new.self) (length w.cells.narrow + c.args.place) c.args.version)
    c.self.view_is
    (stores_wide c.self.inside.narrow c.self.inside.wide c.knows_its_cells.ensures c.store.new.self c.args.place c.args.version c.store.ensures)
