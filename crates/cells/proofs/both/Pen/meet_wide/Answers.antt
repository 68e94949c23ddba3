use Rattle.std.proofs.Common.{◌+◌, length, sym, ap, ◌∙◌, subst}
use Rattle.cells.specs.Records.{CellsView, PenView, ReaderView, both_readers, LearnsRecord}
use Rattle.cells.proofs.Halves.{learns_wide}
use Rattle.cells.proofs.both.Pen.meet_wide.Goals as goal

pub returns-clause-reader : goal.returns-clause-reader
returns-clause-reader c =
    let pen = c.self.inside.narrow in
    let reader = c.reader.inside in
    let same = ap (λ (r : ReaderView). length r.cells.narrow) c.reader.view_is ∙ ap (λ (cells : CellsView). length cells.narrow) c.requires.reader
    ∙ ap (λ (w : PenView). length w.cells.narrow) (sym c.self.view_is) in
    subst (λ (x : PenView × ReaderView). LearnsRecord x.0 x.1 (both_readers reader.narrow c.meet.new.reader) (length x.0.cells.narrow + c.args.place))
    (λ i. (c.self.view_is i, c.reader.view_is i))
    (learns_wide reader.narrow reader.wide c.knows_its_cells-2.ensures.seen c.knows_its_cells-2.ensures.loads pen c.self.inside.wide
    c.knows_its_cells.ensures same c.meet.new.reader c.args.place c.meet.ensures.reader)
