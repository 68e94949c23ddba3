use Rattle.std.proofs.Common.{length, sym, ap, ◌∙◌}
use Rattle.cells_holders.specs.Records.{PagesReader}
use Rattle.cells_holders.proofs.Stepping.{reader_count, reader_loads_count}
use Rattle.cells_holders.proofs.holders.ReaderOf.knows_its_cells.Goals as goal

pub returns-clause-seen : goal.returns-clause-seen
returns-clause-seen g c =
    ap (λ (r : PagesReader). length r.seen) (sym c.self.view_is)
    ∙ reader_count g.row.N c.requires.size c.self.inside.seats.items c.self.invariant
    ∙ ap (λ (r : PagesReader). length r.cells) c.self.view_is

pub returns-clause-loads : goal.returns-clause-loads
returns-clause-loads g c =
    ap (λ (r : PagesReader). length r.loads) (sym c.self.view_is)
    ∙ reader_loads_count g.row.N c.requires.size c.self.inside.seats.items c.self.invariant
    ∙ ap (λ (r : PagesReader). length r.cells) c.self.view_is
