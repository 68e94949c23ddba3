use Rattle.std.proofs.Common.{length, sym, ap, ◌∙◌}
use Rattle.cells_holders.specs.Records.{PagesPen}
use Rattle.cells_holders.proofs.Stepping.{pen_count}
use Rattle.cells_holders.proofs.holders.PenOf.knows_its_cells.Goals as goal

pub returns : goal.returns
returns g c =
    ap (λ (w : PagesPen). length w.all) (sym c.self.view_is)
    ∙ pen_count g.row.N c.requires.size c.self.inside.seats.items c.self.invariant
    ∙ ap (λ (w : PagesPen). length w.cells) c.self.view_is
