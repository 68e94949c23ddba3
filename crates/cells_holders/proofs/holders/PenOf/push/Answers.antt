use Rattle.std.proofs.Common.{◌%◌, length, sym, ap, ◌∙◌, subst}
use Rattle.std.proofs.lemmas.List.Elements.{All-push}
use Rattle.cells_holders.specs.Records.{PagesPen}
use Rattle.cells_pages.specs.Seats.{PageSeat}
use Rattle.cells_holders.specs.Pages.{IsPenSeat, ArePenSeats}
use Rattle.cells_holders.proofs.Paged.{pages_push}
use Rattle.cells_holders.proofs.holders.PenOf.push.Goals as goal

pub invariant_of-self-2 : goal.invariant_of-self-2
invariant_of-self-2 g c =
    let seats = c.self.inside.seats.items in
    let full = ap (λ (v : PagesPen). length v.cells % 4096) c.self.view_is ∙ c.requires.next.0 in
    subst (ArePenSeats g.row.N) (sym c.in_ok-push.ensures.items) (
      All-push (IsPenSeat g.row.N) seats c.args.seat c.self.invariant.0 c.requires.seat,
      pages_push (λ (s : PageSeat). s.table_id) g.row.N seats c.args.seat c.self.invariant.1 full c.requires.next.1,
    )
