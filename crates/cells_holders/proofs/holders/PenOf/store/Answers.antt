use Rattle.std.proofs.Common.{ℕ, List, ◌<◌, ◌/◌, rules, sym, ap, ◌∙◌, subst, set}
use Rattle.std.specs.Prelude.{slice_get}
use Rattle.cells_pages.specs.Versions.{last_tid, tid}
use Rattle.cells_holders.specs.Records.{PagesPen, StoresVersion, at}
use Rattle.cells_holders.specs.Pages.{written_of}
use Rattle.cells_holders.proofs.Stepping.{pen_seat, pen_is_of, pen_knows_seat, pen_versions, stored_seats, stores_version}
use Rattle.cells_holders.proofs.holders.PenOf.store.Goals as goal

pub index_mut-seat-requires : goal.index_mut-seat-requires
index_mut-seat-requires g c =
    let has = ap (λ (w : PagesPen). slice_get w.cells c.args.number) c.self.view_is ∙ c.requires.own in
    let seats = c.self.inside.seats in
    subst (λ k. c.args.number / 4096 < k) (sym seats.ok.0) (pen_seat g.row.N c.requires.size seats.items c.self.invariant c.args.number _ has)

pub store-requires : goal.store-requires
store-requires g c =
    let has = ap (λ (w : PagesPen). slice_get w.cells c.args.number) c.self.view_is ∙ c.requires.own in
    let seats = c.self.inside.seats.items in
    let is = c.index_mut-seat.ensures.value in
    let all = ap (λ (w : PagesPen). at w.all c.args.number) (sym c.self.view_is)
    ∙ pen_versions g.row.N c.requires.size seats c.self.invariant c.args.number _ has _ is in (
      search rules,
      (
        search rules,
        (
          pen_is_of g.row.N c.requires.size seats c.self.invariant c.args.number _ has _ is,
          (
            pen_knows_seat g.row.N c.requires.size seats c.self.invariant c.args.number _ has _ is,
            subst (λ (vs : List (List ℕ)). last_tid vs < tid c.args.version) all c.requires.larger,
          ),
        ),
      ),
    )

pub invariant_of-self : goal.invariant_of-self
invariant_of-self g c =
    let has = ap (λ (w : PagesPen). slice_get w.cells c.args.number) c.self.view_is ∙ c.requires.own in
    stored_seats g.row.N c.requires.size c.self.inside.seats.items c.self.invariant c.args.number _ has _ c.index_mut-seat.ensures.value _ c.store.ensures.own
    c.args.version c.store.ensures.stored

pub returns : goal.returns
returns g c =
    let has = ap (λ (w : PagesPen). slice_get w.cells c.args.number) c.self.view_is ∙ c.requires.own in
    let seats = c.self.inside.seats.items in
    subst (λ (w : PagesPen). StoresVersion w (written_of g.row.N (set seats (c.args.number / 4096) c.store.new.pen)) c.args.number c.args.version) c.self.view_is
    (stores_version g.row.N c.requires.size seats c.self.invariant c.args.number _ has _ c.index_mut-seat.ensures.value _ c.store.ensures.own
    c.args.version c.store.ensures.stored)
