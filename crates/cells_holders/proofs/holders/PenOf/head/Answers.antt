use Rattle.std.proofs.Common.{ℕ, List, ◌<◌, ◌/◌, length, rules, sym, ap, ◌∙◌, subst}
use Rattle.std.specs.Prelude.{slice_get}
use Rattle.cells_pages.specs.Versions.{newest, word_in}
use Rattle.cells_holders.specs.Records.{PagesPen, at}
use Rattle.cells_holders.proofs.Stepping.{pen_seat, pen_is_of, pen_knows_seat, pen_versions, kept_seats, kept_view}
use Rattle.cells_holders.proofs.holders.PenOf.head.Goals as goal

pub index_mut-seat-requires : goal.index_mut-seat-requires
index_mut-seat-requires g c =
    let has = ap (λ (w : PagesPen). slice_get w.cells c.args.number) c.self.view_is ∙ c.requires.own in
    let seats = c.self.inside.seats in
    subst (λ k. c.args.number / 4096 < k) (sym seats.ok.0) (pen_seat g.row.N c.requires.size seats.items c.self.invariant c.args.number _ has)

pub head-requires : goal.head-requires
head-requires g c =
    let has = ap (λ (w : PagesPen). slice_get w.cells c.args.number) c.self.view_is ∙ c.requires.own in
    let seats = c.self.inside.seats.items in
    let is = c.index_mut-seat.ensures.value in (
      search rules,
      (
        pen_is_of g.row.N c.requires.size seats c.self.invariant c.args.number _ has _ is,
        pen_knows_seat g.row.N c.requires.size seats c.self.invariant c.args.number _ has _ is,
      ),
    )

pub invariant_of-self : goal.invariant_of-self
invariant_of-self g c =
    let has = ap (λ (w : PagesPen). slice_get w.cells c.args.number) c.self.view_is ∙ c.requires.own in
    kept_seats g.row.N c.requires.size c.self.inside.seats.items c.self.invariant c.args.number _ has _ c.index_mut-seat.ensures.value _ c.head.ensures.own
    c.head.ensures.same

pub returns-clause-same : goal.returns-clause-same
returns-clause-same g c =
    let has = ap (λ (w : PagesPen). slice_get w.cells c.args.number) c.self.view_is ∙ c.requires.own in
    kept_view g.row.N c.requires.size c.self.inside.seats.items c.self.invariant c.args.number _ has _ c.index_mut-seat.ensures.value _ c.head.ensures.own
    c.head.ensures.same
    ∙ c.self.view_is

pub returns-clause-wide : goal.returns-clause-wide
returns-clause-wide g c =
    let has = ap (λ (w : PagesPen). slice_get w.cells c.args.number) c.self.view_is ∙ c.requires.own in
    let all = sym (pen_versions g.row.N c.requires.size c.self.inside.seats.items c.self.invariant c.args.number _ has _ c.index_mut-seat.ensures.value)
    ∙ ap (λ (w : PagesPen). at w.all c.args.number) c.self.view_is in
    ap (λ (vs : List (List ℕ)). length (newest vs)) (sym all) ∙ c.head.ensures.sound.wide

pub returns-clause-head : goal.returns-clause-head
returns-clause-head g c =
    let has = ap (λ (w : PagesPen). slice_get w.cells c.args.number) c.self.view_is ∙ c.requires.own in
    let all = sym (pen_versions g.row.N c.requires.size c.self.inside.seats.items c.self.invariant c.args.number _ has _ c.index_mut-seat.ensures.value)
    ∙ ap (λ (w : PagesPen). at w.all c.args.number) c.self.view_is in
    c.head.ensures.head ∙ ap (λ (vs : List (List ℕ)). word_in (newest vs)) all
