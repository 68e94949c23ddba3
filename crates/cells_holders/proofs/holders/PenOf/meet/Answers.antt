use Rattle.std.proofs.Common.{ℕ, List, ◌<◌, ◌/◌, rules, sym, ap, ◌∙◌, subst, set}
use Rattle.std.specs.Prelude.{slice_get}
use Rattle.cells_pages.specs.Versions.{newest, word_in}
use Rattle.cells_holders.specs.Records.{PagesPen, PagesReader, LearnsRecord, at}
use Rattle.cells_holders.specs.Pages.{sights_of}
use Rattle.cells_pages.proofs.Lists.{sound_some}
use Rattle.cells_holders.proofs.Stepping.{pen_seat, pen_is_of, pen_knows_seat, pen_versions, kept_seats, kept_view, reader_seat, reader_is_of, met_seats, learns_record}
use Rattle.cells_holders.proofs.holders.PenOf.meet.Goals as goal

pub index_mut-pen-requires : goal.index_mut-pen-requires
index_mut-pen-requires g c =
    let has = ap (λ (w : PagesPen). slice_get w.cells c.args.number) c.self.view_is ∙ c.requires.own in
    let seats = c.self.inside.seats in
    subst (λ k. c.args.number / 4096 < k) (sym seats.ok.0) (pen_seat g.row.N c.requires.size seats.items c.self.invariant c.args.number _ has)

pub index_mut-requires : goal.index_mut-requires
index_mut-requires g c =
    let has = ap (λ (s : PagesReader). slice_get s.cells c.args.number) c.reader.view_is ∙ c.requires.reader in
    let seats = c.reader.inside.seats in
    subst (λ k. c.args.number / 4096 < k) (sym seats.ok.0) (reader_seat g.row.N c.requires.size seats.items c.reader.invariant c.args.number _ has)

pub meet-requires : goal.meet-requires
meet-requires g c =
    let has = ap (λ (w : PagesPen). slice_get w.cells c.args.number) c.self.view_is ∙ c.requires.own in
    let reads = ap (λ (s : PagesReader). slice_get s.cells c.args.number) c.reader.view_is ∙ c.requires.reader in
    let is = c.index_mut-pen.ensures.value in (
      search rules,
      (
        (
          pen_is_of g.row.N c.requires.size c.self.inside.seats.items c.self.invariant c.args.number _ has _ is,
          reader_is_of g.row.N c.requires.size c.reader.inside.seats.items c.reader.invariant c.args.number _ reads _ c.index_mut.ensures.value,
        ),
        pen_knows_seat g.row.N c.requires.size c.self.inside.seats.items c.self.invariant c.args.number _ has _ is,
      ),
    )

pub invariant_of-self : goal.invariant_of-self
invariant_of-self g c =
    let has = ap (λ (w : PagesPen). slice_get w.cells c.args.number) c.self.view_is ∙ c.requires.own in
    kept_seats g.row.N c.requires.size c.self.inside.seats.items c.self.invariant c.args.number _ has _ c.index_mut-pen.ensures.value _ c.meet.ensures.own.0
    c.meet.ensures.pen

pub invariant_of-reader : goal.invariant_of-reader
invariant_of-reader g c =
    let reads = ap (λ (s : PagesReader). slice_get s.cells c.args.number) c.reader.view_is ∙ c.requires.reader in
    met_seats g.row.N c.requires.size c.reader.inside.seats.items c.reader.invariant c.args.number _ reads _ c.index_mut.ensures.value _ c.meet.ensures.own.1
    _ c.meet.ensures.reader

pub returns-clause-same : goal.returns-clause-same
returns-clause-same g c =
    let has = ap (λ (w : PagesPen). slice_get w.cells c.args.number) c.self.view_is ∙ c.requires.own in
    kept_view g.row.N c.requires.size c.self.inside.seats.items c.self.invariant c.args.number _ has _ c.index_mut-pen.ensures.value _ c.meet.ensures.own.0
    c.meet.ensures.pen
    ∙ c.self.view_is

pub returns-clause-reader : goal.returns-clause-reader
returns-clause-reader g c =
    let has = ap (λ (w : PagesPen). slice_get w.cells c.args.number) c.self.view_is ∙ c.requires.own in
    let reads = ap (λ (s : PagesReader). slice_get s.cells c.args.number) c.reader.view_is ∙ c.requires.reader in
    let all = sym (pen_versions g.row.N c.requires.size c.self.inside.seats.items c.self.invariant c.args.number _ has _ c.index_mut-pen.ensures.value)
    ∙ ap (λ (w : PagesPen). at w.all c.args.number) c.self.view_is in
    let seats = c.reader.inside.seats.items in
    subst (λ (s : PagesReader). LearnsRecord c.args.self.now s (sights_of g.row.N (set seats (c.args.number / 4096) c.meet.new.reader)) c.args.number)
    c.reader.view_is
    (learns_record g.row.N c.requires.size seats c.reader.invariant c.args.number _ reads _ c.index_mut.ensures.value _ c.meet.ensures.own.1
    _ c.meet.ensures.reader c.args.self.now all c.meet.ensures.grows c.meet.ensures.sound)

pub returns-clause-some : goal.returns-clause-some
returns-clause-some g c =
    let has = ap (λ (w : PagesPen). slice_get w.cells c.args.number) c.self.view_is ∙ c.requires.own in
    let all = sym (pen_versions g.row.N c.requires.size c.self.inside.seats.items c.self.invariant c.args.number _ has _ c.index_mut-pen.ensures.value)
    ∙ ap (λ (w : PagesPen). at w.all c.args.number) c.self.view_is in
    λ none. sound_some g.row.N _ c.requires.size.0 c.meet.ensures.sound (all ∙ none)

pub returns-clause-newest : goal.returns-clause-newest
returns-clause-newest g c =
    let has = ap (λ (w : PagesPen). slice_get w.cells c.args.number) c.self.view_is ∙ c.requires.own in
    let all = sym (pen_versions g.row.N c.requires.size c.self.inside.seats.items c.self.invariant c.args.number _ has _ c.index_mut-pen.ensures.value)
    ∙ ap (λ (w : PagesPen). at w.all c.args.number) c.self.view_is in
    c.meet.ensures.newest ∙ ap (λ (vs : List (List ℕ)). word_in (newest vs)) all
