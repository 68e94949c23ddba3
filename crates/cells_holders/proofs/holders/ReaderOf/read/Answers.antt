use Rattle.std.proofs.Common.{◌<◌, ◌/◌, rules, sym, ap, ◌∙◌, subst, set}
use Rattle.std.specs.Prelude.{slice_get}
use Rattle.cells_holders.specs.Records.{PagesReader, LoadsRecord}
use Rattle.cells_holders.specs.Pages.{sights_of}
use Rattle.cells_holders.proofs.Stepping.{reader_seat, reader_is_of, read_seats, reads_record}
use Rattle.cells_holders.proofs.holders.ReaderOf.read.Goals as goal

pub index_mut-seat-requires : goal.index_mut-seat-requires
index_mut-seat-requires g c =
    let has = ap (λ (s : PagesReader). slice_get s.cells c.args.number) c.self.view_is ∙ c.requires.own in
    let seats = c.self.inside.seats in
    subst (λ k. c.args.number / 4096 < k) (sym seats.ok.0) (reader_seat g.row.N c.requires.size seats.items c.self.invariant c.args.number _ has)

pub read-requires : goal.read-requires
read-requires g c =
    let has = ap (λ (s : PagesReader). slice_get s.cells c.args.number) c.self.view_is ∙ c.requires.own in
    (search rules, (search rules, reader_is_of g.row.N c.requires.size c.self.inside.seats.items c.self.invariant c.args.number _ has _ c.index_mut-seat.ensures.value))

pub invariant_of-self : goal.invariant_of-self
invariant_of-self g c =
    let has = ap (λ (s : PagesReader). slice_get s.cells c.args.number) c.self.view_is ∙ c.requires.own in
    read_seats g.row.N c.requires.size c.self.inside.seats.items c.self.invariant c.args.number _ has _ c.index_mut-seat.ensures.value _ c.read.ensures.own _
    c.read.ensures.loaded

pub returns : goal.returns
returns g c =
    let has = ap (λ (s : PagesReader). slice_get s.cells c.args.number) c.self.view_is ∙ c.requires.own in
    let seats = c.self.inside.seats.items in
    subst (λ (s : PagesReader). LoadsRecord s (sights_of g.row.N (set seats (c.args.number / 4096) c.read.new.reader)) c.args.number c.read.result) c.self.view_is
    (reads_record g.row.N c.requires.size seats c.self.invariant c.args.number _ has _ c.index_mut-seat.ensures.value _ c.read.ensures.own _
    c.read.ensures.loaded)
