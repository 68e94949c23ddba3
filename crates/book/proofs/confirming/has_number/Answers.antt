use Rattle.std.proofs.Common.{sym, ap, ◌∙◌}
use Rattle.tables.specs.Sizes.{Sizes}
use Rattle.tables.specs.NewOrder.{home}
use Rattle.tables.specs.Records.{number_of_key}
use Rattle.tables.specs.Rows.{rows}
use Rattle.tables.specs.declared.keys.DistrictKey.{DistrictKey}
use Rattle.tables.specs.declared.records.RecordKey.TheVariants as key
use Rattle.book.specs.History.{replay}
use Rattle.book.proofs.Replaying.{replay-scale}
use Rattle.book.proofs.NumberLeft.{number_by, number_at_none}
use Rattle.book.proofs.confirming.has_number.Goals as goal

pub returns-in-Some-clause-number : goal.returns-in-Some-clause-number
returns-in-Some-clause-number g c =
    let t0 = g.K.Run.run.first in
    let history = c.args.book.now.history in
    let number = c.number_of_key-number.ensures.value ∙ ap (λ (k : DistrictKey). number_of_key c.args.scale.now (key.District k)) c.home.ensures
    ∙ ap (λ (s : Sizes). number_of_key s (key.District (home c.args.order.now))) c.requires.scale in
    number_by t0.scale (replay t0 history) c.args.order.now (replay-scale t0 history) c.requires.input c.in-Some.words c.from.result
    (sym c.in-Some.is ∙ c.record.ensures.held ∙ ap (rows (replay t0 history)) number)
    (c.from.ensures ∙ c.orders.ensures.value ∙ ap (λ (s : Sizes). s.orders) c.requires.scale)

pub returns-in-None-clause-number : goal.returns-in-None-clause-number
returns-in-None-clause-number g c =
    let t0 = g.K.Run.run.first in
    let history = c.args.book.now.history in
    let number = c.number_of_key-number.ensures.value ∙ ap (λ (k : DistrictKey). number_of_key c.args.scale.now (key.District k)) c.home.ensures
    ∙ ap (λ (s : Sizes). number_of_key s (key.District (home c.args.order.now))) c.requires.scale in
    number_at_none t0.scale (replay t0 history) c.args.order.now (replay-scale t0 history) c.requires.input
    (sym c.in-None.is ∙ c.record.ensures.held ∙ ap (rows (replay t0 history)) number)
