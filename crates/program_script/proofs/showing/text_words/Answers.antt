use Rattle.std.proofs.Common.{◌≡◌, ◌<◌, ◌≤◌, ◌+◌, ℕ, List, Option, IsSome, sym, ap, ◌∙◌, subst, arith}
use Rattle.tables.specs.Sizes.{Sizes}
use Rattle.tables.specs.Database.{Database}
use Rattle.tables.specs.Keys.{IsCustomerKey}
use Rattle.tables.specs.Records.{narrow_count, record_count, customer_place}
use Rattle.tables.specs.declared.records.RecordKey.TheVariants as key
use Rattle.book.specs.History.{replay}
use Rattle.book.proofs.Replaying.{replay-IsOf, replay-scale}
use Rattle.program_script.proofs.Shown.{record_held, text_stands}
use Rattle.program_script.proofs.showing.text_words.Goals as goal

pub number_of_key-number-requires : goal.number_of_key-number-requires
number_of_key-number-requires g c = subst (λ (z : Sizes). IsCustomerKey z c.args.key)
    (sym (c.scale-scale.ensures ∙ ap (λ (t : Database). t.scale) c.population.ensures)) c.requires

pub record_wide-requires : goal.record_wide-requires
record_wide-requires g c =
    let s = c.scale-scale.result in
    let n = c.number_of_key-number.result in
    let value : n ≡ narrow_count s + customer_place s c.args.key = c.number_of_key-number.ensures.value in
    let behind : narrow_count s ≤ n = omega (arith, value) in
    subst (λ (z : Sizes). (narrow_count z ≤ n) × (n < record_count z))
    (c.scale-scale.ensures ∙ ap (λ (t : Database). t.scale) c.population.ensures) (behind, c.number_of_key-number.ensures.limit)

pub unwrap-requires : goal.unwrap-requires
unwrap-requires g c =
    let t0 = g.K.Run.run.first in
    let history = c.args.session.now.history in
    let held = record_held t0 (replay t0 history) (replay-IsOf t0 history) (key.CustomerData c.args.key) c.requires c.scale-scale.result _ _
    (c.scale-scale.ensures ∙ ap (λ (t : Database). t.scale) c.population.ensures) c.number_of_key-number.ensures.value c.record_wide.ensures.words in
    subst (λ (o : Option (List ℕ)). IsSome o) (sym held)
    (text_stands (replay t0 history) c.record_wide.ensures.well_formed c.args.key
    (subst (λ (z : Sizes). IsCustomerKey z c.args.key) (sym (replay-scale t0 history)) c.requires))

pub returns-clause-words : goal.returns-clause-words
returns-clause-words g c =
    let t0 = g.K.Run.run.first in
    let history = c.args.session.now.history in
    sym c.unwrap.ensures
    ∙ record_held t0 (replay t0 history) (replay-IsOf t0 history) (key.CustomerData c.args.key) c.requires c.scale-scale.result _ _
    (c.scale-scale.ensures ∙ ap (λ (t : Database). t.scale) c.population.ensures) c.number_of_key-number.ensures.value c.record_wide.ensures.words
