use Rattle.std.proofs.Common.{◌<◌, sym, ap, ◌∙◌, subst}
use Rattle.tables.specs.Sizes.{Sizes}
use Rattle.tables.specs.Records.{narrow_count, IsNarrowKey, IsRecordKey}
use Rattle.tables.proofs.Numbers.{of_narrow}
use Rattle.book.specs.History.{replay}
use Rattle.tables.specs.Database.{Database}
use Rattle.book.proofs.Replaying.{replay-IsOf}
use Rattle.program_script.proofs.Shown.{record_held}
use Rattle.program_script.proofs.showing.words_of.Goals as goal

pub returns-clause-words : goal.returns-clause-words
returns-clause-words g c =
    let t0 = g.K.Run.run.first in
    let history = c.args.session.now.history in
    record_held t0 (replay t0 history) (replay-IsOf t0 history) c.args.key (of_narrow t0.scale c.args.key c.requires) c.scale-scale.result _ _
    (c.scale-scale.ensures ∙ ap (λ (t : Database). t.scale) c.population.ensures) c.number_of_key.ensures.value c.record.ensures.words

pub number_of_key-requires : goal.number_of_key-requires
number_of_key-requires g c = subst (λ (z : Sizes). IsRecordKey z c.args.key)
    (sym (c.scale-scale.ensures ∙ ap (λ (t : Database). t.scale) c.population.ensures)) (of_narrow g.K.Run.run.first.scale c.args.key c.requires)

pub record-requires : goal.record-requires
record-requires g c =
    let scale = c.scale-scale.ensures ∙ ap (λ (t : Database). t.scale) c.population.ensures in
    subst (λ (z : Sizes). c.number_of_key.result < narrow_count z) scale
    (c.number_of_key.ensures.narrow (subst (λ (z : Sizes). IsNarrowKey z c.args.key) (sym scale) c.requires))
