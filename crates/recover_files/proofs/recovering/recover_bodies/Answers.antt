use Rattle.std.proofs.Common.{List, Vec, Global, ap, sym, ◌∙◌, subst}
use Rattle.std.specs.List.{All}
use Rattle.tables.specs.Sizes.{Sizes}
use Rattle.log_text.specs.declared.body.Body.{Body}
use Rattle.population.specs.Initial.{initial, seed_of}
use Rattle.recover_found.specs.Found.{durable_of, entries_of, keeps}
use Rattle.recover_files.specs.Parts.{HaveLawfulWrites}
use Rattle.recover_files.proofs.Answering.{merged_of}
use Rattle.recover_files.proofs.Found.{files_lawful}
use Rattle.recover_files.proofs.HalvesOfFiles.{bodies_of}
use Rattle.recover_files.proofs.recovering.recover_bodies.Goals as goal

pub merged-requires-clause-lawful : goal.merged-requires-clause-lawful
merged-requires-clause-lawful c =
    subst (λ (t : Sizes). All (λ bodies. HaveLawfulWrites t (entries_of bodies)) (bodies_of c.args.files.items)) (sym c.scale.ensures)
    (files_lawful (initial c.args.population.now).scale (seed_of c.args.population.now) c.requires.1 _ c.requires.2)

pub settled-requires : goal.settled-requires
settled-requires c =
    let durable = c.durable.ensures ∙ c.in_ok-keeps.ensures.durable ∙ ap (λ (vs : List (Vec Body Global)). durable_of (bodies_of vs)) c.deref.ensures.value in
    let keeps_is = c.in_ok-keeps.ensures.keeps ∙ ap (λ (vs : List (Vec Body Global)). keeps (bodies_of vs)) c.deref.ensures.value in
    record { merged = (_, merged_of (seed_of c.args.population.now) c.requires.1 c.requires.2 durable keeps_is c.scale.ensures c.in_ok-part.ensures) }

pub returns-clause-recovered : goal.returns-clause-recovered
returns-clause-recovered c =
    let durable = c.durable.ensures ∙ c.in_ok-keeps.ensures.durable ∙ ap (λ (vs : List (Vec Body Global)). durable_of (bodies_of vs)) c.deref.ensures.value in
    let keeps_is = c.in_ok-keeps.ensures.keeps ∙ ap (λ (vs : List (Vec Body Global)). keeps (bodies_of vs)) c.deref.ensures.value in
    c.settled.ensures.recovered _ (merged_of (seed_of c.args.population.now) c.requires.1 c.requires.2 durable keeps_is c.scale.ensures c.in_ok-part.ensures)

pub returns-clause-gap : goal.returns-clause-gap
returns-clause-gap c =
    let durable = c.durable.ensures ∙ c.in_ok-keeps.ensures.durable ∙ ap (λ (vs : List (Vec Body Global)). durable_of (bodies_of vs)) c.deref.ensures.value in
    let keeps_is = c.in_ok-keeps.ensures.keeps ∙ ap (λ (vs : List (Vec Body Global)). keeps (bodies_of vs)) c.deref.ensures.value in
    c.settled.ensures.gap _ (merged_of (seed_of c.args.population.now) c.requires.1 c.requires.2 durable keeps_is c.scale.ensures c.in_ok-part.ensures)
