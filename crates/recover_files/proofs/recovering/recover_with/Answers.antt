use Rattle.std.proofs.Common.{rules, List, Vec, Global, Err, sym, ap, ◌∙◌, subst}
use Rattle.std.specs.List.{All}
use Rattle.tables.specs.Sizes.{Sizes}
use Rattle.log_text.specs.declared.body.Body.{Body}
use Rattle.population.specs.Initial.{initial, seed_of}
use Rattle.recover_found.specs.Found.{durable_of, entries_of, keeps}
use Rattle.recover_files.specs.Answers.{IsAnswerOn}
use Rattle.recover_files.specs.Parts.{HaveLawfulWrites}
use Rattle.recover_files.proofs.AllRead.{found_all}
use Rattle.recover_files.proofs.Answering.{unread, settled_answer, merged_of}
use Rattle.recover_files.proofs.Found.{files_lawful}
use Rattle.recover_files.proofs.HalvesOfFiles.{bodies_of}
use Rattle.recover_files.proofs.recovering.recover_with.Goals as goal

pub merged_with-requires-clause-lawful : goal.merged_with-requires-clause-lawful
merged_with-requires-clause-lawful g c =
    let read = found_all (search rules) c.in_ok-read.ensures in λ κs within.
    subst (λ (t : Sizes). All (λ bodies. HaveLawfulWrites t (entries_of bodies)) (bodies_of c.in_ok-read.read.bodies.items)) (sym c.scale.ensures)
    (files_lawful (initial c.args.population.now).scale (seed_of c.args.population.now) read.0 _ read.3)

pub settled-requires : goal.settled-requires
settled-requires g c =
    let read = found_all (search rules) c.in_ok-read.ensures in
    let durable = c.durable.ensures ∙ c.in_ok-keeps.ensures.durable ∙ ap (λ (vs : List (Vec Body Global)). durable_of (bodies_of vs)) c.deref.ensures.value in
    let keeps_is = c.in_ok-keeps.ensures.keeps ∙ ap (λ (vs : List (Vec Body Global)). keeps (bodies_of vs)) c.deref.ensures.value in
    record { merged = (_, merged_of (seed_of c.args.population.now) read.0 read.3 durable keeps_is c.scale.ensures c.in_ok-part.ensures) }

pub returns-in_err-read : goal.returns-in_err-read
returns-in_err-read g c =
    let answer : IsAnswerOn g.D.Disk.is_modelled g.D.Disk.seen g.D.Disk.story g.D.Disk.failed (initial c.args.population.now)
    (seed_of c.args.population.now) c.args.disks.now c.read_with.new.disks (Err c.in_err-read.field-0.0)
    = unread {t0 = initial c.args.population.now} (search rules) c.in_err-read.ensures in
    search rules

pub returns : goal.returns
returns g c =
    let read = found_all (search rules) c.in_ok-read.ensures in
    let durable = c.durable.ensures ∙ c.in_ok-keeps.ensures.durable ∙ ap (λ (vs : List (Vec Body Global)). durable_of (bodies_of vs)) c.deref.ensures.value in
    let keeps_is = c.in_ok-keeps.ensures.keeps ∙ ap (λ (vs : List (Vec Body Global)). keeps (bodies_of vs)) c.deref.ensures.value in
    let merged = merged_of (seed_of c.args.population.now) read.0 read.3 durable keeps_is c.scale.ensures c.in_ok-part.ensures in
    settled_answer (search rules) c.in_ok-read.ensures c.settled.result (c.settled.ensures.recovered _ merged) (c.settled.ensures.gap _ merged)
    c.settled.ensures.others
