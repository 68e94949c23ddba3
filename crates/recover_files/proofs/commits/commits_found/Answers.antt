use Rattle.std.proofs.Common.{rules, List, Vec, Global, map, sym, ap, ◌∙◌, subst}
use Rattle.std.specs.List.{All}
use Rattle.std.specs.List.Sorted.{IsPermutation}
use Rattle.tables.specs.Sizes.{Sizes}
use Rattle.log_text.specs.Bodies.{BodyView}
use Rattle.log_text.specs.declared.body.Body.{Body}
use Rattle.population.specs.Initial.{seed_of}
use Rattle.recover_found.specs.Found.{bodies_in, counts_by, entries_of, found, keeps}
use Rattle.recover_files.specs.Parts.{HaveLawfulWrites, commit_of}
use Rattle.recover_files.specs.declared.numbering.Commit.{Commit}
use Rattle.recover_files.proofs.AllRead.{found_all}
use Rattle.recover_files.proofs.Found.{files_lawful, counted_found}
use Rattle.recover_files.proofs.Ordering.{reordered}
use Rattle.recover_files.proofs.commits.commits_found.Goals as goal

abbrev bodies_of : List (Vec Body Global) → List (List BodyView)
bodies_of files = map (λ bodies. bodies_in bodies.items) files

pub merged-requires-clause-lawful : goal.merged-requires-clause-lawful
merged-requires-clause-lawful g c =
    let s = c.args.population.now.tables.scale in
    let files = bodies_of c.in_ok-read.read.bodies.items in
    let read = found_all (search rules) c.in_ok-read.ensures in
    subst (λ (t : Sizes). All (λ bodies. HaveLawfulWrites t (entries_of bodies)) files) (sym c.scale.ensures)
    (files_lawful s (seed_of c.args.population.now) read.0 files read.3)

pub returns-clause-found : goal.returns-clause-found
returns-clause-found g c =
    let files = bodies_of c.in_ok-read.read.bodies.items in
    let read = found_all (search rules) c.in_ok-read.ensures in
    let keeps_is = c.in_ok-keeps.ensures.keeps ∙ ap (λ (vs : List (Vec Body Global)). keeps (bodies_of vs)) c.deref.ensures.value in
    let all = c.in_ok-part.ensures.commits ∙ ap (map commit_of) (counted_found (counts_by c.in_ok-keeps.keeps) files keeps_is) in
    let order = reordered commit_of (found files) c.sort.new.commits.items
    (subst (λ (cs : List Commit). IsPermutation cs c.sort.new.commits.items) all c.sort.ensures.permutation) in
    (read.0, read.1, c.in_ok-read.read.version, files, read.3, order.0, order.1, order.2)
