use Rattle.std.proofs.Common.{◌≡◌, true, true≢false, ◌++◌, List, map, refl, sym, ap, ◌∙◌, subst}
use Rattle.std.specs.List.{flat_map}
use Rattle.std.specs.Option.{option_to_list}
use Rattle.tables.specs.Database.{Database, database}
use Rattle.tables.specs.Rows.{rows}
use Rattle.tables.specs.WellFormed.{IsWellFormed}
use Rattle.tables_laws.proofs.NamesKept.{IsOf-itself}
use Rattle.encoding.specs.Held.{by_key, AreTables}
use Rattle.recover_found.specs.Rebuilt.{AreNumbered, IsRebuilt}
use Rattle.recover_newest.specs.Putting.{MayPut}
use Rattle.recover_files.specs.Parts.{IsPart, HaveLawfulWrites, commit_of}
use Rattle.recover_files.specs.declared.numbering.Commit.{Commit}
use Rattle.recover_files.proofs.Ordering.{sorted_numbered, entries_rise, reordered}
use Rattle.recover_files.proofs.Rebuilding.{may_put, rebuilt_of}
use Rattle.recover_files.proofs.recovering.rebuilt.Goals as goal

pub returns-then-not-are_numbered-clause-gap : goal.returns-then-not-are_numbered-clause-gap
returns-then-not-are_numbered-clause-gap c = λ err es part gapless.
    let sorted : List Commit = c.sort.new.commits.items in
    let order = reordered commit_of es sorted (subst (λ (l : List Commit). Rattle.std.specs.List.Sorted.IsPermutation l sorted) part.commits c.sort.ensures.permutation) in
    let numbers : AreNumbered 1 order.0
    = sorted_numbered es order.0 order.1 (entries_rise order.0 sorted order.2 c.sort.ensures.sorted) gapless in
    absurd (true≢false (sym ((c.are_numbered.ensures order.0 (c.deref.ensures.value ∙ order.2)).1 numbers) ∙ c.if-not-are_numbered.true))

pub put_all-requires-clause-records : goal.put_all-requires-clause-records
put_all-requires-clause-records c =
    subst (λ (t : Database). Rattle.std.proofs.Common.length c.args.part.newest.places ≡ Rattle.tables.specs.Records.record_count t.scale) (sym c.tables-first.ensures) c.requires.part.1.records

pub put_all-requires-clause-writes : goal.put_all-requires-clause-writes
put_all-requires-clause-writes c = λ n w is.
    subst (λ (t : Database). MayPut t.scale n w.value) (sym c.tables-first.ensures)
    (may_put c.args.population.now.tables.scale c.requires.part.0 c.args.part c.requires.part.1 c.requires.part.2 n w is)

pub put_all-requires-clause-tables : goal.put_all-requires-clause-tables
put_all-requires-clause-tables c =
    let t : Database = database c.tables-first.result.now in
    let sound : IsWellFormed t = subst IsWellFormed (sym c.tables-first.ensures) c.args.population.now.well_formed in
    subst (AreTables t (by_key t.scale (rows t))) (sym c.in_ok-tables.ensures)
    (c.values_determine_tables.ensures.of_records t t (rows t) (IsOf-itself t) sound (λ n h. refl))

pub returns-clause-rebuilt : goal.returns-clause-rebuilt
returns-clause-rebuilt c = λ es part lawful.
    let t1 : Database = database c.tables-first.result.now in
    let t : Database = database c.put_all.new.tables in
    let u : Database = database c.add_history.new.tables in
    let p = c.args.part in
    let sorted : List Commit = c.sort.new.commits.items in
    let order = reordered commit_of es sorted (subst (λ (l : List Commit). Rattle.std.specs.List.Sorted.IsPermutation l sorted) part.commits c.sort.ensures.permutation) in
    let part1 : IsPart t1.scale es p = subst (λ (d : Database). IsPart d.scale es p) (sym c.tables-first.ensures) part in
    let lawful1 : HaveLawfulWrites t1.scale es = subst (λ (d : Database). HaveLawfulWrites d.scale es) (sym c.tables-first.ensures) lawful in
    let new = subst (λ (cs : List Commit). u ≡ record t { history = t.history ++ flat_map (λ (k : Commit). option_to_list k.row) cs })
    (c.deref-2.ensures.value ∙ order.2) c.in_ok-add_history.ensures in
    let numbers = (c.are_numbered.ensures order.0 (c.deref.ensures.value ∙ order.2)).0 c.if-not-are_numbered.false in
    subst (λ (d : Database). IsRebuilt d es u) c.tables-first.ensures
    (rebuilt_of t1 es p t u order.0 part1 lawful1 c.in_ok-put_all.ensures.tables (c.in_ok-put_all.ensures.history ∙ ap (λ (d : Database). d.history) c.in_ok-tables.ensures) new order.1 numbers
    (λ v. c.values_are_held.ensures.own t1 u v) (λ v. c.values_are_held.ensures.rows t1 u v))
