use Rattle.std.proofs.Common.{inl, ◌<◌, ◌≤◌, List, sym, ap, ◌∙◌, subst, arith}
use Rattle.tables.specs.Sizes.{Sizes}
use Rattle.tables.specs.Database.{Database}
use Rattle.tables.specs.Records.{key_of, narrow_count}
use Rattle.tables.specs.Rows.{rows}
use Rattle.population.specs.Initial.{initial}
use Rattle.cells.specs.Versions.{value_in}
use Rattle.cells.specs.declared.cells.Newest.{Newest}
use Rattle.encoding.specs.Held.{row_count}
use Rattle.encoding.specs.Newest.{words_at, AreFirst}
use Rattle.encoding.specs.Puts.{MayHold}
use Rattle.encoding.proofs.Positions.{first_value}
use Rattle.encoding.proofs.Values.{lawful_values}
use Rattle.tables.specs.WellFormed.{IsWellFormed}
use Rattle.tests_tables.specs.Lawful.{AreLawfulRows}
use Rattle.tests_tables.proofs.building_tests.changed_versions.Goals as goal

rows_first : (s : Sizes) → row_count s ≤ narrow_count s
rows_first s = omega arith

-- what the records of well-formed tables begin with is lawful
begins_lawful : (t0 : Database) (first : List Newest) → IsWellFormed t0 → AreFirst t0 first → AreLawfulRows t0.scale (λ n. value_in (words_at first n))
begins_lawful t0 first well_formed are n h =
    let small : n < narrow_count t0.scale = omega (arith, h, rows_first t0.scale) in
    subst (MayHold t0.scale (key_of t0.scale n)) (sym (ap value_in (are.words n small) ∙ first_value (rows t0 n)))
    (lawful_values t0 well_formed n (inl h))

pub change-requires-clause-lawful : goal.change-requires-clause-lawful
change-requires-clause-lawful c =
    let t0 = initial c.args.population.now in
    subst (λ (s : Sizes). AreLawfulRows s (λ n. value_in (words_at c.in_ok-first.first n))) (sym c.scale.ensures)
    (begins_lawful t0 c.in_ok-first.first c.args.population.now.well_formed
    (subst (λ (t : Database). AreFirst t c.in_ok-first.first) c.tables.ensures c.in_ok-first.ensures))
