use Rattle.std.proofs.Common.{◌≡◌, ◌∷◌, [], ◌++◌, ℕ, List, length, inl, inr, sym, ap, ◌∙◌, subst, arith}
use Rattle.tables.specs.Database.{Database}
use Rattle.tables.specs.Records.{key_of, narrow_count}
use Rattle.tables.specs.Rows.{rows}
use Rattle.tables.specs.WellFormed.{IsWellFormed}
use Rattle.population.specs.Initial.{initial}
use Rattle.cells.specs.First.{firsts, wide_firsts}
use Rattle.cells.specs.Versions.{value_in, newest as newest_of}
use Rattle.cells.specs.Records.{PenView, at, held_by}
use Rattle.cells.specs.declared.cells.Newest.{Newest}
use Rattle.cells.specs.declared.wide.WideNewest.{WideNewest}
use Rattle.encoding.specs.Newest.{words_at, text_versions_of, AreLawful}
use Rattle.encoding.specs.Puts.{MayHold}
use Rattle.encoding.proofs.Positions.{at_narrow, at_behind, first_value, count_begin}
use Rattle.encoding.proofs.Values.{lawful_values}
use Rattle.tests_tables.specs.Lawful.{AreLawfulRows}
use Rattle.tests_tables.proofs.building_tests.tables_of_changed.Goals as goal

-- what cells that begin with these, and with the texts of a population, hold
module _ (t0 : Database) (well_formed : IsWellFormed t0) (first : List Newest) (count : length first ≡ narrow_count t0.scale)
    (rows_may : AreLawfulRows t0.scale (λ n. value_in (words_at first n))) (pen : PenView)
    (all : pen.all ≡ firsts first ++ wide_firsts (text_versions_of t0)) where
  held : (n : ℕ) (w : List ℕ) → at (firsts first ++ wide_firsts (text_versions_of t0)) n ≡ w ∷ [] → held_by pen n ≡ value_in w
  held n w is = ap (λ l. value_in (newest_of l)) (ap (λ l. at l n) all ∙ is)

  lawful : AreLawful t0.scale (held_by pen)
  lawful n (inl low) =
      subst (MayHold t0.scale (key_of t0.scale n)) (sym (held n (words_at first n) (at_narrow t0 well_formed first count n (omega (arith, low))))) (rows_may n low)
  lawful n (inr high) =
      subst (MayHold t0.scale (key_of t0.scale n)) (sym (held n _ (at_behind t0 well_formed first count n high.0 high.1) ∙ first_value (rows t0 n)))
      (lawful_values t0 well_formed n (inr high))

pub tables_of-requires-clause-narrow : goal.tables_of-requires-clause-narrow
tables_of-requires-clause-narrow g c = c.in_ok-cells.ensures.cells.0 ∙ c.in_ok-first.ensures.count

pub tables_of-requires-clause-wide : goal.tables_of-requires-clause-wide
tables_of-requires-clause-wide g c =
    c.in_ok-cells.ensures.cells.1 ∙ ap length (c.in_ok-texts.ensures ∙ ap text_versions_of c.tables.ensures) ∙ count_begin (initial c.args.population.now) c.args.population.now.well_formed

pub tables_of-requires-clause-lawful : goal.tables_of-requires-clause-lawful
tables_of-requires-clause-lawful g c =
    let t0 = initial c.args.population.now in
    let texts = c.in_ok-texts.ensures ∙ ap text_versions_of c.tables.ensures in
    lawful t0 c.args.population.now.well_formed c.in_ok-first.first c.in_ok-first.ensures.count c.in_ok-first.ensures.lawful c.in_ok-cells.pen
    (ap (λ (w : PenView). w.all) c.in_ok-cells.ensures.pen ∙ ap (λ (l : List WideNewest). firsts c.in_ok-first.first ++ wide_firsts l) texts)
