use Rattle.std.proofs.Common.{◌≡◌, ◌++◌, None, refl, sym, ap, ◌∙◌, subst}
use Rattle.tables.specs.Database.{Database, database}
use Rattle.population.specs.Initial.{initial}
use Rattle.cells.specs.Records.{PenView, held_by}
use Rattle.encoding.specs.Held.{by_key, AreTables}
use Rattle.encoding.proofs.Below.{no_records, lawful_by_key}
use Rattle.encoding.proofs.Determined.{determined}
use Rattle.encoding.proofs.Held.{are_tables}
use Rattle.encoding.proofs.Values.{rows_held, is_of}
use Rattle.encoding.proofs.building.tables_of.Goals as goal

pub put_rows-requires-clause-none : goal.put_rows-requires-clause-none
put_rows-requires-clause-none c =
    let t0 = database c.tables-first.result.now in
    subst (AreTables t0 (λ k. None)) (sym c.in_ok-tables.ensures) (no_records t0 _ refl)

-- the tables that the loops have made, of the population's tables and the pen as it was
module _ (first t0 t : Database) (lent_pen pen : PenView) (lent : first ≡ t0) (same : lent_pen ≡ pen)
    (made : AreTables first (by_key first.scale (held_by lent_pen)) t) where
  of_population : AreTables t0 (by_key t0.scale (held_by pen)) t
  of_population = subst (λ (q : Database × PenView). AreTables q.0 (by_key q.0.scale (held_by q.1)) t) (λ i. (lent i, same i)) made

pub returns-clause-tables : goal.returns-clause-tables
returns-clause-tables c =
    of_population _ (initial c.args.population.now) (database c.put_texts.new.tables) _ c.args.pen.now c.tables-first.ensures c.in_ok-put_rows.ensures.pen
    c.in_ok-put_texts.ensures.tables

pub returns-clause-rows : goal.returns-clause-rows
returns-clause-rows c =
    let t0 = initial c.args.population.now in
    let t = database c.put_texts.new.tables in
    rows_held t0 (held_by c.args.pen.now) t
    (of_population _ t0 t _ c.args.pen.now c.tables-first.ensures c.in_ok-put_rows.ensures.pen c.in_ok-put_texts.ensures.tables)

pub returns-clause-population : goal.returns-clause-population
returns-clause-population c =
    let t0 = initial c.args.population.now in
    let t = database c.put_texts.new.tables in
    let values = held_by c.args.pen.now in
    is_of t0 (by_key t0.scale values) t c.args.population.now.well_formed (lawful_by_key t0.scale values c.requires.lawful)
    (of_population _ t0 t _ c.args.pen.now c.tables-first.ensures c.in_ok-put_rows.ensures.pen c.in_ok-put_texts.ensures.tables)

pub returns-clause-is : goal.returns-clause-is
returns-clause-is c =
    let t0 = initial c.args.population.now in
    let t = database c.put_texts.new.tables in
    let values = held_by c.args.pen.now in
    λ u of wf agree history. determined t0 (by_key t0.scale values) t u
    (of_population _ t0 t _ c.args.pen.now c.tables-first.ensures c.in_ok-put_rows.ensures.pen c.in_ok-put_texts.ensures.tables)
    (are_tables t0 u of wf values agree)
    (c.in_ok-put_texts.ensures.history ∙ c.in_ok-put_rows.ensures.history
    ∙ (ap (λ (d : Database). d.history) c.in_ok-tables.ensures ∙ ap (λ (d : Database). d.history ++ c.args.added.now) c.tables-first.ensures
    ∙ sym history))
