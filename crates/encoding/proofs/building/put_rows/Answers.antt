use Rattle.std.proofs.Common.{◌≡◌, ◌+◌, sym, ap, ◌∙◌, subst, arith, Some}
use Rattle.tables.specs.Database.{database}
use Rattle.tables.specs.declared.Tables.{Tables}
use Rattle.cells.specs.Records.{PenView, held_by}
use Rattle.encoding.specs.Held.{row_count, by_key, AreTables}
use Rattle.encoding.specs.Puts.{Puts}
use Rattle.encoding.specs.Building.{below}
use Rattle.encoding.proofs.Below.{goes_on, passes}
use Rattle.encoding.proofs.building.put_rows.Goals as goal
use Rattle.encoding.proofs.building.put_rows.Goals.{in-Some+in_ok-put, in_default}

pub loop-number-preserved : goal.loop-number-preserved
loop-number-preserved c =
    let t0 = database c.args.population.now in
    let values = held_by c.args.pen.now in
    let n = c.loop-number.number in
    let old = c.loop-number.tables in
    let done = c.loop-number.invariant in
    let more = λ (t : Tables). AreTables t0 (by_key t0.scale (below (n + 1) values)) (database t) in
    let pen : c.held.new.pen ≡ c.args.pen.now = c.held.ensures.pen ∙ done.pen in
    let is : values n ≡ c.held.result = ap (λ (w : PenView). held_by w n) (sym done.pen) ∙ sym c.held.ensures.held in
    elim c.match-held.branch [
      | in-Some+in_ok-put w ↦
          let puts = subst (λ k. Puts t0 k (Some w.in-Some.words) (database old) (database w.put.new.tables)) w.key_of-key.ensures.value w.in_ok-put.ensures in
          record {
            tables = subst more (sym w.tables-is)
                (goes_on t0 values (database old) (database w.put.new.tables) n w.in-Some.words (omega arith) (is ∙ w.in-Some.is) puts done.tables);
            history = ap (λ (t : Tables). t.history.items) w.tables-is ∙ (puts.history ∙ done.history);
            pen = pen;
          }
      | in_default w ↦ record {
        tables = subst more (sym w.tables-is) (passes t0 values (database old) n (is ∙ w.in_default.is) done.tables);
        history = ap (λ (t : Tables). t.history.items) w.tables-is ∙ done.history;
        pen = pen;
      }
    ]

pub returns-clause-tables : goal.returns-clause-tables
returns-clause-tables c =
    let t0 = database c.args.population.now in
    let all : c.loop-number.number ≡ row_count t0.scale = omega (arith, c.row_count-number-end.ensures.value) in
    subst (λ n. AreTables t0 (by_key t0.scale (below n (held_by c.args.pen.now))) (database c.loop-number.tables)) all c.loop-number.invariant.tables
