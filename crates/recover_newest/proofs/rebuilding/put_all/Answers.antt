use Rattle.std.proofs.Common.{◌≡◌, ◌+◌, ◌<◌, ℕ, List, Option, sym, ap, ◌∙◌, subst}
use Rattle.std.proofs.Common.{Bor}
use Rattle.std.specs.Option.{option_map}
use Rattle.recover_newest.specs.declared.latest.Latest.{Latest}
use Rattle.tables.specs.Database.{Database, database}
use Rattle.tables.specs.Records.{record_count}
use Rattle.tables.specs.Rows.{rows}
use Rattle.encoding.specs.Held.{by_key, AreTables}
use Rattle.recover_newest.specs.Known.{known}
use Rattle.recover_newest.proofs.Putting.{put_below, next_stays, next_put}
use Rattle.recover_newest.proofs.rebuilding.put_all.Goals.{in-Some+in_ok-put_one, in_default}
use Rattle.recover_newest.proofs.rebuilding.put_all.Goals as goal

pub put_one-requires-clause-value : goal.put_one-requires-clause-value
put_one-requires-clause-value c =
    c.requires.writes c.loop-number.number c.in-Some.write.now
    (sym c.get.ensures ∙ ap (option_map (λ (write : Bor Latest). write.now)) c.in-Some.is)

pub loop-number-preserved : goal.loop-number-preserved
loop-number-preserved c =
    let t0 = database c.args.population.now in
    let next = c.loop-number.number in
    let newest = known c.args.newest.now in
    let small : next < record_count t0.scale = subst (λ (n : ℕ). next < n) c.record_count-number-end.ensures c.loop-number-test.true in
    elim c.match-get.branch [
      | in-Some+in_ok-put_one w ↦
          let puts = w.in_ok-put_one.ensures in
          let new = database w.put_one.new.tables in
          let tables = next_put newest (rows t0) t0 next w.in-Some.write.now (database c.loop-number.tables) new small
          (sym c.get.ensures ∙ ap (option_map (λ (write : Bor Latest). write.now)) w.in-Some.is) c.loop-number.invariant.tables puts in
          record {
            tables = subst (λ (t : Database). AreTables t0 (by_key t0.scale (put_below (next + 1) newest (rows t0))) t)
                (sym (ap database w.tables-is)) tables;
            history = ap (λ (t : Database). t.history) (ap database w.tables-is) ∙ puts.history ∙ c.loop-number.invariant.history;
          }
      | in_default w ↦
          let same : (n : ℕ) → put_below (next + 1) newest (rows t0) n ≡ put_below next newest (rows t0) n
          = next_stays newest (rows t0) next (sym c.get.ensures ∙ ap (option_map (λ (write : Bor Latest). write.now)) w.in_default.is) in
          let tables = subst (λ (values : ℕ → Option (List ℕ)). AreTables t0 (by_key t0.scale values) (database c.loop-number.tables))
          (λ i n. sym (same n) i) c.loop-number.invariant.tables in
          record {
            tables = subst (λ (t : Database). AreTables t0 (by_key t0.scale (put_below (next + 1) newest (rows t0))) t)
                (sym (ap database w.tables-is)) tables;
            history = ap (λ (t : Database). t.history) (ap database w.tables-is) ∙ c.loop-number.invariant.history;
          }
    ]
