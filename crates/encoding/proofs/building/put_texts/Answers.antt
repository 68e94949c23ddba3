use Rattle.std.proofs.Common.{◌≡◌, ◌≤◌, ◌<◌, ◌+◌, ◌-◌, ℕ, List, Option, Some, inr, sym, ap, ◌∙◌, subst, arith}
use Rattle.tables.specs.Database.{database}
use Rattle.tables.specs.Keys.{IsCustomerKey}
use Rattle.tables.specs.Records.{size, narrow_count, record_count, key_of, customer_at}
use Rattle.tables.specs.Sizes.{Sizes}
use Rattle.tables.specs.declared.Tables.{Tables}
use Rattle.tables.specs.declared.records.RecordKey.{RecordKey}
use Rattle.tables.specs.declared.records.RecordKey.TheVariants as key
use Rattle.tables.specs.declared.records.Table.TheVariants as table
use Rattle.tables.proofs.Numbers.{customer_back, wide_named}
use Rattle.cells.specs.Records.{PenView, held_by}
use Rattle.encoding.specs.Building.{below}
use Rattle.encoding.specs.Held.{by_key, AreTables}
use Rattle.encoding.specs.Puts.{MayHold, Puts}
use Rattle.encoding.proofs.Below.{skips, goes_on, passes, ends}
use Rattle.encoding.proofs.building.put_texts.Goals as goal
use Rattle.encoding.proofs.building.put_texts.Goals.{in-Some+in_ok-put_text, in_default}

-- a number of a wide record, and the key of its customer
module _ (s : Sizes) (n : ℕ) (behind : narrow_count s ≤ n) (inside : n < record_count s) where
  small : n - narrow_count s < size s table.CustomerData
  small = omega (arith, behind, inside)

  its_key : key_of s n ≡ key.CustomerData (customer_at s (n - narrow_count s))
  its_key = let back : narrow_count s + (n - narrow_count s) ≡ n = omega (arith, behind) in
      ap (key_of s) (sym back) ∙ wide_named s (n - narrow_count s) small

  of_scale : IsCustomerKey s (customer_at s (n - narrow_count s))
  of_scale = (customer_back s (n - narrow_count s) small).0

pub loop-number-init : goal.loop-number-init
loop-number-init c =
    let t0 = database c.args.population.now in
    let values = held_by c.args.pen.now in
    record {
      tables = subst (λ n. AreTables t0 (by_key t0.scale (below n values)) (database c.args.tables.now)) (sym c.narrow_count-first.ensures)
          (skips t0 values (database c.args.tables.now) c.requires.rows);
      pen = Rattle.std.proofs.Common.refl;
      history = Rattle.std.proofs.Common.refl;
    }

pub put_text-requires : goal.put_text-requires
put_text-requires c =
    let s = (database c.args.population.now).scale in
    let n = c.loop-number.number in
    let done = c.loop-number.invariant in
    let behind : narrow_count s ≤ n = omega (arith, c.narrow_count-first.ensures, c.loop-number.auto.number) in
    let inside : n < record_count s = omega (arith, c.record_count-number-end.ensures, c.loop-number-test.true) in
    let is : held_by c.args.pen.now n ≡ Some c.in-Some.words = ap (λ (w : PenView). held_by w n) (sym done.pen) ∙ sym c.held_wide.ensures.held ∙ c.in-Some.is in
    subst (λ (k : RecordKey). MayHold s k (Some c.in-Some.words)) (its_key s n behind inside)
    (subst (λ (v : Option (List ℕ)). MayHold s (key_of s n) v) is (c.requires.lawful n (inr (behind, inside))))

pub loop-number-preserved : goal.loop-number-preserved
loop-number-preserved c =
    let t0 = database c.args.population.now in
    let s = t0.scale in
    let values = held_by c.args.pen.now in
    let n = c.loop-number.number in
    let old = c.loop-number.tables in
    let done = c.loop-number.invariant in
    let more = λ (t : Tables). AreTables t0 (by_key t0.scale (below (n + 1) values)) (database t) in
    let pen : c.held_wide.new.pen ≡ c.args.pen.now = c.held_wide.ensures.pen ∙ done.pen in
    let is : values n ≡ c.held_wide.result = ap (λ (w : PenView). held_by w n) (sym done.pen) ∙ sym c.held_wide.ensures.held in
    let behind : narrow_count s ≤ n = omega (arith, c.narrow_count-first.ensures, c.loop-number.auto.number) in
    let inside : n < record_count s = omega (arith, c.record_count-number-end.ensures, c.loop-number-test.true) in
    elim c.match-held_wide.branch [
      | in-Some+in_ok-put_text w ↦
          let same : w.customer_at.result ≡ customer_at s (n - narrow_count s)
          = w.customer_at.ensures ∙ ap (λ m. customer_at s (n - m)) c.narrow_count-first.ensures in
          let puts = subst (λ (k : RecordKey). Puts t0 k (Some w.in-Some.words) (database old) (database w.put_text.new.tables))
          (ap key.CustomerData same ∙ sym (its_key s n behind inside))
          (w.in_ok-put_text.ensures t0 (subst (IsCustomerKey s) (sym same) (of_scale s n behind inside))) in
          record {
            tables = subst more (sym w.tables-is)
                (goes_on t0 values (database old) (database w.put_text.new.tables) n w.in-Some.words inside (is ∙ w.in-Some.is) puts done.tables);
            history = ap (λ (t : Tables). t.history.items) w.tables-is ∙ (puts.history ∙ done.history);
            pen = pen;
          }
      | in_default w ↦ record {
        tables = subst more (sym w.tables-is) (passes t0 values (database old) n (is ∙ w.in_default.is) done.tables);
        history = ap (λ (t : Tables). t.history.items) w.tables-is ∙ done.history;
        pen = pen;
      }
    ]

pub returns-clause-tables : goal.returns-clause-tables
returns-clause-tables c =
    let t0 = database c.args.population.now in
    let all : record_count t0.scale ≤ c.loop-number.number = omega (arith, c.record_count-number-end.ensures, c.loop-number-test.false) in
    ends t0 (held_by c.args.pen.now) (database c.loop-number.tables) c.loop-number.number all c.loop-number.invariant.tables
