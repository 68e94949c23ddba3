use Rattle.std.proofs.Common.{◌≡◌, ◌+◌, ◌<◌, ℕ, None, IsSome, refl, sym, ap, ◌∙◌, subst, arith}
use Rattle.tables.specs.Sizes.{Sizes}
use Rattle.tables.specs.Keys.{IsDistrictKey}
use Rattle.tables.specs.Records.{number_of_key}
use Rattle.tables.specs.declared.records.RecordKey.TheVariants as key
use Rattle.readset.specs.Reads.{ReadSetView, held}
use Rattle.readset.specs.Explains.{IsCandidate}
use Rattle.readset.proofs.UnderWay.{goes_on_twice}
use Rattle.delivery.specs.Steps.{next_home, AreDone, AreOldestRead, AreTold}
use Rattle.delivery.proofs.RaisedOldest.{raised}
use Rattle.delivery.proofs.oldest.raise_oldest.Goals as goal

pub loop-done-preserved : goal.loop-done-preserved
loop-done-preserved g c =
    let i = c.loop-done.invariant in
    let t0 = g.K.Start.tables in
    let x = c.args.delivery.now in
    let done = c.loop-done.done in
    let orders = c.args.orders.now in
    let cap : c.scale.result.districts ≡ t0.scale.districts = ap (λ (s : Sizes). s.districts) c.scale.ensures in
    let below : done < t0.scale.districts = omega (arith, c.loop-done-test.true, c.districts-districts.ensures.value, cap) in
    let old = c.loop-done.transaction in
    let new = c.raise_district.new.transaction in
    let there : IsDistrictKey t0.scale (next_home x done) = (c.requires.input.warehouse, (omega arith, omega (arith, below))) in
    let read : AreOldestRead t0 x t0.scale.districts old =
    subst (λ (r : ReadSetView). (m : ℕ) → m < t0.scale.districts → IsSome (held r (number_of_key t0.scale (key.Oldest (next_home x m))))) (sym i.reads)
    c.requires.oldest in
    let told : AreTold t0 x t0.scale.districts old orders = λ t h. c.requires.told t (subst (λ (r : ReadSetView). IsCandidate t0 r t) i.reads h) in
    record {
      done = raised t0 x t0.scale.districts done old new orders _ below there i.done read told
          (record { district = 0; order = None }) refl c.raise_district.ensures.reads
          c.district_key.result c.district_key.ensures c.in_ok-raise_district.ensures.written;
      reads = c.raise_district.ensures.reads ∙ i.reads;
      goes_on = goes_on_twice c.args.transaction.now old new 0 done 0 1 0 (done + 1) i.goes_on c.raise_district.ensures.goes_on (omega arith) (omega arith);
    }

pub returns-clause-done : goal.returns-clause-done
returns-clause-done g c =
    let t0 = g.K.Start.tables in
    let cap : c.scale.result.districts ≡ t0.scale.districts = ap (λ (s : Sizes). s.districts) c.scale.ensures in
    let all : c.loop-done.done ≡ t0.scale.districts =
    omega (arith, c.loop-done.auto.done-end, c.loop-done-test.false, c.districts-districts.ensures.value, cap) in
    subst (λ m. AreDone t0 c.args.delivery.now t0.scale.districts m c.loop-done.transaction) all c.loop-done.invariant.done
