use Rattle.std.proofs.Common.{rules, ◌≡◌, Some, IsSome, subst}
use Rattle.std.specs.Option.{option_map}
use Rattle.std.specs.FinMap.{get}
use Rattle.tables.specs.Records.{number_of_key}
use Rattle.tables.specs.declared.keys.DistrictKey.{DistrictKey}
use Rattle.tables.specs.declared.records.RecordKey.TheVariants as key
use Rattle.rows.specs.Columns.{district_columns, district_columns_words}
use Rattle.readset.specs.Reads.{held, IsReadAs}
use Rattle.readset.specs.Transaction.{AtAll}
use Rattle.neworder.specs.Opening.{IsOrderRefusal}
use Rattle.neworder.proofs.Begun.{home_taken}
use Rattle.neworder.proofs.Refusals.{none_taken}
use Rattle.neworder.proofs.opening.read_home.Goals as goal

pub returns-clause-taken : goal.returns-clause-taken
returns-clause-taken g c =
    let t0 = g.K.Start.tables in
    let last = c.read_present.new.transaction in
    home_taken t0 c.args.order.now c.in_ok-district.district c.requires.input last
    (subst (λ (k : DistrictKey). AtAll t0 last (λ t. option_map district_columns (get t.districts k) ≡ Some c.in_ok-district.district)) c.home.ensures
    c.in_ok-district.ensures.row)
    (subst (λ (k : DistrictKey). IsSome (held last.reads (number_of_key t0.scale (key.District k)))) c.home.ensures c.in_ok-district.ensures.holds)

pub returns-in_err-district-clause-refused : goal.returns-in_err-district-clause-refused
returns-in_err-district-clause-refused g c =
    let t0 = g.K.Start.tables in
    let x = c.args.order.now in
    let last = c.read_present.new.transaction in
    let why : IsOrderRefusal t0 x last c.in_err-district.field-0.0 =
    none_taken t0 x last c.in_err-district.field-0.0 c.in_err-district.ensures.row (λ stale columns are.
    subst (λ (k : DistrictKey). ¬ IsReadAs last.reads (number_of_key t0.scale (key.District k)) (Some (district_columns_words columns))) c.home.ensures
    (c.in_err-district.ensures.stale (search (rules, stale)) columns are)) in
    search (rules, why)
