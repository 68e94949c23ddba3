use Rattle.std.specs.Ordering.{nat_cmp}
use Rattle.std.proofs.Common.{IsSome}
use Rattle.std.specs.FinMap.{get}
use Rattle.tables.specs.Keys.{district_cmp, customer_cmp, order_cmp, line_cmp}
use Rattle.tables.specs.Keys.{IsWarehouseKey, IsDistrictKey, IsCustomerKey}
use Rattle.tables.specs.Database.{database}
use Rattle.tables.specs.Conditions.{Condition1At, Condition2At, Condition3At, Condition4At, Condition5At, Condition6At}
use Rattle.tables.specs.Conditions.{Condition7At, Condition8At, Condition9At, Condition10At, Condition12At}
use Rattle.conditions.proofs.Searched.{finds_none}
use Rattle.conditions.proofs.checks.check.Goals as goal

pub returns-clause-ok : goal.returns-clause-ok
returns-clause-ok c = record {
  condition_1 = c.least_warehouse.ensures;
  condition_2 = c.least_district.ensures;
  condition_3 = c.least_district-2.ensures;
  condition_4 = c.least_district-3.ensures;
  condition_5 = c.least.ensures;
  condition_6 = c.least-2.ensures;
  condition_7 = c.least-3.ensures;
  condition_8 = c.least_warehouse-2.ensures;
  condition_9 = c.least_district-4.ensures;
  condition_10 = c.least_customer.ensures;
  condition_12 = c.least_customer-2.ensures;
}

pub returns-clause-good : goal.returns-clause-good
returns-clause-good c = λ holds.
    let t = database c.args.tables.now in (
      finds_none nat_cmp (IsWarehouseKey t.scale) (Condition1At t) _ c.least_warehouse.ensures holds.condition_1,
      finds_none district_cmp (IsDistrictKey t.scale) (Condition2At t) _ c.least_district.ensures holds.condition_2,
      finds_none district_cmp (IsDistrictKey t.scale) (Condition3At t) _ c.least_district-2.ensures holds.condition_3,
      finds_none district_cmp (IsDistrictKey t.scale) (Condition4At t) _ c.least_district-3.ensures holds.condition_4,
      finds_none order_cmp (λ k. IsSome (get t.orders k)) (Condition5At t) _ c.least.ensures
          (λ k row. holds.condition_5 k),
      finds_none order_cmp (λ k. IsSome (get t.orders k)) (Condition6At t) _ c.least-2.ensures
          (λ k row. holds.condition_6 k),
      finds_none line_cmp (λ k. IsSome (get t.lines k)) (Condition7At t) _ c.least-3.ensures
          (λ k row. holds.condition_7 k),
      finds_none nat_cmp (IsWarehouseKey t.scale) (Condition8At t) _ c.least_warehouse-2.ensures holds.condition_8,
      finds_none district_cmp (IsDistrictKey t.scale) (Condition9At t) _ c.least_district-4.ensures holds.condition_9,
      finds_none customer_cmp (IsCustomerKey t.scale) (Condition10At t) _ c.least_customer.ensures holds.condition_10,
      finds_none customer_cmp (IsCustomerKey t.scale) (Condition12At t) _ c.least_customer-2.ensures holds.condition_12,
    )
