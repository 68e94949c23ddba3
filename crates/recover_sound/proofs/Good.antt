-- A report that finds nothing is one of consistent tables.
use Rattle.std.proofs.Common.{ℕ, Option, Some, None, IsSome, IsNone, true≢false, refl, sym, subst}
use Rattle.std.specs.Option.{ForSome}
use Rattle.std.specs.FinMap.{get}
use Rattle.std.specs.Ordering.{nat_cmp}
use Rattle.std.specs.declared.cmp.Ordering.{Ordering}
use Rattle.tables.specs.Conditions.{IsConsistent, Condition1At, Condition2At, Condition3At, Condition4At, Condition5At, Condition6At}
use Rattle.tables.specs.Conditions.{Condition7At, Condition8At, Condition9At, Condition10At, Condition12At}
use Rattle.tables.specs.Database.{Database}
use Rattle.tables.specs.Keys.{district_cmp, customer_cmp, order_cmp, line_cmp, IsWarehouseKey, IsDistrictKey, IsCustomerKey}
use Rattle.tables.specs.declared.keys.DistrictKey.{DistrictKey}
use Rattle.tables.specs.declared.keys.CustomerKey.{CustomerKey}
use Rattle.tables.specs.declared.keys.OrderKey.{OrderKey}
use Rattle.tables.specs.declared.keys.LineKey.{LineKey}
use Rattle.conditions.specs.Finds.{FindsLeast}
use Rattle.conditions.specs.Report.{IsReportOf, IsGood}
use Rattle.conditions.specs.declared.report.Report.{Report}

-- where nothing was found the condition holds at each key
holds_at : {K : Type 0} (R : K → K → Ordering) (IsKey HoldsAt : K → Type 0) (found : Option K)
    → FindsLeast R IsKey HoldsAt found → IsNone found → (k : K) → IsKey k → HoldsAt k
holds_at R IsKey HoldsAt None finds none = finds
holds_at R IsKey HoldsAt (Some k) finds none = absurd (true≢false none)

-- what holds of a row where there is one
of_row : {X : Type 0} (row : Option X) (P : X → Type 0) → (IsSome row → ForSome row P) → ForSome row P
of_row row P holds x is = holds (subst IsSome (sym is) refl) x is

module _ (t : Database) (r : Report) (finds : IsReportOf t r) (good : IsGood r) where
  abbrev IsOrder : OrderKey → Type 0
  IsOrder k = IsSome (get t.orders k)

  abbrev IsLine : LineKey → Type 0
  IsLine k = IsSome (get t.lines k)

  at_order_5 : (k : OrderKey) → IsOrder k → Condition5At t k
  at_order_5 = holds_at order_cmp IsOrder (Condition5At t) r.condition_5 finds.condition_5 good.4

  at_order_6 : (k : OrderKey) → IsOrder k → Condition6At t k
  at_order_6 = holds_at order_cmp IsOrder (Condition6At t) r.condition_6 finds.condition_6 good.5

  at_line_7 : (k : LineKey) → IsLine k → Condition7At t k
  at_line_7 = holds_at line_cmp IsLine (Condition7At t) r.condition_7 finds.condition_7 good.6

  abbrev IsWarehouse : ℕ → Type 0
  IsWarehouse = IsWarehouseKey t.scale

  abbrev IsDistrict : DistrictKey → Type 0
  IsDistrict = IsDistrictKey t.scale

  abbrev IsCustomer : CustomerKey → Type 0
  IsCustomer = IsCustomerKey t.scale

  pub good_is_consistent : IsConsistent t
  good_is_consistent = record {
    condition_1 = holds_at nat_cmp IsWarehouse (Condition1At t) r.condition_1 finds.condition_1 good.0;
    condition_2 = holds_at district_cmp IsDistrict (Condition2At t) r.condition_2 finds.condition_2 good.1;
    condition_3 = holds_at district_cmp IsDistrict (Condition3At t) r.condition_3 finds.condition_3 good.2;
    condition_4 = holds_at district_cmp IsDistrict (Condition4At t) r.condition_4 finds.condition_4 good.3;
    condition_5 = λ k. of_row (get t.orders k) _ (at_order_5 k);
    condition_6 = λ k. of_row (get t.orders k) _ (at_order_6 k);
    condition_7 = λ k. of_row (get t.lines k) _ (at_line_7 k);
    condition_8 = holds_at nat_cmp IsWarehouse (Condition8At t) r.condition_8 finds.condition_8 good.7;
    condition_9 = holds_at district_cmp IsDistrict (Condition9At t) r.condition_9 finds.condition_9 good.8;
    condition_10 = holds_at customer_cmp IsCustomer (Condition10At t) r.condition_10 finds.condition_10 good.9;
    condition_12 = holds_at customer_cmp IsCustomer (Condition12At t) r.condition_12 finds.condition_12 good.10;
  }
