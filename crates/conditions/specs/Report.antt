-- What a report tells of tables, and when it finds nothing.
use Rattle.std.specs.Prelude.{IsNone, IsSome}
use Rattle.std.specs.Ordering.{nat_cmp}
use Rattle.std.specs.FinMap.{get}
use Rattle.tables.specs.Keys.{district_cmp, customer_cmp, order_cmp, line_cmp, IsWarehouseKey, IsDistrictKey}
use Rattle.tables.specs.Keys.{IsCustomerKey}
use Rattle.tables.specs.Database.{Database}
use Rattle.tables.specs.Conditions.{Condition1At, Condition2At, Condition3At, Condition4At, Condition5At, Condition6At}
use Rattle.tables.specs.Conditions.{Condition7At, Condition8At, Condition9At, Condition10At, Condition12At}
use Rattle.conditions.specs.Finds.{FindsLeast}
use Rattle.conditions.specs.declared.report.Report.{Report}

-- the report finds what there is to find for each condition (TPC-C 3.3.2): 5 and 6 ask the ORDER rows, 7 the ORDER-LINE
-- rows, the others the keys of the scale
pub record IsReportOf (t : Database) (r : Report) : Type 0 where
  pub condition_1 : FindsLeast nat_cmp (IsWarehouseKey t.scale) (Condition1At t) r.condition_1
  pub condition_2 : FindsLeast district_cmp (IsDistrictKey t.scale) (Condition2At t) r.condition_2
  pub condition_3 : FindsLeast district_cmp (IsDistrictKey t.scale) (Condition3At t) r.condition_3
  pub condition_4 : FindsLeast district_cmp (IsDistrictKey t.scale) (Condition4At t) r.condition_4
  pub condition_5 : FindsLeast order_cmp (λ k. IsSome (get t.orders k)) (Condition5At t) r.condition_5
  pub condition_6 : FindsLeast order_cmp (λ k. IsSome (get t.orders k)) (Condition6At t) r.condition_6
  pub condition_7 : FindsLeast line_cmp (λ k. IsSome (get t.lines k)) (Condition7At t) r.condition_7
  pub condition_8 : FindsLeast nat_cmp (IsWarehouseKey t.scale) (Condition8At t) r.condition_8
  pub condition_9 : FindsLeast district_cmp (IsDistrictKey t.scale) (Condition9At t) r.condition_9
  pub condition_10 : FindsLeast customer_cmp (IsCustomerKey t.scale) (Condition10At t) r.condition_10
  pub condition_12 : FindsLeast customer_cmp (IsCustomerKey t.scale) (Condition12At t) r.condition_12

-- nothing was found
abbrev pub IsGood : Report → Type 0
IsGood r =
    IsNone r.condition_1 × IsNone r.condition_2 × IsNone r.condition_3 × IsNone r.condition_4 × IsNone r.condition_5
    × IsNone r.condition_6 × IsNone r.condition_7
    × IsNone r.condition_8 × IsNone r.condition_9 × IsNone r.condition_10 × IsNone r.condition_12
