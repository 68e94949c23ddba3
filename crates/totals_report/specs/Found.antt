-- What was found when the records below a number were asked. No public clause cites it.
use Rattle.std.specs.Prelude.{ℕ, ◌<◌, Bool, true, false, Option, Some, None}
use Rattle.tables.specs.Sizes.{Sizes}
use Rattle.tables.specs.Records.{number_of_key, IsRecordKey}
use Rattle.tables.specs.Conditions.{Condition1At, Condition2At, Condition3At, Condition4At, Condition5At, Condition6At}
use Rattle.tables.specs.Conditions.{Condition7At, Condition8At, Condition9At, Condition10At, Condition12At}
use Rattle.tables.specs.Database.{Database}
use Rattle.tables.specs.declared.keys.DistrictKey.{DistrictKey}
use Rattle.tables.specs.declared.keys.CustomerKey.{CustomerKey}
use Rattle.tables.specs.declared.keys.OrderKey.{OrderKey}
use Rattle.tables.specs.declared.keys.LineKey.{LineKey}
use Rattle.tables.specs.declared.records.RecordKey.{RecordKey}
use Rattle.tables.specs.declared.records.RecordKey.TheVariants as key
use Rattle.conditions.specs.declared.report.Report.{Report}

-- a key that breaks a condition is noted where none was
abbrev pub first_noted : {K : Type 0} → Option K → K → Bool → Option K
first_noted None k true = None
first_noted None k false = Some k
first_noted (Some j) k holds = Some j

-- nothing, where the condition holds at each key whose record is below a number, else the key of the least record at
-- which it is broken
abbrev pub IsLeastBroken : {K : Type 0} → (K → RecordKey) → Sizes → (K → Type 0) → ℕ → Option K → Type 0
IsLeastBroken c s HoldsAt n None = (k : _) → IsRecordKey s (c k) → number_of_key s (c k) < n → HoldsAt k
IsLeastBroken c s HoldsAt n (Some k) = IsRecordKey s (c k) × (HoldsAt k → ⊥)
    × ((j : _) → IsRecordKey s (c j) → number_of_key s (c j) < number_of_key s (c k) → HoldsAt j)

-- the same of each table's conditions
pub record OfWarehouses (t : Database) (n : ℕ) (found_1 found_8 : Option ℕ) : Type 0 where
  pub condition_1 : IsLeastBroken key.Warehouse t.scale (Condition1At t) n found_1
  pub condition_8 : IsLeastBroken key.Warehouse t.scale (Condition8At t) n found_8

pub record OfDistricts (t : Database) (n : ℕ) (found_2 found_3 found_4 found_9 : Option DistrictKey) : Type 0 where
  pub condition_2 : IsLeastBroken key.District t.scale (Condition2At t) n found_2
  pub condition_3 : IsLeastBroken key.District t.scale (Condition3At t) n found_3
  pub condition_4 : IsLeastBroken key.District t.scale (Condition4At t) n found_4
  pub condition_9 : IsLeastBroken key.District t.scale (Condition9At t) n found_9

pub record OfCustomers (t : Database) (n : ℕ) (found_10 found_12 : Option CustomerKey) : Type 0 where
  pub condition_10 : IsLeastBroken key.Customer t.scale (Condition10At t) n found_10
  pub condition_12 : IsLeastBroken key.Customer t.scale (Condition12At t) n found_12

pub record OfOrders (t : Database) (n : ℕ) (found_5 found_6 : Option OrderKey) : Type 0 where
  pub condition_5 : IsLeastBroken key.Order t.scale (Condition5At t) n found_5
  pub condition_6 : IsLeastBroken key.Order t.scale (Condition6At t) n found_6

pub record OfLines (t : Database) (n : ℕ) (found_7 : Option LineKey) : Type 0 where
  pub condition_7 : IsLeastBroken key.OrderLine t.scale (Condition7At t) n found_7

-- what a report has, once the records below a number were asked
pub record IsFound (t : Database) (n : ℕ) (r : Report) : Type 0 where
  pub warehouses : OfWarehouses t n r.condition_1 r.condition_8
  pub districts : OfDistricts t n r.condition_2 r.condition_3 r.condition_4 r.condition_9
  pub customers : OfCustomers t n r.condition_10 r.condition_12
  pub orders : OfOrders t n r.condition_5 r.condition_6
  pub lines : OfLines t n r.condition_7
