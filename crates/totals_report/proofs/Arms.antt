-- What each kind of record leaves of what was found.
use Rattle.std.proofs.Common.{◌≡◌, ℕ, ◌+◌, ◌⊎◌, inl, inr, ◌↔◌, IsTrue, Bool, true≢false, Option, Some, None, is_some, List, refl, sym, ap, ◌∙◌}
use Rattle.std.specs.Option.{option_map, ForSome}
use Rattle.std.specs.FinMap.{FinMap, get}
use Rattle.std.specs.declared.cmp.Ordering.{Ordering}
use Rattle.tables.specs.Sizes.{Sizes}
use Rattle.tables.specs.Keys.{IsWarehouseKey, IsDistrictKey, IsCustomerKey, IsOrderKey, IsLineKey}
use Rattle.tables.specs.Maps.{RowsAt}
use Rattle.tables.specs.Records.{number_of_key, key_of, IsRecordKey}
use Rattle.tables.specs.Rows.{row_at}
use Rattle.tables.specs.Conditions.{Condition1At, Condition2At, Condition3At, Condition4At, Condition5At, Condition6At, Condition7At, Condition8At, Condition9At}
use Rattle.tables.specs.Conditions.{Condition10At, Condition12At}
use Rattle.tables.specs.WellFormed.{IsWellFormed}
use Rattle.tables.specs.Database.{Database}
use Rattle.tables.specs.declared.keys.DistrictKey.{DistrictKey}
use Rattle.tables.specs.declared.keys.CustomerKey.{CustomerKey}
use Rattle.tables.specs.declared.keys.OrderKey.{OrderKey}
use Rattle.tables.specs.declared.keys.LineKey.{LineKey}
use Rattle.tables.specs.declared.keys.StockKey.{StockKey}
use Rattle.tables.specs.declared.records.RecordKey.{RecordKey}
use Rattle.tables.specs.declared.records.RecordKey.TheVariants as key
use Rattle.tables.proofs.Numbers.{one_to_one}
use Rattle.conditions.specs.declared.report.Report.{Report}
use Rattle.tables_laws.proofs.Rows.{there}
use Rattle.totals_report.specs.Found.{first_noted, OfWarehouses, OfDistricts, OfCustomers, OfOrders, OfLines, IsFound}
use Rattle.totals_report.proofs.Steps.{skipped, stepped}

-- the key of a number
named : (s : Sizes) (n : ℕ) (j k : RecordKey) → IsRecordKey s j → number_of_key s j ≡ n → key_of s n ≡ k → j ≡ k
named s n j k is same at = sym ((one_to_one s).0 j is).1 ∙ ap (key_of s) same ∙ at

-- no row is there, or none can be
none_at : {K X : Type 0} {R : K → K → Ordering} (IsKey : K → Type 0) (m : FinMap R X) → RowsAt IsKey m → (words : X → List ℕ) → (k : K) → IsKey k
    → option_map words (get m k) ≡ None → ⊥
none_at IsKey m at words k is none = let r = there IsKey m at k is in true≢false (sym (ap is_some (ap (option_map words) r.1)) ∙ ap is_some none)

none_before : {X : Type 0} (words : X → List ℕ) (w : Option X) → option_map words w ≡ None → w ≡ None
none_before words None e = refl
none_before words (Some r) e = absurd (true≢false (ap is_some e))

nothing : {X : Type 0} (P : X → Type 0) {w : Option X} → w ≡ None → ForSome w P
nothing P none = λ x some. absurd (true≢false (ap is_some (sym some ∙ none)))

module _ (t : Database) (n : ℕ) where
  pub passed_warehouses : ((k : ℕ) → IsWarehouseKey t.scale k → number_of_key t.scale (key.Warehouse k) ≡ n → ⊥) → (found_1 found_8 : Option ℕ) → OfWarehouses t n found_1 found_8 → OfWarehouses t (n + 1) found_1 found_8
  passed_warehouses none found_1 found_8 found = record {
    condition_1 = skipped key.Warehouse t.scale (Condition1At t) n found_1 found.condition_1 (λ k is same. absurd (none k is same));
    condition_8 = skipped key.Warehouse t.scale (Condition8At t) n found_8 found.condition_8 (λ k is same. absurd (none k is same));
  }

  pub passed_districts : ((k : DistrictKey) → IsDistrictKey t.scale k → number_of_key t.scale (key.District k) ≡ n → ⊥) → (found_2 found_3 found_4 found_9 : Option DistrictKey) → OfDistricts t n found_2 found_3 found_4 found_9 → OfDistricts t (n + 1) found_2 found_3 found_4 found_9
  passed_districts none found_2 found_3 found_4 found_9 found = record {
    condition_2 = skipped key.District t.scale (Condition2At t) n found_2 found.condition_2 (λ k is same. absurd (none k is same));
    condition_3 = skipped key.District t.scale (Condition3At t) n found_3 found.condition_3 (λ k is same. absurd (none k is same));
    condition_4 = skipped key.District t.scale (Condition4At t) n found_4 found.condition_4 (λ k is same. absurd (none k is same));
    condition_9 = skipped key.District t.scale (Condition9At t) n found_9 found.condition_9 (λ k is same. absurd (none k is same));
  }

  pub passed_customers : ((k : CustomerKey) → IsCustomerKey t.scale k → number_of_key t.scale (key.Customer k) ≡ n → ⊥) → (found_10 found_12 : Option CustomerKey) → OfCustomers t n found_10 found_12 → OfCustomers t (n + 1) found_10 found_12
  passed_customers none found_10 found_12 found = record {
    condition_10 = skipped key.Customer t.scale (Condition10At t) n found_10 found.condition_10 (λ k is same. absurd (none k is same));
    condition_12 = skipped key.Customer t.scale (Condition12At t) n found_12 found.condition_12 (λ k is same. absurd (none k is same));
  }

  pub passed_orders : ((k : OrderKey) → IsOrderKey t.scale k → number_of_key t.scale (key.Order k) ≡ n → get t.orders k ≡ None) → (found_5 found_6 : Option OrderKey) → OfOrders t n found_5 found_6 → OfOrders t (n + 1) found_5 found_6
  passed_orders none found_5 found_6 found = record {
    condition_5 = skipped key.Order t.scale (Condition5At t) n found_5 found.condition_5 (λ k is same. nothing _ (none k is same));
    condition_6 = skipped key.Order t.scale (Condition6At t) n found_6 found.condition_6 (λ k is same. nothing _ (none k is same));
  }

  pub passed_lines : ((k : LineKey) → IsLineKey t.scale k → number_of_key t.scale (key.OrderLine k) ≡ n → get t.lines k ≡ None) → (found_7 : Option LineKey) → OfLines t n found_7 → OfLines t (n + 1) found_7
  passed_lines none found_7 found = record {
    condition_7 = skipped key.OrderLine t.scale (Condition7At t) n found_7 found.condition_7 (λ k is same. nothing _ (none k is same));
  }

-- a record that isn't there
pub passed_absent : (t : Database) → IsWellFormed t → (n : ℕ) (r : Report) → row_at t (key_of t.scale n) ≡ None → IsFound t n r → IsFound t (n + 1) r
passed_absent t wf n r absent found = record {
  warehouses = passed_warehouses t n (λ k is same. none_at (IsWarehouseKey t.scale) t.warehouses wf.warehouses _ k is (ap (row_at t) (named t.scale n (key.Warehouse k) _ is same refl) ∙ absent)) r.condition_1 r.condition_8 found.warehouses;
  districts = passed_districts t n (λ k is same. none_at (IsDistrictKey t.scale) t.districts wf.districts _ k is (ap (row_at t) (named t.scale n (key.District k) _ is same refl) ∙ absent)) r.condition_2 r.condition_3 r.condition_4 r.condition_9 found.districts;
  customers = passed_customers t n (λ k is same. none_at (IsCustomerKey t.scale) t.customers wf.customers _ k is (ap (row_at t) (named t.scale n (key.Customer k) _ is same refl) ∙ absent)) r.condition_10 r.condition_12 found.customers;
  orders = passed_orders t n (λ k is same. none_before _ (get t.orders k) (ap (row_at t) (named t.scale n (key.Order k) _ is same refl) ∙ absent)) r.condition_5 r.condition_6 found.orders;
  lines = passed_lines t n (λ k is same. none_before _ (get t.lines k) (ap (row_at t) (named t.scale n (key.OrderLine k) _ is same refl) ∙ absent)) r.condition_7 found.lines;
}

-- a record of none of the five tables
abbrev pub IsOther : RecordKey → Type 0
IsOther j = ((k : ℕ) → key.Warehouse k ≡ j → ⊥) × ((k : DistrictKey) → key.District k ≡ j → ⊥) × ((k : CustomerKey) → key.Customer k ≡ j → ⊥)
    × ((k : OrderKey) → key.Order k ≡ j → ⊥) × ((k : LineKey) → key.OrderLine k ≡ j → ⊥)

pub passed_other : (t : Database) (n : ℕ) (r : Report) (j : RecordKey) → key_of t.scale n ≡ j → IsOther j → IsFound t n r → IsFound t (n + 1) r
passed_other t n r j at other found = record {
  warehouses = passed_warehouses t n (λ k is same. other.0 k (named t.scale n (key.Warehouse k) j is same at)) r.condition_1 r.condition_8 found.warehouses;
  districts = passed_districts t n (λ k is same. other.1 k (named t.scale n (key.District k) j is same at)) r.condition_2 r.condition_3 r.condition_4 r.condition_9 found.districts;
  customers = passed_customers t n (λ k is same. other.2 k (named t.scale n (key.Customer k) j is same at)) r.condition_10 r.condition_12 found.customers;
  orders = passed_orders t n (λ k is same. absurd (other.3 k (named t.scale n (key.Order k) j is same at))) r.condition_5 r.condition_6 found.orders;
  lines = passed_lines t n (λ k is same. absurd (other.4 k (named t.scale n (key.OrderLine k) j is same at))) r.condition_7 found.lines;
}

pub are_other : (j : RecordKey) → ((k : OrderKey) × (j ≡ key.NewOrder k)) ⊎ (((k : StockKey) × (j ≡ key.Stock k)) ⊎ (((k : DistrictKey) × (j ≡ key.Oldest k))
    ⊎ (((k : CustomerKey) × (j ≡ key.Last k)) ⊎ ((k : CustomerKey) × (j ≡ key.CustomerData k)))))
    → IsOther j
are_other j (inl is) = ((λ k e. let f = e ∙ is.1 in absurd cc), (λ k e. let f = e ∙ is.1 in absurd cc), (λ k e. let f = e ∙ is.1 in absurd cc), (λ k e. let f = e ∙ is.1 in absurd cc), (λ k e. let f = e ∙ is.1 in absurd cc))
are_other j (inr (inl is)) = ((λ k e. let f = e ∙ is.1 in absurd cc), (λ k e. let f = e ∙ is.1 in absurd cc), (λ k e. let f = e ∙ is.1 in absurd cc), (λ k e. let f = e ∙ is.1 in absurd cc), (λ k e. let f = e ∙ is.1 in absurd cc))
are_other j (inr (inr (inl is))) = ((λ k e. let f = e ∙ is.1 in absurd cc), (λ k e. let f = e ∙ is.1 in absurd cc), (λ k e. let f = e ∙ is.1 in absurd cc), (λ k e. let f = e ∙ is.1 in absurd cc), (λ k e. let f = e ∙ is.1 in absurd cc))
are_other j (inr (inr (inr (inl is)))) = ((λ k e. let f = e ∙ is.1 in absurd cc), (λ k e. let f = e ∙ is.1 in absurd cc), (λ k e. let f = e ∙ is.1 in absurd cc), (λ k e. let f = e ∙ is.1 in absurd cc), (λ k e. let f = e ∙ is.1 in absurd cc))
are_other j (inr (inr (inr (inr is)))) = ((λ k e. let f = e ∙ is.1 in absurd cc), (λ k e. let f = e ∙ is.1 in absurd cc), (λ k e. let f = e ∙ is.1 in absurd cc), (λ k e. let f = e ∙ is.1 in absurd cc), (λ k e. let f = e ∙ is.1 in absurd cc))

-- a record that was asked
pub asked_warehouse : (t : Database) (k : ℕ) → IsWarehouseKey t.scale k → (r : Report) (b1 b8 : Bool) → IsTrue b1 ↔ Condition1At t k → IsTrue b8 ↔ Condition8At t k
    → IsFound t (number_of_key t.scale (key.Warehouse k)) r
    → IsFound t (number_of_key t.scale (key.Warehouse k) + 1) (record r { condition_1 = first_noted r.condition_1 k b1; condition_8 = first_noted r.condition_8 k b8 })
asked_warehouse t k is r b1 b8 says1 says8 found =
    let n = number_of_key t.scale (key.Warehouse k) in
    let at : key_of t.scale n ≡ key.Warehouse k = ((one_to_one t.scale).0 (key.Warehouse k) is).1 in
    record {
      warehouses = record {
        condition_1 = stepped key.Warehouse t.scale (Condition1At t) one k is b1 says1 r.condition_1 found.warehouses.condition_1;
        condition_8 = stepped key.Warehouse t.scale (Condition8At t) one k is b8 says8 r.condition_8 found.warehouses.condition_8;
      };
      districts = passed_districts t n (λ j at_j same. absurd (apart_district j (named t.scale n (key.District j) (key.Warehouse k) at_j same at))) r.condition_2 r.condition_3 r.condition_4 r.condition_9 found.districts;
      customers = passed_customers t n (λ j at_j same. absurd (apart_customer j (named t.scale n (key.Customer j) (key.Warehouse k) at_j same at))) r.condition_10 r.condition_12 found.customers;
      orders = passed_orders t n (λ j at_j same. absurd (apart_order j (named t.scale n (key.Order j) (key.Warehouse k) at_j same at))) r.condition_5 r.condition_6 found.orders;
      lines = passed_lines t n (λ j at_j same. absurd (apart_line j (named t.scale n (key.OrderLine j) (key.Warehouse k) at_j same at))) r.condition_7 found.lines;
    }
  where
    one : (i j : ℕ) → key.Warehouse i ≡ key.Warehouse j → i ≡ j
    one i j e = cc

    apart_district : (j : DistrictKey) → key.District j ≡ key.Warehouse k → ⊥
    apart_district j e = cc

    apart_customer : (j : CustomerKey) → key.Customer j ≡ key.Warehouse k → ⊥
    apart_customer j e = cc

    apart_order : (j : OrderKey) → key.Order j ≡ key.Warehouse k → ⊥
    apart_order j e = cc

    apart_line : (j : LineKey) → key.OrderLine j ≡ key.Warehouse k → ⊥
    apart_line j e = cc

pub asked_district : (t : Database) (k : DistrictKey) → IsDistrictKey t.scale k → (r : Report) (b2 b3 b4 b9 : Bool) → IsTrue b2 ↔ Condition2At t k → IsTrue b3 ↔ Condition3At t k → IsTrue b4 ↔ Condition4At t k → IsTrue b9 ↔ Condition9At t k
    → IsFound t (number_of_key t.scale (key.District k)) r
    → IsFound t (number_of_key t.scale (key.District k) + 1) (record r { condition_2 = first_noted r.condition_2 k b2; condition_3 = first_noted r.condition_3 k b3; condition_4 = first_noted r.condition_4 k b4; condition_9 = first_noted r.condition_9 k b9 })
asked_district t k is r b2 b3 b4 b9 says2 says3 says4 says9 found =
    let n = number_of_key t.scale (key.District k) in
    let at : key_of t.scale n ≡ key.District k = ((one_to_one t.scale).0 (key.District k) is).1 in
    record {
      warehouses = passed_warehouses t n (λ j at_j same. absurd (apart_warehouse j (named t.scale n (key.Warehouse j) (key.District k) at_j same at))) r.condition_1 r.condition_8 found.warehouses;
      districts = record {
        condition_2 = stepped key.District t.scale (Condition2At t) one k is b2 says2 r.condition_2 found.districts.condition_2;
        condition_3 = stepped key.District t.scale (Condition3At t) one k is b3 says3 r.condition_3 found.districts.condition_3;
        condition_4 = stepped key.District t.scale (Condition4At t) one k is b4 says4 r.condition_4 found.districts.condition_4;
        condition_9 = stepped key.District t.scale (Condition9At t) one k is b9 says9 r.condition_9 found.districts.condition_9;
      };
      customers = passed_customers t n (λ j at_j same. absurd (apart_customer j (named t.scale n (key.Customer j) (key.District k) at_j same at))) r.condition_10 r.condition_12 found.customers;
      orders = passed_orders t n (λ j at_j same. absurd (apart_order j (named t.scale n (key.Order j) (key.District k) at_j same at))) r.condition_5 r.condition_6 found.orders;
      lines = passed_lines t n (λ j at_j same. absurd (apart_line j (named t.scale n (key.OrderLine j) (key.District k) at_j same at))) r.condition_7 found.lines;
    }
  where
    one : (i j : DistrictKey) → key.District i ≡ key.District j → i ≡ j
    one i j e = cc

    apart_warehouse : (j : ℕ) → key.Warehouse j ≡ key.District k → ⊥
    apart_warehouse j e = cc

    apart_customer : (j : CustomerKey) → key.Customer j ≡ key.District k → ⊥
    apart_customer j e = cc

    apart_order : (j : OrderKey) → key.Order j ≡ key.District k → ⊥
    apart_order j e = cc

    apart_line : (j : LineKey) → key.OrderLine j ≡ key.District k → ⊥
    apart_line j e = cc

pub asked_customer : (t : Database) (k : CustomerKey) → IsCustomerKey t.scale k → (r : Report) (b10 b12 : Bool) → IsTrue b10 ↔ Condition10At t k → IsTrue b12 ↔ Condition12At t k
    → IsFound t (number_of_key t.scale (key.Customer k)) r
    → IsFound t (number_of_key t.scale (key.Customer k) + 1) (record r { condition_10 = first_noted r.condition_10 k b10; condition_12 = first_noted r.condition_12 k b12 })
asked_customer t k is r b10 b12 says10 says12 found =
    let n = number_of_key t.scale (key.Customer k) in
    let at : key_of t.scale n ≡ key.Customer k = ((one_to_one t.scale).0 (key.Customer k) is).1 in
    record {
      warehouses = passed_warehouses t n (λ j at_j same. absurd (apart_warehouse j (named t.scale n (key.Warehouse j) (key.Customer k) at_j same at))) r.condition_1 r.condition_8 found.warehouses;
      districts = passed_districts t n (λ j at_j same. absurd (apart_district j (named t.scale n (key.District j) (key.Customer k) at_j same at))) r.condition_2 r.condition_3 r.condition_4 r.condition_9 found.districts;
      customers = record {
        condition_10 = stepped key.Customer t.scale (Condition10At t) one k is b10 says10 r.condition_10 found.customers.condition_10;
        condition_12 = stepped key.Customer t.scale (Condition12At t) one k is b12 says12 r.condition_12 found.customers.condition_12;
      };
      orders = passed_orders t n (λ j at_j same. absurd (apart_order j (named t.scale n (key.Order j) (key.Customer k) at_j same at))) r.condition_5 r.condition_6 found.orders;
      lines = passed_lines t n (λ j at_j same. absurd (apart_line j (named t.scale n (key.OrderLine j) (key.Customer k) at_j same at))) r.condition_7 found.lines;
    }
  where
    one : (i j : CustomerKey) → key.Customer i ≡ key.Customer j → i ≡ j
    one i j e = cc

    apart_warehouse : (j : ℕ) → key.Warehouse j ≡ key.Customer k → ⊥
    apart_warehouse j e = cc

    apart_district : (j : DistrictKey) → key.District j ≡ key.Customer k → ⊥
    apart_district j e = cc

    apart_order : (j : OrderKey) → key.Order j ≡ key.Customer k → ⊥
    apart_order j e = cc

    apart_line : (j : LineKey) → key.OrderLine j ≡ key.Customer k → ⊥
    apart_line j e = cc

pub asked_order : (t : Database) (k : OrderKey) → IsOrderKey t.scale k → (r : Report) (b5 b6 : Bool) → IsTrue b5 ↔ Condition5At t k → IsTrue b6 ↔ Condition6At t k
    → IsFound t (number_of_key t.scale (key.Order k)) r
    → IsFound t (number_of_key t.scale (key.Order k) + 1) (record r { condition_5 = first_noted r.condition_5 k b5; condition_6 = first_noted r.condition_6 k b6 })
asked_order t k is r b5 b6 says5 says6 found =
    let n = number_of_key t.scale (key.Order k) in
    let at : key_of t.scale n ≡ key.Order k = ((one_to_one t.scale).0 (key.Order k) is).1 in
    record {
      warehouses = passed_warehouses t n (λ j at_j same. absurd (apart_warehouse j (named t.scale n (key.Warehouse j) (key.Order k) at_j same at))) r.condition_1 r.condition_8 found.warehouses;
      districts = passed_districts t n (λ j at_j same. absurd (apart_district j (named t.scale n (key.District j) (key.Order k) at_j same at))) r.condition_2 r.condition_3 r.condition_4 r.condition_9 found.districts;
      customers = passed_customers t n (λ j at_j same. absurd (apart_customer j (named t.scale n (key.Customer j) (key.Order k) at_j same at))) r.condition_10 r.condition_12 found.customers;
      orders = record {
        condition_5 = stepped key.Order t.scale (Condition5At t) one k is b5 says5 r.condition_5 found.orders.condition_5;
        condition_6 = stepped key.Order t.scale (Condition6At t) one k is b6 says6 r.condition_6 found.orders.condition_6;
      };
      lines = passed_lines t n (λ j at_j same. absurd (apart_line j (named t.scale n (key.OrderLine j) (key.Order k) at_j same at))) r.condition_7 found.lines;
    }
  where
    one : (i j : OrderKey) → key.Order i ≡ key.Order j → i ≡ j
    one i j e = cc

    apart_warehouse : (j : ℕ) → key.Warehouse j ≡ key.Order k → ⊥
    apart_warehouse j e = cc

    apart_district : (j : DistrictKey) → key.District j ≡ key.Order k → ⊥
    apart_district j e = cc

    apart_customer : (j : CustomerKey) → key.Customer j ≡ key.Order k → ⊥
    apart_customer j e = cc

    apart_line : (j : LineKey) → key.OrderLine j ≡ key.Order k → ⊥
    apart_line j e = cc

pub asked_line : (t : Database) (k : LineKey) → IsLineKey t.scale k → (r : Report) (b7 : Bool) → IsTrue b7 ↔ Condition7At t k
    → IsFound t (number_of_key t.scale (key.OrderLine k)) r
    → IsFound t (number_of_key t.scale (key.OrderLine k) + 1) (record r { condition_7 = first_noted r.condition_7 k b7 })
asked_line t k is r b7 says7 found =
    let n = number_of_key t.scale (key.OrderLine k) in
    let at : key_of t.scale n ≡ key.OrderLine k = ((one_to_one t.scale).0 (key.OrderLine k) is).1 in
    record {
      warehouses = passed_warehouses t n (λ j at_j same. absurd (apart_warehouse j (named t.scale n (key.Warehouse j) (key.OrderLine k) at_j same at))) r.condition_1 r.condition_8 found.warehouses;
      districts = passed_districts t n (λ j at_j same. absurd (apart_district j (named t.scale n (key.District j) (key.OrderLine k) at_j same at))) r.condition_2 r.condition_3 r.condition_4 r.condition_9 found.districts;
      customers = passed_customers t n (λ j at_j same. absurd (apart_customer j (named t.scale n (key.Customer j) (key.OrderLine k) at_j same at))) r.condition_10 r.condition_12 found.customers;
      orders = passed_orders t n (λ j at_j same. absurd (apart_order j (named t.scale n (key.Order j) (key.OrderLine k) at_j same at))) r.condition_5 r.condition_6 found.orders;
      lines = record {
        condition_7 = stepped key.OrderLine t.scale (Condition7At t) one k is b7 says7 r.condition_7 found.lines.condition_7;
      };
    }
  where
    one : (i j : LineKey) → key.OrderLine i ≡ key.OrderLine j → i ≡ j
    one i j e = cc

    apart_warehouse : (j : ℕ) → key.Warehouse j ≡ key.OrderLine k → ⊥
    apart_warehouse j e = cc

    apart_district : (j : DistrictKey) → key.District j ≡ key.OrderLine k → ⊥
    apart_district j e = cc

    apart_customer : (j : CustomerKey) → key.Customer j ≡ key.OrderLine k → ⊥
    apart_customer j e = cc

    apart_order : (j : OrderKey) → key.Order j ≡ key.OrderLine k → ⊥
    apart_order j e = cc
