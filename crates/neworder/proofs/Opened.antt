-- Opening an order changes four records: its district's, its own two, and its buyer's LAST.
use Rattle.std.proofs.Common.{◌≡◌, ◌≢◌, ℕ, ◌+◌, ◌≤◌, min, Bool, true, false, ◌==◌, ◌&&◌, true≢false, Option, Some, None, List, [], ◌∷◌, refl, sym, ap, ◌∙◌}
use Rattle.std.proofs.Common.{arith}
use Rattle.std.proofs.lemmas.Bool.{eqb-true}
use Rattle.std.specs.Option.{ForSome, option_map, option_map_or, unwrap_or}
use Rattle.std.specs.FinMap.{get}
use Rattle.tables.specs.Keys.{is_district}
use Rattle.tables.specs.OrderNumbers.{least, greatest, numbers_in, next_order}
use Rattle.tables.specs.Database.{Database}
use Rattle.tables.specs.NewOrder.{home, buyer, new_key, numbered_district, order_row}
use Rattle.tables.specs.Conditions.{Condition2At}
use Rattle.tables.specs.WellFormed.{IsWellFormed}
use Rattle.tables.specs.Rows.{row_at, district_words, new_order_words, order_words, number_words, oldest, last}
use Rattle.tables.specs.declared.keys.DistrictKey.{DistrictKey}
use Rattle.tables.specs.declared.keys.CustomerKey.{CustomerKey}
use Rattle.tables.specs.declared.keys.OrderKey.{OrderKey}
use Rattle.tables.specs.declared.rows.District.{District}
use Rattle.tables.specs.declared.rows.Order.{Order}
use Rattle.tables.specs.declared.new_order.NewOrderInput.{NewOrderInput}
use Rattle.tables.specs.declared.records.RecordKey.{RecordKey}
use Rattle.tables.specs.declared.records.RecordKey.TheVariants as key
use Rattle.tables.proofs.Orders.{exact_district, exact_order}
use Rattle.tables.proofs.OrderNumbers.{greatest-each, greatest-within}
use Rattle.tables_laws.proofs.NewKey.{no_order, no_new_order}
use Rattle.tables_laws.proofs.OrderNumbers.{with_greater, with_lesser, greatest-insert, least-insert}
use Rattle.tables_laws.proofs.Updates.{kept-update_where}
use Rattle.readset.specs.Changes.{Says, Apart}
use Rattle.rows.specs.Columns.{district_columns}
use Rattle.readset.specs.Changes.{Changes}
use Rattle.rows.specs.Columns.{district_columns_words}
use Rattle.rows.specs.declared.columns.DistrictColumns.{DistrictColumns}
use Rattle.neworder.specs.Steps.{after_lines, numbered_columns}
use Rattle.tables_laws.proofs.Touched.{both, self, district_named, inserted, not_inserted, untouched, touched}

-- the least of numbers of which none is above n stays so with n
least_up_to : (ns : List ℕ) (n : ℕ) → ForSome (least ns) (λ _. greatest ns + 1 ≡ n) → unwrap_or (with_lesser true n (least ns)) n ≡ unwrap_or (least ns) n
least_up_to [] n next = refl
least_up_to (a ∷ ns) n next = let last : greatest (a ∷ ns) + 1 ≡ n = next _ refl in lesser (least ns) last
  where
    lesser : (o : Option ℕ) → greatest (a ∷ ns) + 1 ≡ n → min n (option_map_or (min a) o a) ≡ option_map_or (min a) o a
    lesser None h = omega (arith, h)
    lesser (Some b) h = omega (arith, h)

-- all that an order changes but for its lines
abbrev pub all_changes : NewOrderInput → OrderKey → DistrictColumns → Changes
all_changes x k district = (key.District (home x), Some (district_columns_words district)) ∷ (key.NewOrder k, Some (new_order_words (record {})))
    ∷ (key.Order k, Some (order_words (order_row x))) ∷ (key.Last (buyer x), Some (number_words k.order)) ∷ []

module _ (t : Database) (x : NewOrderInput) where
  -- the tests of a district's orders and of a customer's
  abbrev in_district : {X : Type 0} → DistrictKey → OrderKey × X → Bool
  in_district {X} k e = is_district e.0.warehouse e.0.district k

  abbrev of_customer : CustomerKey → OrderKey × Order → Bool
  of_customer k e = (e.0.warehouse == k.warehouse) && (e.0.district == k.district) && (e.1.customer == k.customer)

  -- the new order's customer is its buyer
  customer_named : (k : CustomerKey) → of_customer k (new_key t x, order_row x) ≡ true → k ≡ buyer x
  customer_named k h =
      let p = both ((x.warehouse == k.warehouse) && (x.district == k.district)) (x.customer == k.customer) h in
      let q = both (x.warehouse == k.warehouse) (x.district == k.district) p.0 in
      sym (λ i. record {
        warehouse = eqb-true x.warehouse k.warehouse q.0 i;
        district = eqb-true x.district k.district q.1 i;
        customer =
            eqb-true x.customer k.customer p.1 i;
      })

  buyer_passes : of_customer (buyer x) (new_key t x, order_row x) ≡ true
  buyer_passes i = (self x.warehouse i && self x.district i) && self x.customer i

  module _ (wf : IsWellFormed t) (second : Condition2At t (home x)) where
    -- LAST of a customer takes the new order where it is the customer's
    last_after : (k : CustomerKey) → last (after_lines t x [] []) k ≡ with_greater (of_customer k (new_key t x, order_row x)) (next_order t (home x)) (last t k)
    last_after k = greatest-insert (of_customer k) t.orders (new_key t x) (order_row x) (no_order t x wf second)

    -- the buyer's orders are of the home district, so below the new one
    last_before : last t (buyer x) + 1 ≤ next_order t (home x)
    last_before =
        let next : greatest (numbers_in (home x) t.orders) + 1 ≡ next_order t (home x) = second.0 in
        let within : last t (buyer x) ≤ greatest (numbers_in (home x) t.orders) =
        greatest-within (of_customer (buyer x)) (greatest (numbers_in (home x) t.orders)) t.orders
        (λ k r found passes. greatest-each (in_district (home x)) t.orders k r found (both _ _ passes).0) in
        omega arith

    last_buyer : last (after_lines t x [] []) (buyer x) ≡ next_order t (home x)
    last_buyer = last_after (buyer x) ∙ ap (λ b. with_greater b (next_order t (home x)) (last t (buyer x))) buyer_passes ∙ omega (arith, last_before)

    last_other : (k : CustomerKey) → k ≢ buyer x → last (after_lines t x [] []) k ≡ last t k
    last_other k other = last_after k
        ∙ elim (of_customer k (new_key t x, order_row x)) as
        (λ b. of_customer k (new_key t x, order_row x) ≡ b → with_greater b (next_order t (home x)) (last t k) ≡ last t k) [
          | true ↦ λ e. absurd (other (customer_named k e))
          | false ↦ λ e. refl
        ] refl

    -- OLDEST of each district stays
    oldest_kept : (k : DistrictKey) → oldest (after_lines t x [] []) k ≡ oldest t k
    oldest_kept k =
        ap (λ l. unwrap_or l (next_order (after_lines t x [] []) k))
        (least-insert (in_district k) t.new_orders (new_key t x) (record {}) (no_new_order t x wf second))
        ∙ elim (is_district x.warehouse x.district k) as (λ b. is_district x.warehouse x.district k ≡ b
        → unwrap_or (with_lesser b (next_order t (home x)) (least (numbers_in k t.new_orders))) (next_order (after_lines t x [] []) k) ≡ oldest t k) [
          | true ↦ λ e. ap (λ (j : DistrictKey). unwrap_or (with_lesser true (next_order t (home x)) (least (numbers_in j t.new_orders))) 0)
              (sym (district_named x.warehouse x.district k e))
              ∙ least_up_to (numbers_in (home x) t.new_orders) (next_order t (home x)) second.1
              ∙ ap (oldest t) (district_named x.warehouse x.district k e)
          | false ↦ λ e. ap (unwrap_or (least (numbers_in k t.new_orders)))
              (kept-update_where exact_district (is_district x.warehouse x.district) numbered_district
              (λ (w : Option District). option_map_or (λ r. r.next_order) w 0) t.districts k
              (λ h _. absurd (true≢false (sym h ∙ e))))
        ] refl

    -- the records that it changes
    pub opened : (r : District) → get t.districts (home x) ≡ Some r
        → Says (row_at (after_lines t x [] [])) (all_changes x (new_key t x) (numbered_columns (district_columns r)))
    opened r found = (
      touched exact_district district_words t.districts (is_district x.warehouse x.district) numbered_district (home x)
          (λ i. self x.warehouse i && self x.district i)
          ∙ ap (option_map (λ r. district_words (numbered_district r))) found,
      (
        inserted exact_order new_order_words t.new_orders (new_key t x) (record {}),
        (
          inserted exact_order order_words t.orders (new_key t x) (order_row x),
          (ap (λ n. Some (number_words n)) last_buyer, tt),
        ),
      ),
    )

    -- and each other record
    others : (j : RecordKey) → j ≢ key.District (home x) → j ≢ key.NewOrder (new_key t x) → j ≢ key.Order (new_key t x) → j ≢ key.Last (buyer x)
        → row_at (after_lines t x [] []) j ≡ row_at t j
    others (key.Warehouse w) a b c d = refl
    others (key.District k) a b c d = untouched exact_district district_words t.districts (is_district x.warehouse x.district) numbered_district k
        (λ h. a (ap key.District (sym (district_named x.warehouse x.district k h))))
    others (key.Customer k) a b c d = refl
    others (key.NewOrder k) a b c d = not_inserted exact_order new_order_words t.new_orders (new_key t x) (record {}) k (λ e. b (ap key.NewOrder e))
    others (key.Order k) a b c d = not_inserted exact_order order_words t.orders (new_key t x) (order_row x) k (λ e. c (ap key.Order e))
    others (key.OrderLine k) a b c d = refl
    others (key.Stock k) a b c d = refl
    others (key.Oldest k) a b c d = ap (λ n. Some (number_words n)) (oldest_kept k)
    others (key.Last k) a b c d = ap (λ n. Some (number_words n)) (last_other k (λ e. d (ap key.Last e)))
    others (key.CustomerData k) a b c d = refl

    pub opened_others : (r : District) (j : RecordKey) → Apart j (all_changes x (new_key t x) (numbered_columns (district_columns r)))
        → row_at (after_lines t x [] []) j ≡ row_at t j
    opened_others r j apart = others j apart.0 apart.1.0 apart.1.1.0 apart.1.1.1.0
