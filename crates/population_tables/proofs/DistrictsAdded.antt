-- The rows of some districts, and then those of others; and so of warehouses.
use Rattle.std.proofs.Common.{◌≡◌, ℕ, ◌+◌, ◌-◌, ◌≤◌, Bool, true, false, true≢false, ◌&&◌, ◌||◌, List, ◌++◌, refl, sym, ap, ◌∙◌, append_assoc, arith}
use Rattle.std.specs.List.{flat_map}
use Rattle.std.proofs.lemmas.Bool.Decides.{nat_tests}
use Rattle.tables.specs.Sizes.{Sizes}
use Rattle.tables.specs.Database.{Database}
use Rattle.tables.specs.declared.rows.History.{History}
use Rattle.population_tables.specs.Plain.{delivered_orders, numbers, district_payments, warehouse_payments}
use Rattle.population_tables.specs.First.{Kind}
use Rattle.population_tables.specs.Adds.{is, is_in, is_number, is_at, is_below, is_of, is_before, AddsDistricts, AddsWarehouses, KeepsOtherTables}
use Rattle.population_tables.proofs.Added.{is_in_more, left, right, left_none, adds_both}
use Rattle.population_tables.proofs.OrdersAdded.{orders_both}
use Rattle.population_tables.proofs.Lists.{flat_rows_more}

-- tests that no number passes both
apart_row : (x y u : Bool) → (x ≡ true → y ≡ false) → (x && u) ≡ true → (y && u) ≡ false
apart_row true y u apart e = left_none y u (apart refl)
apart_row false true true apart e = absurd (true≢false (sym e))
apart_row false true false apart e = refl
apart_row false false u apart e = refl

pub others_both : {old middle new : Database} → KeepsOtherTables old middle → KeepsOtherTables middle new → KeepsOtherTables old new
others_both first later = record {
  warehouses = later.warehouses ∙ first.warehouses;
  items = later.items ∙ first.items;
  stock = later.stock ∙ first.stock;
}

module _ {kind : Kind} {s : Sizes} where
  pub districts_both : {p q both : ℕ → ℕ → Bool} {first_rows later_rows : List History} (rows : List History) {old middle new : Database}
      → ((w d : ℕ) → both w d ≡ (p w d || q w d)) → ((w d : ℕ) → q w d ≡ true → p w d ≡ false) → rows ≡ first_rows ++ later_rows
      → AddsDistricts kind s p first_rows old middle → AddsDistricts kind s q later_rows middle new → AddsDistricts kind s both rows old new
  districts_both {p} {q} {both} {first_rows} {later_rows} rows {old} {middle} {new} is_both apart joined first later = record {
    scale = later.scale ∙ first.scale;
    keeps_texts = later.keeps_texts ∙ first.keeps_texts;
    districts = adds_both (λ k. is_both k.warehouse k.district) first.districts later.districts;
    customers = adds_both (λ k. left _ _ (is_number s.customers k.customer) _ (is_both k.warehouse k.district)) first.customers later.customers;
    texts = adds_both (λ k. left _ _ (is_number s.customers k.customer) _ (is_both k.warehouse k.district)) first.texts later.texts;
    history = later.history ∙ ap (λ xs. xs ++ later_rows) first.history ∙ append_assoc old.history first_rows later_rows
        ∙ ap (λ xs. old.history ++ xs) (sym joined);
    new_orders = adds_both (λ k. left _ _ (is_in (delivered_orders s + 1) (s.customers + 1) k.order) _ (is_both k.warehouse k.district)) first.new_orders
        later.new_orders;
    orders = orders_both (λ k. left _ _ (is_number s.customers k.order) _ (is_both k.warehouse k.district))
        (λ k. apart_row _ _ (is_number s.customers k.order) (apart k.warehouse k.district)) first.orders later.orders;
  }

  -- a warehouse's next district
  pub district_more : (w i j last : ℕ) {old middle new : Database} → 1 ≤ i → j ≡ i + 1 → last ≡ i
      → AddsDistricts kind s (is_below w i) (flat_map (λ d. district_payments s w d) (numbers (i - 1))) old middle
      → AddsDistricts kind s (is_at w i) (district_payments s w i) middle new
      → AddsDistricts kind s (is_below w j) (flat_map (λ d. district_payments s w d) (numbers last)) old new
  district_more w i j last from next same first later =
      districts_both _ (λ x k. right (is w x) _ _ _ (is_in_more 1 i j k from next)) (λ x k. apart_last (is w x) i k)
      (flat_rows_more (λ d. district_payments s w d) i last from same) first later
    where
      apart_last : (x : Bool) (n k : ℕ) → (x && is n k) ≡ true → (x && is_in 1 n k) ≡ false
      apart_last true n k e = grind (arith, nat_tests)
      apart_last false n k e = refl

  -- the next warehouse
  pub warehouse_more : (i j last : ℕ) {old middle new : Database} → 1 ≤ i → j ≡ i + 1 → last ≡ i
      → AddsWarehouses kind s (is_in 1 i) (is_before s i) (flat_map (λ w. warehouse_payments s w) (numbers (i - 1))) old middle
      → AddsWarehouses kind s (is i) (is_of s i) (warehouse_payments s i) middle new
      → AddsWarehouses kind s (is_in 1 j) (is_before s j) (flat_map (λ w. warehouse_payments s w) (numbers last)) old new
  warehouse_more i j last from next same first later = record {
    warehouses = adds_both (λ w. is_in_more 1 i j w from next) first.warehouses later.warehouses;
    stock = adds_both (λ k. left _ _ (is_number s.items k.item) _ (is_in_more 1 i j k.warehouse from next)) first.stock later.stock;
    districts = districts_both _ (λ x k. left _ _ (is_number s.districts k) _ (is_in_more 1 i j x from next))
        (λ x k. apart_row _ _ (is_number s.districts k) (λ e. apart_first x e)) (flat_rows_more (λ w. warehouse_payments s w) i last from same)
        first.districts later.districts;
    items = later.items ∙ first.items;
  }
    where
      apart_first : (x : ℕ) → is i x ≡ true → is_in 1 i x ≡ false
      apart_first x e = grind (arith, nat_tests)
