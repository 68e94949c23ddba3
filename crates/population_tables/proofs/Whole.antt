-- From what was added to empty tables to the tables of a population.
use Rattle.std.proofs.Common.{◌≡◌, ℕ, ◌+◌, Bool, true, false, true≢false, ◌&&◌, ◌++◌, Option, Some, None, IsSome, refl, sym, ap, ◌∙◌, subst, arith}
use Rattle.std.specs.FinMap.{FinMap, get, get-empty, empty}
use Rattle.std.specs.declared.cmp.Ordering.{Ordering}
use Rattle.std.proofs.lemmas.Bool.{and_parts, and_from}
use Rattle.std.proofs.lemmas.Bool.Decides.{nat_tests}
use Rattle.tables.specs.Sizes.{Sizes, IsBetween}
use Rattle.tables.specs.Keys.{IsWarehouseKey, IsDistrictKey, IsCustomerKey, IsItemKey, IsStockKey}
use Rattle.tables.specs.Database.{Database, empty_database}
use Rattle.population_tables.specs.Plain.{IsPlainOrderKey, IsPlainNewOrderKey, plain_history}
use Rattle.population_tables.specs.First.{Kind, HasRowsAt, AreFirstTables, IsFirstLineKey}
use Rattle.population_tables.specs.Adds.{is_in, is_number, is_before, Added, AddsRows, AddsItems, AddsWarehouses}

within : {low high k : ℕ} → IsBetween low high k → is_in low (high + 1) k ≡ true
within h = grind (arith, nat_tests)

is_within : {low high k : ℕ} → is_in low (high + 1) k ≡ true → IsBetween low high k
is_within h = (grind (arith, nat_tests), grind (arith, nat_tests))

module _ {X : Type 0} (P : X → Type 0) where
  there : (b : Bool) (old new : Option X) → b ≡ true → Added P b old new → (r : X) × (new ≡ Some r) × P r
  there true old new e a = a
  there false old new e a = absurd (true≢false (sym e))

  added_only : (b : Bool) (old new : Option X) → old ≡ None → Added P b old new → IsSome new → b ≡ true
  added_only true old new none a some = refl
  added_only false old new none a some = subst IsSome (a ∙ none) some

module _ {K X : Type 0} {R : K → K → Ordering} {P : K → X → Type 0} where
  -- what was added to an empty table is the table
  rows_of : {p : K → Bool} {old new : FinMap R X} (IsKey : K → Type 0) → ((k : K) → IsKey k → p k ≡ true) → ((k : K) → p k ≡ true → IsKey k)
      → old ≡ empty → AddsRows R p P old new → HasRowsAt IsKey P new
  rows_of {p} {old} {new} IsKey passes only is_empty adds =
      let none : (k : K) → get old k ≡ None = λ k. ap (λ (m : FinMap R X). get m k) is_empty ∙ get-empty R k in
      record {
        rows = λ k is_key. there (P k) (p k) _ _ (passes k is_key) (adds.rows k);
        only = λ k some. only k (added_only (P k) (p k) _ _ (none k) (adds.rows k) some);
      }

both : {x y : Bool} {A B : Type 0} → (x ≡ true → A) → (y ≡ true → B) → (x && y) ≡ true → A × B
both {x} {y} p q e = let parts = and_parts x y e in (p parts.0, q parts.1)

three : {x y z : Bool} {A B C : Type 0} → (x ≡ true → A) → (y ≡ true → B) → (z ≡ true → C) → (x && y && z) ≡ true → A × B × C
three {x} {y} {z} p q s e = let parts = and_parts (x && y) z e in let front = and_parts x y parts.0 in (p front.0, q front.1, s parts.1)

-- the items, and then the rest, of empty tables
pub all_first : (kind : Kind) (s : Sizes) {old middle new : Database} → old ≡ empty_database s → middle.scale ≡ old.scale
    → middle.keeps_texts ≡ old.keeps_texts → middle.warehouses ≡ old.warehouses → middle.districts ≡ old.districts → middle.customers ≡ old.customers
    → middle.texts ≡ old.texts → middle.history ≡ old.history
    → middle.new_orders ≡ old.new_orders → middle.orders ≡ old.orders → middle.lines ≡ old.lines → middle.stock ≡ old.stock
    → AddsItems kind (is_number s.items) old.items middle.items
    → AddsWarehouses kind s (is_number s.warehouses) (is_before s (s.warehouses + 1)) (plain_history s) middle new → AreFirstTables kind s new
all_first kind s {old} {middle} {new} none scale keeps warehouses districts customers texts history new_orders orders lines stock items rest = record {
  scale = rest.districts.scale ∙ scale ∙ ap (λ t. t.scale) none;
  keeps_texts = rest.districts.keeps_texts ∙ keeps ∙ ap (λ t. t.keeps_texts) none;
  warehouses = rows_of (IsWarehouseKey s) (λ k h. within h) (λ k e. is_within e) (warehouses ∙ ap (λ t. t.warehouses) none) rest.warehouses;
  districts = rows_of (IsDistrictKey s) (λ k h. and_from _ _ (within h.0) (within h.1)) (λ k e. both is_within is_within e)
      (districts ∙ ap (λ t. t.districts) none) rest.districts.districts;
  customers = rows_of (IsCustomerKey s) (λ k h. and_from _ _ (and_from _ _ (within h.0) (within h.1)) (within h.2))
      (λ k e. three is_within is_within is_within e) (customers ∙ ap (λ t. t.customers) none) rest.districts.customers;
  texts = rows_of (IsCustomerKey s) (λ k h. and_from _ _ (and_from _ _ (within h.0) (within h.1)) (within h.2))
      (λ k e. three is_within is_within is_within e) (texts ∙ ap (λ t. t.texts) none) rest.districts.texts;
  history = rest.districts.history ∙ ap (λ rows. rows ++ plain_history s) (history ∙ ap (λ t. t.history) none);
  new_orders = rows_of (IsPlainNewOrderKey s) (λ k h. and_from _ _ (and_from _ _ (within h.0) (within h.1)) (within h.2))
      (λ k e. three is_within is_within is_within e) (new_orders ∙ ap (λ t. t.new_orders) none) rest.districts.new_orders;
  orders = rows_of (IsPlainOrderKey s) (λ k h. and_from _ _ (and_from _ _ (within h.0) (within h.1)) (within h.2))
      (λ k e. three is_within is_within is_within e) (orders ∙ ap (λ t. t.orders) none) rest.districts.orders.orders;
  lines = rows_of (IsFirstLineKey s new.orders)
      (λ k h. and_from _ _ (and_from _ _ (and_from _ _ (within h.0.0) (within h.0.1)) (within h.0.2)) (within h.1))
      (λ k e. both (λ f. three is_within is_within is_within f) is_within e) (lines ∙ ap (λ t. t.lines) none) rest.districts.orders.lines;
  items = subst (HasRowsAt (IsItemKey s) _) (sym rest.items)
      (rows_of (IsItemKey s) (λ k h. within h) (λ k e. is_within e) (ap (λ t. t.items) none) items);
  stock = rows_of (IsStockKey s) (λ k h. and_from _ _ (within h.0) (within h.1)) (λ k e. both is_within is_within e) (stock ∙ ap (λ t. t.stock) none)
      rest.stock;
}
