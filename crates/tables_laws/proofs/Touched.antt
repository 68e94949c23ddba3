-- What stands at a key that a step touches, and at any other key.
use Rattle.std.proofs.Common.{◌≡◌, ◌≢◌, ℕ, Bool, true, false, cond, ◌==◌, ◌&&◌, true≢false, List, Option, Some, None, refl, sym, ap, ◌∙◌}
use Rattle.std.proofs.lemmas.Bool.{eqb-true, eq-eqb}
use Rattle.std.specs.Option.{option_map}
use Rattle.std.specs.Ordering.{eq_by_cmp}
use Rattle.std.specs.FinMap.{FinMap, get, insert}
use Rattle.std.specs.declared.cmp.Ordering.{Ordering}
use Rattle.tables.specs.Keys.{is_district, is_customer, is_stock}
use Rattle.tables.specs.Maps.{update_where}
use Rattle.tables.specs.declared.keys.DistrictKey.{DistrictKey}
use Rattle.tables.specs.declared.keys.CustomerKey.{CustomerKey}
use Rattle.tables.specs.declared.keys.StockKey.{StockKey}
use Rattle.tables.proofs.Entries.{tied}
use Rattle.tables.proofs.Orders.{IsExact}
use Rattle.tables_laws.proofs.Rows.{get-inserted, get-insert_other}
use Rattle.tables_laws.proofs.Updates.{get-map_rows, kept-update_where}

-- two tests that pass together
pub both : (a b : Bool) → (a && b) ≡ true → (a ≡ true) × (b ≡ true)
both true b h = (refl, h)
both false b h = absurd (true≢false (sym h))

-- a number is itself
pub self : (n : ℕ) → (n == n) ≡ true
self n = eq-eqb n n refl

-- a test that names one key passes at that key alone
pub district_named : (w d : ℕ) (k : DistrictKey) → is_district w d k ≡ true → record { warehouse = w; district = d } ≡ k
district_named w d k h = let p = both (w == k.warehouse) (d == k.district) h in
    λ i. record { warehouse = eqb-true w k.warehouse p.0 i; district = eqb-true d k.district p.1 i }

pub customer_named : (w d c : ℕ) (k : CustomerKey) → is_customer w d c k ≡ true → record { warehouse = w; district = d; customer = c } ≡ k
customer_named w d c k h =
    let p = both ((w == k.warehouse) && (d == k.district)) (c == k.customer) h in
    let q = both (w == k.warehouse) (d == k.district) p.0 in
    λ i. record { warehouse = eqb-true w k.warehouse q.0 i; district = eqb-true d k.district q.1 i; customer = eqb-true c k.customer p.1 i }

pub stock_named : (w n : ℕ) (k : StockKey) → is_stock w n k ≡ true → record { warehouse = w; item = n } ≡ k
stock_named w n k h = let p = both (w == k.warehouse) (n == k.item) h in
    λ i. record { warehouse = eqb-true w k.warehouse p.0 i; item = eqb-true n k.item p.1 i }

module _ {K X : Type 0} {R : K → K → Ordering} (o : IsExact R) (words : X → List ℕ) (m : FinMap R X) where
  -- keys that differ have no tie
  no_tie : (k q : K) → k ≢ q → eq_by_cmp R k q ≡ false
  no_tie k q apart = elim (eq_by_cmp R k q) as (λ b. eq_by_cmp R k q ≡ b → b ≡ false) [
    | true ↦ λ t. absurd (apart (o.same k q (tied _ t)))
    | false ↦ λ t. refl
  ] refl

  -- an insert
  pub inserted : (k : K) (v : X) → option_map words (get (insert m k v) k) ≡ Some (words v)
  inserted k v = ap (option_map words) (get-inserted o m k v)

  pub not_inserted : (k : K) (v : X) (q : K) → q ≢ k → option_map words (get (insert m k v) q) ≡ option_map words (get m q)
  not_inserted k v q apart = ap (option_map words) (get-insert_other o m k v q (no_tie q k apart))

  -- an update of the rows that pass a test
  pub untouched : (p : K → Bool) (g : X → X) (k : K) → (p k ≡ true → ⊥) → option_map words (get (update_where p g m) k) ≡ option_map words (get m k)
  untouched p g k never = kept-update_where o p g (option_map words) m k (λ h. absurd (never h))

  pub touched : (p : K → Bool) (g : X → X) (k : K) → p k ≡ true → option_map words (get (update_where p g m) k) ≡ option_map (λ r. words (g r)) (get m k)
  touched p g k h =
      ap (option_map words) (get-map_rows o (λ j s. cond (p j) (g s) s) m k)
      ∙ (λ i. option_map words (option_map (λ s. cond (h i) (g s) s) (get m k)))
      ∙ composed (get m k)
    where
      composed : (w : Option X) → option_map words (option_map g w) ≡ option_map (λ r. words (g r)) w
      composed None = refl
      composed (Some r) = refl
