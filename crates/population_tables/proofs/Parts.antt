-- Sums over a table part by part: over a district's rows by the order's number, and over an order's lines by theirs.
use Rattle.std.proofs.Common.{◌≡◌, ℕ, ℤ, pos, Bool, cond, ◌&&◌, ◌==◌, sym, ◌∙◌, arith}
use Rattle.std.specs.Cmp.{eq_by_cmp_equiv}
use Rattle.std.specs.FinMap.{FinMap}
use Rattle.std.specs.declared.cmp.Ordering.{Ordering}
use Rattle.std.proofs.lemmas.Bool.Decides.{nat_tests}
use Rattle.tables.specs.Sizes.{IsNumber}
use Rattle.tables.specs.Keys.{order_cmp, line_cmp, is_district, is_order, order_key}
use Rattle.tables.specs.Maps.{sum_of, total, column, EachRow}
use Rattle.tables.specs.NewOrder.{line_key}
use Rattle.tables.specs.declared.keys.DistrictKey.{DistrictKey}
use Rattle.tables.specs.declared.keys.OrderKey.{OrderKey}
use Rattle.tables.proofs.Orders.{IsExact, exact_order, exact_line}
use Rattle.tables.proofs.KeyTests.{is_order-key}
use Rattle.tables.proofs.Totals.{total-alike}
use Rattle.population_tables.specs.Plain.{numbers}
use Rattle.population_tables.proofs.Added.{tied_four}
use Rattle.population_tables.proofs.Sums.{sum_one, total_at, total_sums}

module _ {K X : Type 0} {R : K → K → Ordering} where
  -- the sum over the rows that pass a test, by a part of their keys that is one of the numbers from 1 to n
  pub total_parts : IsExact R → (f : X → ℤ) (p : K → Bool) (part : K → ℕ) (n : ℕ) (m : FinMap R X) → EachRow (λ j r. IsNumber n (part j)) m
      → total (λ j r. cond (p j) (f r) (pos 0)) m ≡ sum_of (λ i. total (λ j r. cond (p j && (part j == i)) (f r) (pos 0)) m) (numbers n)
  total_parts exact f p part n m within =
      total-alike exact _ (λ j r. sum_of (λ i. cond (p j && (part j == i)) (f r) (pos 0)) (numbers n)) m
      (λ j r found. sym (sum_one _ n (part j) (within j r found) (λ i _ apart. grind (arith, nat_tests)) ∙ grind (arith, nat_tests)))
      ∙ total_sums (λ i j r. cond (p j && (part j == i)) (f r) (pos 0)) n m

module _ {X : Type 0} (f : X → ℤ) where
  at_order : (k : OrderKey) (m : FinMap order_cmp X) → total (λ j r. cond (is_order j.warehouse j.district j.order k) (f r) (pos 0)) m ≡ column f m k
  at_order k m = total_at exact_order f _ k m (λ j.
      is_order-key j.warehouse j.district j.order k ∙ (eq_by_cmp_equiv exact_order.total).symm j k)

  at_line : (k : OrderKey) (n : ℕ) (m : FinMap line_cmp X)
      → total (λ j r. cond (is_order j.warehouse j.district j.order k && (j.line == n)) (f r) (pos 0)) m ≡ column f m (line_key k n)
  at_line k n m = total_at exact_line f _ (line_key k n) m (λ j.
      sym (tied_four j.warehouse j.district j.order j.line k.warehouse k.district k.order n) ∙ (eq_by_cmp_equiv exact_line.total).symm j (line_key k n))

  -- over the rows of ORDER or NEW-ORDER in a district
  pub district_total : (k : DistrictKey) (n : ℕ) (m : FinMap order_cmp X) → EachRow (λ j r. IsNumber n j.order) m
      → total (λ j r. cond (is_district j.warehouse j.district k) (f r) (pos 0)) m ≡ sum_of (λ o. column f m (order_key k o)) (numbers n)
  district_total k n m within =
      total_parts exact_order f (λ j. is_district j.warehouse j.district k) (λ j. j.order) n m within
      ∙ (λ i. sum_of (λ o. at_order (order_key k o) m i) (numbers n))

  -- over the lines of an order
  pub order_total : (k : OrderKey) (n : ℕ) (m : FinMap line_cmp X) → EachRow (λ j r. IsNumber n j.line) m
      → total (λ j r. cond (is_order j.warehouse j.district j.order k) (f r) (pos 0)) m ≡ sum_of (λ l. column f m (line_key k l)) (numbers n)
  order_total k n m within =
      total_parts exact_line f (λ j. is_order j.warehouse j.district j.order k) (λ j. j.line) n m within
      ∙ (λ i. sum_of (λ l. at_line k l m i) (numbers n))
