-- There is one plain population of a scale.
use Rattle.std.proofs.Common.{◌≡◌, Option, Some, None, IsSome, refl, sym, ◌∙◌, subst}
use Rattle.std.specs.FinMap.{FinMap, get, same_map}
use Rattle.std.specs.declared.cmp.Ordering.{Ordering}
use Rattle.tables.specs.Database.{Database}
use Rattle.tables.specs.Sizes.{Sizes}
use Rattle.tables.proofs.Orders.{IsExact, exact_number, exact_district, exact_customer, exact_order, exact_line, exact_stock}
use Rattle.tables.proofs.Same.{same_database}
use Rattle.population_tables.specs.Plain.{IsTable, IsPlain}

-- two tables with the same rows at the same keys
one_table : {K X : Type 0} {R : K → K → Ordering} → IsExact R → (IsKey : K → Type 0) (row : K → X) (m n : FinMap R X) → IsTable IsKey row m
    → IsTable IsKey row n → m ≡ n
one_table {K = K} {X = X} o IsKey row m n a b = same_map o.total o.same m n (λ k. at k (get m k) (get n k) refl refl)
  where
    there : (k : K) → IsKey k → get m k ≡ get n k
    there k is = a.rows k is ∙ sym (b.rows k is)

    at : (k : K) (v w : Option X) → get m k ≡ v → get n k ≡ w → get m k ≡ get n k
    at k (Some r) w e f = there k (a.only k (subst IsSome (sym e) refl))
    at k None (Some q) e f = there k (b.only k (subst IsSome (sym f) refl))
    at k None None e f = e ∙ sym f

pub one_plain : (s : Sizes) (t u : Database) → IsPlain s t → IsPlain s u → t ≡ u
one_plain s t u a b = same_database t u (record {
  scale = a.scale ∙ sym b.scale;
  keeps_texts = a.keeps_texts ∙ sym b.keeps_texts;
  warehouses = one_table exact_number _ _ _ _ a.warehouses b.warehouses;
  districts = one_table exact_district _ _ _ _ a.districts b.districts;
  customers = one_table exact_customer _ _ _ _ a.customers b.customers;
  texts = one_table exact_customer _ _ _ _ a.texts b.texts;
  history = a.history ∙ sym b.history;
  new_orders = one_table exact_order _ _ _ _ a.new_orders b.new_orders;
  orders = one_table exact_order _ _ _ _ a.orders b.orders;
  lines = one_table exact_line _ _ _ _ a.lines b.lines;
  items = one_table exact_number _ _ _ _ a.items b.items;
  stock = one_table exact_stock _ _ _ _ a.stock b.stock;
})
