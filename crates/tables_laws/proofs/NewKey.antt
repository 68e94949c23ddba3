-- The key that a new order gets is new: D_NEXT_O_ID is above the numbers of the district's orders.
use Rattle.std.proofs.Common.{◌≡◌, ℕ, ◌+◌, true, false, Option, Some, None, IsSome, is_some, true≢false, refl, sym, ap, ◌∙◌, arith}
use Rattle.std.specs.Ordering.{eq_by_cmp}
use Rattle.std.specs.Cmp.{eq_by_cmp_equiv}
use Rattle.std.specs.FinMap.{get}
use Rattle.tables.specs.Keys.{order_cmp, is_district, order_of}
use Rattle.tables.specs.OrderNumbers.{greatest, numbers_in, next_order}
use Rattle.tables.specs.Database.{Database}
use Rattle.tables.specs.NewOrder.{home, new_key, order_row, line_key, after_new_order}
use Rattle.tables.specs.Conditions.{Condition2At}
use Rattle.tables.specs.WellFormed.{IsWellFormed}
use Rattle.tables.specs.declared.keys.OrderKey.{OrderKey}
use Rattle.tables.specs.declared.keys.LineKey.{LineKey}
use Rattle.tables.specs.declared.rows.Order.{Order}
use Rattle.tables.specs.declared.rows.OrderLine.{OrderLine}
use Rattle.tables.specs.declared.new_order.NewOrderInput.{NewOrderInput}
use Rattle.tables.proofs.Orders.{exact_district, exact_order}
use Rattle.tables.proofs.KeyTests.{is_district-key}
use Rattle.tables.proofs.Entries.{tied}
use Rattle.tables_laws.proofs.Rows.{absent, get-insert_other}
use Rattle.tables_laws.proofs.OrderNumbers.{none_above}

missing : {X : Type 0} (w : Option X) → w ≡ None → IsSome w → ⊥
missing w none some = true≢false (sym some ∙ ap is_some none)

module _ (t : Database) (x : NewOrderInput) (wf : IsWellFormed t) (last : Condition2At t (home x)) where
  -- no order has it, so no NEW-ORDER row and no line
  pub no_order : get t.orders (new_key t x) ≡ None
  no_order =
      let next : greatest (numbers_in (home x) t.orders) + 1 ≡ next_order t (home x) = last.0 in
      none_above (λ (e : OrderKey × Order). is_district e.0.warehouse e.0.district (home x)) t.orders (new_key t x) (omega arith)
      (λ r. is_district-key x.warehouse x.district (home x) ∙ (eq_by_cmp_equiv exact_district.total).refl (home x))

  pub no_new_order : get t.new_orders (new_key t x) ≡ None
  no_new_order = absent t.new_orders (new_key t x)
      (λ r found. missing (get t.orders (new_key t x)) no_order (wf.new_order_orders (new_key t x) (ap is_some found)))

  -- an order that is there has another key
  pub other_order : (k : OrderKey) (order : Order) → get t.orders k ≡ Some order → eq_by_cmp order_cmp k (new_key t x) ≡ false
  other_order k order found =
      elim (eq_by_cmp order_cmp k (new_key t x)) as (λ b. eq_by_cmp order_cmp k (new_key t x) ≡ b → b ≡ false) [
        | true ↦ λ tie. absurd (missing (get t.orders k) (ap (get t.orders) (exact_order.same k (new_key t x) (tied _ tie)) ∙ no_order) (ap is_some found))
        | false ↦ λ tie. refl
      ] refl

  -- so a line that is there is of another order
  pub of_other : (j : LineKey) (line : OrderLine) → get t.lines j ≡ Some line → eq_by_cmp order_cmp (order_of j) (new_key t x) ≡ false
  of_other j line found = let order = wf.line_orders j line found in other_order (order_of j) order.0 order.1

  pub no_line : (i : ℕ) → get t.lines (line_key (new_key t x) i) ≡ None
  no_line i = absent t.lines (line_key (new_key t x) i)
      (λ line found. true≢false (sym ((eq_by_cmp_equiv exact_order.total).refl (new_key t x)) ∙ of_other (line_key (new_key t x) i) line found))

  -- the order of a line that was there
  pub order_stays : (j : LineKey) (line : OrderLine) → get t.lines j ≡ Some line → get (after_new_order t x).orders (order_of j) ≡ get t.orders (order_of j)
  order_stays j line found = get-insert_other exact_order t.orders (new_key t x) (order_row x) (order_of j) (of_other j line found)
