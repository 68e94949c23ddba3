-- The amount of a customer's delivered lines, after records were written.
use Rattle.std.proofs.Common.{◌≡◌, ℕ, nat_lt, ◌==◌, ◌&&◌, pos, ◌+ℤ◌, ◌≤ℤ◌, Bool, true, false, cond, List, Option, Some, None, is_some, is_none, true≢false, slice_index, unwrap_or, refl, sym}
use Rattle.std.proofs.Common.{ap, ◌∙◌, subst, arith}
use Rattle.std.proofs.lemmas.Bool.{lt-ltb}
use Rattle.std.proofs.lemmas.Int.{ints}
use Rattle.std.specs.Option.{option_map, option_map_or, ForSome}
use Rattle.std.specs.FinMap.{FinMap, get}
use Rattle.tables.specs.Keys.{order_cmp, IsOrderKey, IsLineKey, order_of, is_customer}
use Rattle.tables.specs.Conditions.{is_line_of, is_buyer, delivered_amount, Condition7At}
use Rattle.tables.specs.Database.{Database}
use Rattle.tables.specs.Maps.{total}
use Rattle.tables.specs.Rows.{rows, row_at, money_of, money_word, order_words, line_words}
use Rattle.tables.specs.WellFormed.{IsWellFormed, IsDate}
use Rattle.tables.specs.declared.limits.TheConstants.{MAX_LINE_AMOUNT}
use Rattle.tables.specs.declared.keys.CustomerKey.{CustomerKey}
use Rattle.tables.specs.declared.keys.OrderKey.{OrderKey}
use Rattle.tables.specs.declared.keys.LineKey.{LineKey}
use Rattle.tables.specs.declared.rows.Order.{Order}
use Rattle.tables.specs.declared.rows.OrderLine.{OrderLine}
use Rattle.tables.specs.declared.records.RecordKey.{RecordKey}
use Rattle.tables.specs.declared.records.RecordKey.TheVariants as key
use Rattle.tables.proofs.Orders.{exact_line}
use Rattle.tables.proofs.Totals.{total-alike}
use Rattle.totals.specs.Worth.{is_bought, delivered_to}
use Rattle.totals.specs.Moves.{moved}
use Rattle.totals.specs.Written.{AreWritten, OrdersKeepCustomers, NewOrdersWait}
use Rattle.totals.proofs.Keyed as kind
use Rattle.totals.proofs.Sums.{money_back}
use Rattle.totals.proofs.Written.{total-written}

pub off_line : (order : OrderKey → Option (List ℕ)) (k : CustomerKey) (r : RecordKey) → kind.line_of r ≡ None → (words : List ℕ) → delivered_to order k r words ≡ pos 0
off_line order k (key.OrderLine j) e words = absurd cc
off_line order k _ e words = refl

-- a date that isn't null isn't 0
dated : (date : Option ℕ) → ForSome date (λ n. IsDate n) → is_some date ≡ nat_lt 0 (unwrap_or date 0)
dated None h = refl
dated (Some n) h = sym (lt-ltb 0 n (omega (arith, (h n refl).0)))

line_amount : (r : OrderLine) → pos 0 ≤ℤ r.amount → r.amount ≤ℤ MAX_LINE_AMOUNT → money_of (money_word r.amount) ≡ r.amount
line_amount r low high = money_back r.amount (omega (arith, ints), omega (arith, ints))

-- what a line is worth, by its own words and its order's
in_words : (orders : FinMap order_cmp Order) (order : OrderKey → Option (List ℕ)) (k : CustomerKey) (j : LineKey) (r : OrderLine) (o : Order) (words : List ℕ)
    → ForSome r.delivery_date (λ n. IsDate n) → pos 0 ≤ℤ r.amount → r.amount ≤ℤ MAX_LINE_AMOUNT
    → get orders (order_of j) ≡ Some o → order (order_of j) ≡ Some words → slice_index words 0 ≡ o.customer
    → cond (is_line_of orders k j r) r.amount (pos 0) ≡ delivered_to order k (key.OrderLine j) (line_words r)
in_words orders order k j r o words date low high found ordered same =
    let here : is_line_of orders k j r ≡ (nat_lt 0 (unwrap_or r.delivery_date 0) && is_bought order k j) =
    (λ i. ((dated r.delivery_date date i && (j.warehouse == k.warehouse)) && (j.district == k.district))
    && option_map_or (λ b. b.customer == k.customer) (found i) false)
    ∙ regrouped (nat_lt 0 (unwrap_or r.delivery_date 0)) (j.warehouse == k.warehouse) (j.district == k.district) (o.customer == k.customer)
    ∙ (λ i. nat_lt 0 (unwrap_or r.delivery_date 0) && is_customer j.warehouse j.district (sym same i) k)
    ∙ (λ i. nat_lt 0 (unwrap_or r.delivery_date 0)
    && option_map_or (λ w. is_customer j.warehouse j.district (slice_index w 0) k) (sym ordered i) false) in
    λ i. cond (here i) (sym (line_amount r low high) i) (pos 0)
  where
    regrouped : (a b c d : Bool) → (((a && b) && c) && d) ≡ (a && ((b && c) && d))
    regrouped true b c d = refl
    regrouped false b c d = refl

-- a line that isn't delivered is worth nothing
not_delivered : (orders : FinMap order_cmp Order) (order : OrderKey → Option (List ℕ)) (k : CustomerKey) (j : LineKey) (r : OrderLine)
    → is_none r.delivery_date ≡ true
    → cond (is_line_of orders k j r) r.amount (pos 0) ≡ delivered_to order k (key.OrderLine j) (line_words r)
not_delivered orders order k j r none = go r.delivery_date none
  where
    go : (date : Option ℕ) → is_none date ≡ true
        → cond (is_some date && (j.warehouse == k.warehouse) && (j.district == k.district) && is_buyer orders k (order_of j)) r.amount (pos 0)
        ≡ cond (nat_lt 0 (unwrap_or date 0) && is_bought order k j) (money_of (money_word r.amount)) (pos 0)
    go None e = refl
    go (Some n) e = absurd (true≢false (sym e))

within : (t : Database) (j : LineKey) → IsLineKey t.scale j → IsOrderKey t.scale (order_of j)
within t j is = (is.0, is.1, is.2)

-- what was delivered to a customer, by the words of lines and of orders
pub delivered_in_words : (t : Database) → IsWellFormed t → (order : OrderKey → Option (List ℕ))
    → ((j : OrderKey) → IsOrderKey t.scale j → order j ≡ row_at t (key.Order j)) → (k : CustomerKey)
    → delivered_amount t k ≡ total (λ j r. delivered_to order k (key.OrderLine j) (line_words r)) t.lines
delivered_in_words t wf order ordered k = total-alike exact_line _ (λ j r. delivered_to order k (key.OrderLine j) (line_words r)) t.lines at
  where
    at : (j : LineKey) (r : OrderLine) → get t.lines j ≡ Some r
        → cond (is_line_of t.orders k j r) r.amount (pos 0) ≡ delivered_to order k (key.OrderLine j) (line_words r)
    at j r found =
        let o = wf.line_orders j r found in
        let row = wf.line_rows j r found in
        in_words t.orders order k j r o.0 (order_words o.0) row.delivery_date row.at_least row.at_most o.1
        (ordered (order_of j) (within t j (wf.lines j (ap is_some found))) ∙ ap (option_map order_words) o.1) refl

module _ (t u : Database) (writes : List (ℕ × Option (List ℕ))) (h : AreWritten t u writes) (wf_t : IsWellFormed t) (wf_u : IsWellFormed u)
    (kept : OrdersKeepCustomers t u) (wait : NewOrdersWait t u) (condition_7 : (j : LineKey) → Condition7At u j) (order : OrderKey → Option (List ℕ))
    (ordered : (j : OrderKey) → IsOrderKey t.scale j → order j ≡ row_at t (key.Order j)) where
  pub delivered_after : (k : CustomerKey) → delivered_amount u k ≡ delivered_amount t k +ℤ moved t.scale (rows t) writes (delivered_to order k)
  delivered_after k =
      total-alike exact_line _ (λ j r. delivered_to order k (key.OrderLine j) (line_words r)) u.lines at_u
      ∙ total-written exact_line kind.lines t u writes h (delivered_to order k) (off_line order k) line_words t.lines u.lines (λ j. refl) (λ j. refl)
      wf_t.lines (λ j some. subst (λ s. IsLineKey s j) h.scale (wf_u.lines j some))
      ∙ ap (λ a. a +ℤ moved t.scale (rows t) writes (delivered_to order k))
      (sym (delivered_in_words t wf_t order ordered k))
    where
      at_u : (j : LineKey) (r : OrderLine) → get u.lines j ≡ Some r
          → cond (is_line_of u.orders k j r) r.amount (pos 0) ≡ delivered_to order k (key.OrderLine j) (line_words r)
      at_u j r found = by_order (get t.orders (order_of j)) refl
        where
          by_order : (w : Option Order) → get t.orders (order_of j) ≡ w
              → cond (is_line_of u.orders k j r) r.amount (pos 0) ≡ delivered_to order k (key.OrderLine j) (line_words r)
          by_order (Some o) there =
              let row = wf_u.line_rows j r found in
              let later = kept (order_of j) o there in
              in_words u.orders order k j r later.0 (order_words o) row.delivery_date row.at_least row.at_most later.1
              (ordered (order_of j) (within t j (subst (λ s. IsLineKey s j) h.scale (wf_u.lines j (ap is_some found)))) ∙ ap (option_map order_words) there)
              (sym later.2)
          by_order None none =
              let o = wf_u.line_orders j r found in
              let date : is_none r.delivery_date ≡ true =
              condition_7 j r found ∙ ap (λ w. option_map_or (λ (b : Order). is_none b.carrier) w true) o.1 ∙ ap is_none (wait (order_of j) o.0 none o.1) in
              not_delivered u.orders order k j r date
