-- From one district to the next: an order's lines are begun, and the district is ended.
use Rattle.std.proofs.Common.{◌≡◌, ℕ, suc, zero, ◌+◌, ◌-◌, ◌≤◌, ℤ, pos, ◌+ℤ◌, [], Result, Ok, Err, OnOk, Some, None, IsSome, refl, sym, ap, ◌∙◌, subst}
use Rattle.std.proofs.Common.{arith}
use Rattle.std.specs.FinMap.{get}
use Rattle.tables.specs.Sizes.{Sizes}
use Rattle.tables.specs.Keys.{IsOrderKey, IsCustomerKey}
use Rattle.tables.specs.Database.{Database}
use Rattle.tables.specs.Conditions.{Condition2At, Condition3At}
use Rattle.tables.specs.Records.{number_of_key}
use Rattle.tables.specs.Rows.{order_words, customer_words}
use Rattle.tables.specs.Delivery.{order_amount, carried, credited}
use Rattle.tables.specs.declared.keys.DistrictKey.{DistrictKey}
use Rattle.tables.specs.declared.keys.OrderKey.{OrderKey}
use Rattle.tables.specs.declared.delivery.DeliveryInput.{DeliveryInput}
use Rattle.tables.specs.declared.records.RecordKey.TheVariants as key
use Rattle.tables_laws.proofs.OrderAmount.{amount_to, order_amount-counted}
use Rattle.tables_laws.proofs.RisingNumbers.{least_row}
use Rattle.readset.specs.Reads.{ReadSetView}
use Rattle.readset.specs.Writes.{WriteSetView, puts}
use Rattle.readset.specs.Changes.{Holds, puts_all}
use Rattle.readset.specs.Explains.{IsCandidate, HasOrderConditions}
use Rattle.readset.proofs.HoldsChanges.{holds-changes, not_taken}
use Rattle.readset.specs.Transaction.{TransactionView, AtAll, ReadsMore}
use Rattle.readset.proofs.UnderWay.{candidate_still}
use Rattle.delivery.specs.Steps.{next_home, next_key, with_dates, with_oldest, amount_up_to, AreDone, AreDated, after_districts}
use Rattle.delivery.proofs.WithOldest.{of_other}
use Rattle.delivery.specs.Ending.{Waits, IsCredited, buyer_of, credited_columns, ending_changes}
use Rattle.rows.specs.Columns.{customer_columns, customer_columns_words}
use Rattle.rows.specs.declared.columns.CustomerColumns.{CustomerColumns}
use Rattle.rows.specs.Laws.{found_row}
use Rattle.tables.specs.declared.rows.Order.{Order}
use Rattle.delivery.proofs.Dated.{begun}
use Rattle.delivery.proofs.Done.{ending, ended, ended_others, none_changed}

-- more reads leave what is done
pub done_with_more : (t0 : Database) (x : DeliveryInput) (n : ℕ) (old new : TransactionView) (most : ℕ) → AreDone t0 x n 0 old → ReadsMore most old new
    → AreDone t0 x n 0 new
done_with_more t0 x n old new most done more t h =
    subst (λ (w : WriteSetView). Holds t w (with_oldest (after_districts t x 0) (after_districts t x n))) (sym more.writes)
    (done t (candidate_still t0 old new most more t h))

-- before the first line of an order
pub none_dated_yet : (t0 : Database) (x : DeliveryInput) (n o : ℕ) (old new : TransactionView) (most : ℕ) → AreDone t0 x n 0 old → ReadsMore most old new
    → AreDated t0 x n o 0 new (pos 0)
none_dated_yet t0 x n o old new most done more = record {
  holds = λ t h.
      let first = after_districts t x 0 in
      let some = with_dates t x n (next_key x n o) 0 in
      let more_rows = after_districts t x n in
      holds-changes t [] new.writes (with_oldest first more_rows) (with_oldest first some) (done_with_more t0 x n old new most done more t h) tt tt tt
      (λ j is _. of_other first some more_rows j (begun t x n o j is));
  sum_is = λ t h. refl;
}

-- where no order waits, a district is done by that
pub none_to_do : (t0 : Database) (x : DeliveryInput) (n : ℕ) (old new : TransactionView) (most : ℕ) → AreDone t0 x n 0 old → ReadsMore most old new
    → AtAll t0 new (λ t. Rattle.tables.specs.Delivery.waiting t (next_home x n) ≡ None) → AreDone t0 x (n + 1) 0 new
none_to_do t0 x n old new most done more none t h =
    let first = after_districts t x 0 in
    holds-changes t [] new.writes (with_oldest first (after_districts t x n)) (with_oldest first (after_districts t x (n + 1)))
    (done_with_more t0 x n old new most done more t h) tt tt tt
    (λ j is _. of_other first (after_districts t x (n + 1)) (after_districts t x n) j (none_changed t x n (none t h) j))

same_amount : (t : Database) (k : OrderKey) (m : ℕ) → amount_up_to t k m ≡ amount_to t.lines k m
same_amount t k zero = refl
same_amount t k (suc m) = ap (λ a. a +ℤ Rattle.tables.specs.Maps.column (λ r. r.amount) t.lines (Rattle.tables.specs.NewOrder.line_key k (suc m)))
    (same_amount t k m)

-- once an order's lines all have their dates, its customer is credited and the next order waits
module _ (t0 : Database) (x : DeliveryInput) (n : ℕ) (k : OrderKey) (named : k ≡ next_key x n k.order) (old new : TransactionView) (sum : ℤ) (order : Order)
    (columns : CustomerColumns)
    (dated : AreDated t0 x n k.order order.line_count old sum) (more : ReadsMore 1 old new) (is_key : IsOrderKey t0.scale k)
    (order_at : AtAll t0 old (λ t. get t.orders k ≡ Some order)) (buyer_key : IsCustomerKey t0.scale (buyer_of k order))
    (credited_at : AtAll t0 new (IsCredited (buyer_of k order) sum columns))
    (waits : AtAll t0 old (λ t. Waits t x n k.order))
  where
    abbrev o : ℕ
    o = k.order

    held_rows : (t : Database) → IsCandidate t0 new.reads t → Holds t (puts_all t0.scale new.writes (ending_changes x (next_key x n o) order columns))
        (with_oldest (after_districts t x 0) (after_districts t x (n + 1)))
    held_rows t h =
        let before : IsCandidate t0 old.reads t = candidate_still t0 old new 1 more t h in
        let s : t.scale ≡ t0.scale = h.of_population.scale in
        let w = waits t before in
        let j = next_key x n o in
        let first = after_districts t x 0 in
        let found : get t.orders j ≡ Some order = subst (λ (q : OrderKey). get t.orders q ≡ Some order) named (order_at t before) in
        let c = subst (λ (q : OrderKey). IsCredited (buyer_of q order) sum columns t) named (credited_at t h) in
        let his = found_row customer_columns (get t.customers (buyer_of j order)) c.0 c.1 in
        let key_there : IsOrderKey t.scale j = subst (λ (q : Sizes × OrderKey). IsOrderKey q.0 q.1) (λ i. (sym s i, named i)) is_key in
        let buyer_there : IsCustomerKey t.scale (buyer_of j order) =
        subst (λ (q : Sizes × OrderKey). IsCustomerKey q.0 (buyer_of q.1 order)) (λ i. (sym s i, named i)) buyer_key in
        let so_far = subst (λ (q : WriteSetView). Holds t q (with_oldest first (with_dates t x n j order.line_count))) (sym more.writes) (dated.holds t before) in
        let rows : Holds t (puts_all t.scale new.writes (ending t x n o w.first order his.0)) (with_oldest first (after_districts t x (n + 1))) =
        holds-changes t (ending t x n o w.first order his.0) new.writes (with_oldest first (with_dates t x n j order.line_count))
        (with_oldest first (after_districts t x (n + 1)))
        so_far
        (key_there, (key_there, (buyer_there, tt)))
        ((λ _. (j, refl)), (not_taken _ _, (not_taken _ _, tt)))
        (ended t x n o w.first order his.0 found his.1 first)
        (λ i _ apart. ended_others t x n o w.first order his.0 found his.1 first h.well_formed i apart) in
        let amount : order_amount t j ≡ sum = order_amount-counted t h.well_formed j order found ∙ sym (same_amount t j order.line_count)
        ∙ dated.sum_is t before in
        let buyer_is : customer_words (credited t j his.0) ≡ customer_columns_words columns =
        ap (λ a. customer_words (record his.0 { balance = his.0.balance +ℤ a; deliveries = his.0.deliveries + 1 })) amount
        ∙ ap (λ (q : CustomerColumns). customer_columns_words (credited_columns sum q)) his.2 ∙ ap customer_columns_words (sym c.2) in
        subst (λ (q : WriteSetView). Holds t q (with_oldest first (after_districts t x (n + 1))))
        (λ i. puts (puts (puts new.writes (number_of_key (s i) (key.NewOrder j)) None) (number_of_key (s i) (key.Order j))
        (Some (order_words (carried x order))))
        (number_of_key (s i) (key.Customer (buyer_of j order))) (Some (buyer_is i)))
        rows

    pub done_next : (last : TransactionView) → last.reads ≡ new.reads → last.writes ≡ puts_all t0.scale new.writes (ending_changes x k order columns)
        → AreDone t0 x (n + 1) 0 last
    done_next last same written t h =
        subst (λ (w : WriteSetView). Holds t w (with_oldest (after_districts t x 0) (after_districts t x (n + 1))))
        (ap (λ (j : OrderKey). puts_all t0.scale new.writes (ending_changes x j order columns)) (sym named) ∙ sym written)
        (held_rows t (subst (λ (r : ReadSetView). IsCandidate t0 r t) same h))

-- the order that waits has its row
pub order_waits : (t : Database) (x : DeliveryInput) (n : ℕ) (k : OrderKey) → Rattle.tables.specs.WellFormed.IsWellFormed t → k ≡ next_key x n k.order
    → Waits t x n k.order → IsSome (get t.orders k)
order_waits t x n k wf named w =
    subst (λ (j : OrderKey). IsSome (get t.orders j)) (sym named)
    (wf.new_order_orders (next_key x n k.order) (least_row (next_home x n) t.new_orders k.order w.first))

-- an order that waits in a district, which is the next
pub waits_at : (t : Database) (x : DeliveryInput) (n o : ℕ) (home : DistrictKey) → home ≡ next_home x n → Rattle.tables.specs.Delivery.waiting t home ≡ Some o
    → HasOrderConditions t home → Waits t x n o
waits_at t x n o home is waits numbered = record {
  first = ap (Rattle.tables.specs.Delivery.waiting t) (sym is) ∙ waits;
  condition_2 = subst (Condition2At t) is numbered.condition_2;
  condition_3 = subst (Condition3At t) is numbered.condition_3;
}

-- an order of the warehouse, as one of the district after those before its own
pub next_is : (x : DeliveryInput) (k : OrderKey) → k.warehouse ≡ x.warehouse → 1 ≤ k.district → k ≡ next_key x (k.district - 1) k.order
next_is x k home first = let next : k.district ≡ k.district - 1 + 1 = omega (arith, first) in
    λ i. record { warehouse = home i; district = next i; order = k.order }

-- what follows where a step succeeds
pub on_ok : {X E P Q : Type 0} (result : Result X E) → (P → Q) → OnOk result P → OnOk result Q
on_ok (Ok x) f p = f p
on_ok (Err e) f p = tt
