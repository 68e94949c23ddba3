use Rattle.std.proofs.Common.{min, max, Some, refl, sym, ap}
use Rattle.std.specs.Prelude.{is_some}
use Rattle.std.specs.FinMap.{get}
use Rattle.tables.specs.Database.{database}
use Rattle.tables.specs.Keys.{district_of_order, IsDistrictKey, IsCustomerKey, is_district, is_customer}
use Rattle.tables.specs.OrderNumbers.{next_order, order_numbers}
use Rattle.tables.specs.Rows.{row_at, number_words}
use Rattle.tables.specs.WellFormed.{orderer}
use Rattle.tables.proofs.KeyTests.{is_district-key, is_customer-key}
use Rattle.encoding.proofs.BegunTables.{rows_begun, oldest_orders, last_orders}
use Rattle.encoding.proofs.BegunRows.{keys_at}
use Rattle.encoding.proofs.BegunNumbers.{orders_begun, before_orders, number_of_row, zero_of_row, oldest_is, last_is, all_numbers}
use Rattle.encoding.proofs.first.begin_numbers.Goals as goal

pub begin-requires-clause-keys : goal.begin-requires-clause-keys
begin-requires-clause-keys c = keys_at (IsDistrictKey (database c.args.tables.now).scale) (database c.args.tables.now).districts
    c.requires.well_formed.districts

pub begin-requires-2-clause-keys : goal.begin-requires-2-clause-keys
begin-requires-2-clause-keys c = λ k r found. let h = c.requires.well_formed.new_orders k (ap is_some found) in (h.0, h.1)

pub begin-requires-3-clause-keys : goal.begin-requires-3-clause-keys
begin-requires-3-clause-keys c = keys_at (IsCustomerKey (database c.args.tables.now).scale) (database c.args.tables.now).customers
    c.requires.well_formed.customers

pub begin-requires-4-clause-keys : goal.begin-requires-4-clause-keys
begin-requires-4-clause-keys c = λ k r found. (c.requires.well_formed.customers (orderer k r)).0 (c.requires.well_formed.order_customers k r found)

pub returns : goal.returns
returns c =
    let m = c.args.tables.now in
    let t = database m in
    let s = t.scale in
    let f = c.requires.well_formed in
    let a1 = rows_begun (oldest_orders s) (λ r. number_words r.next_order) m.districts (keys_at (IsDistrictKey s) t.districts f.districts) (before_orders t)
    c.requires.rows (λ k. refl) (λ k. refl) c.begin.new.first c.begin.ensures.ordered c.in_ok-begin.ensures.count c.in_ok-begin.ensures.words in
    let a2 = orders_begun (oldest_orders s) (λ k r. district_of_order k) min (λ k e. is_district e.0.warehouse e.0.district k)
    (λ k e. is_district-key e.0.warehouse e.0.district k) m.new_orders
    (λ k r found. let h = f.new_orders k (ap is_some found) in (h.0, h.1)) (next_order t) (row_at t) a1
    (λ k h. number_of_row (λ r. r.next_order) (get t.districts k) ((f.districts k).1 h))
    (λ k h. ap (λ n. Some (number_words n)) (sym (oldest_is t k (c.requires.consistent.condition_2 k h))))
    c.begin-2.new.first c.begin-2.ensures.ordered c.in_ok-begin-2.ensures.count c.in_ok-begin-2.ensures.words in
    let a3 = rows_begun (last_orders s) (λ r. number_words 0) m.customers (keys_at (IsCustomerKey s) t.customers f.customers) (before_orders t) a2 (λ k. refl)
    (λ k. refl) c.begin-3.new.first c.begin-3.ensures.ordered c.in_ok-begin-3.ensures.count c.in_ok-begin-3.ensures.words in
    let a4 = orders_begun (last_orders s) (λ k r. orderer k r) max (λ k e. is_customer e.0.warehouse e.0.district e.1.customer k)
    (λ k e. is_customer-key e.0.warehouse e.0.district e.1.customer k) m.orders
    (λ k r found. (f.customers (orderer k r)).0 (f.order_customers k r found)) (λ k. 0) (row_at t) a3
    (λ k h. zero_of_row (get t.customers k) ((f.customers k).1 h))
    (λ k h. ap (λ n. Some (number_words n)) (sym (last_is (order_numbers (λ e. is_customer e.0.warehouse e.0.district e.1.customer k) t.orders))))
    c.begin-4.new.first c.begin-4.ensures.ordered c.in_ok-begin-4.ensures.count c.in_ok-begin-4.ensures.words in
    all_numbers t c.begin-4.new.first a4
