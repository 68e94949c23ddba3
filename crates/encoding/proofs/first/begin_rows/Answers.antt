use Rattle.std.proofs.Common.{refl}
use Rattle.tables.specs.Database.{database}
use Rattle.tables.specs.Keys.{IsWarehouseKey, IsDistrictKey, IsCustomerKey, IsOrderKey, IsLineKey, IsStockKey}
use Rattle.tables.specs.Rows.{row_at, warehouse_words, district_words, customer_words, new_order_words, order_words, line_words, stock_words}
use Rattle.encoding.proofs.BegunTables.{rows_begun, warehouses, districts, customers, new_orders, orders, lines, stock}
use Rattle.encoding.proofs.BegunRows.{keys_at, keys_within, all_rows}
use Rattle.encoding.proofs.first.begin_rows.Goals as goal

pub begin-requires-clause-keys : goal.begin-requires-clause-keys
begin-requires-clause-keys c = keys_at (IsWarehouseKey (database c.args.tables.now).scale) (database c.args.tables.now).warehouses
    c.requires.well_formed.warehouses

pub begin-requires-2-clause-keys : goal.begin-requires-2-clause-keys
begin-requires-2-clause-keys c = keys_at (IsDistrictKey (database c.args.tables.now).scale) (database c.args.tables.now).districts
    c.requires.well_formed.districts

pub begin-requires-3-clause-keys : goal.begin-requires-3-clause-keys
begin-requires-3-clause-keys c = keys_at (IsCustomerKey (database c.args.tables.now).scale) (database c.args.tables.now).customers
    c.requires.well_formed.customers

pub begin-requires-4-clause-keys : goal.begin-requires-4-clause-keys
begin-requires-4-clause-keys c = keys_within (IsOrderKey (database c.args.tables.now).scale) (database c.args.tables.now).new_orders
    c.requires.well_formed.new_orders

pub begin-requires-5-clause-keys : goal.begin-requires-5-clause-keys
begin-requires-5-clause-keys c = keys_within (IsOrderKey (database c.args.tables.now).scale) (database c.args.tables.now).orders c.requires.well_formed.orders

pub begin-requires-6-clause-keys : goal.begin-requires-6-clause-keys
begin-requires-6-clause-keys c = keys_within (IsLineKey (database c.args.tables.now).scale) (database c.args.tables.now).lines c.requires.well_formed.lines

pub begin-requires-7-clause-keys : goal.begin-requires-7-clause-keys
begin-requires-7-clause-keys c = keys_at (IsStockKey (database c.args.tables.now).scale) (database c.args.tables.now).stock c.requires.well_formed.stock

pub returns : goal.returns
returns c =
    let m = c.args.tables.now in
    let t = database m in
    let s = t.scale in
    let f = c.requires.well_formed in
    let a1 = rows_begun (warehouses s) warehouse_words m.warehouses (keys_at (IsWarehouseKey s) t.warehouses f.warehouses) (row_at t) c.requires.none
    (λ k. refl) (λ k. refl) c.begin.new.first c.begin.ensures.ordered c.in_ok-begin.ensures.count c.in_ok-begin.ensures.words in
    let a2 = rows_begun (districts s) district_words m.districts (keys_at (IsDistrictKey s) t.districts f.districts) (row_at t) a1 (λ k. refl)
    (λ k. refl) c.begin-2.new.first c.begin-2.ensures.ordered c.in_ok-begin-2.ensures.count c.in_ok-begin-2.ensures.words in
    let a3 = rows_begun (customers s) customer_words m.customers (keys_at (IsCustomerKey s) t.customers f.customers) (row_at t) a2 (λ k. refl)
    (λ k. refl) c.begin-3.new.first c.begin-3.ensures.ordered c.in_ok-begin-3.ensures.count c.in_ok-begin-3.ensures.words in
    let a4 = rows_begun (new_orders s) new_order_words m.new_orders (keys_within (IsOrderKey s) t.new_orders f.new_orders) (row_at t) a3 (λ k. refl)
    (λ k. refl) c.begin-4.new.first c.begin-4.ensures.ordered c.in_ok-begin-4.ensures.count c.in_ok-begin-4.ensures.words in
    let a5 = rows_begun (orders s) order_words m.orders (keys_within (IsOrderKey s) t.orders f.orders) (row_at t) a4 (λ k. refl)
    (λ k. refl) c.begin-5.new.first c.begin-5.ensures.ordered c.in_ok-begin-5.ensures.count c.in_ok-begin-5.ensures.words in
    let a6 = rows_begun (lines s) line_words m.lines (keys_within (IsLineKey s) t.lines f.lines) (row_at t) a5 (λ k. refl) (λ k. refl) c.begin-6.new.first
    c.begin-6.ensures.ordered c.in_ok-begin-6.ensures.count c.in_ok-begin-6.ensures.words in
    let a7 = rows_begun (stock s) stock_words m.stock (keys_at (IsStockKey s) t.stock f.stock) (row_at t) a6 (λ k. refl) (λ k. refl) c.begin-7.new.first
    c.begin-7.ensures.ordered c.in_ok-begin-7.ensures.count c.in_ok-begin-7.ensures.words in
    all_rows t c.begin-7.new.first a7
