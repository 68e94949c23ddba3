-- The steps of a Payment (TPC-C 2.5.2.2): the rows of its three records, what they become, and its reply.
use Rattle.std.specs.Prelude.{◌≡◌, ℕ, ◌+◌, ℤ, ◌+ℤ◌, ◌-ℤ◌, Option, Some, List, ◌∷◌}
use Rattle.std.specs.Option.{option_map}
use Rattle.std.specs.FinMap.{get}
use Rattle.tables.specs.Sizes.{Sizes}
use Rattle.tables.specs.Database.{Database}
use Rattle.tables.specs.Payment.{payer}
use Rattle.tables.specs.declared.records.RecordKey.TheVariants as key
use Rattle.tables.specs.declared.keys.DistrictKey.{DistrictKey}
use Rattle.tables.specs.declared.payment.PaymentInput.{PaymentInput}
use Rattle.tables.specs.declared.payment.PaymentReply.{PaymentReply}
use Rattle.rows.specs.Columns.{warehouse_columns, district_columns, customer_columns}
use Rattle.rows.specs.Columns.{warehouse_columns_words, district_columns_words, customer_columns_words}
use Rattle.rows.specs.Columns.{AreWarehouseColumns, AreDistrictColumns, AreCustomerColumns}
use Rattle.readset.specs.Changes.{Changes}
use Rattle.payment.specs.Text.{text_change}
use Rattle.payment.specs.declared.transaction.Rows.{Rows}

-- the paying district
abbrev pub paying : PaymentInput → DistrictKey
paying x = record { warehouse = x.warehouse; district = x.district }

-- the rows of these tables that a Payment by customer c changes
pub record ArePaymentRows (x : PaymentInput) (c : ℕ) (rows : Rows) (t : Database) : Type 0 where
  pub warehouse : option_map warehouse_columns (get t.warehouses x.warehouse) ≡ Some rows.warehouse
  pub district : option_map district_columns (get t.districts (paying x)) ≡ Some rows.district
  pub customer : option_map customer_columns (get t.customers (payer x c)) ≡ Some rows.customer

-- within their ranges
pub record AreInRange (s : Sizes) (rows : Rows) : Type 0 where
  pub warehouse : AreWarehouseColumns rows.warehouse
  pub district : AreDistrictColumns s rows.district
  pub customer : AreCustomerColumns rows.customer

-- what a payment makes of them
abbrev pub paid : ℤ → Rows → Rows
paid amount rows = record {
  warehouse = record { year_to_date = rows.warehouse.year_to_date +ℤ amount };
  district = record {
    year_to_date = rows.district.year_to_date +ℤ amount;
    next_order = rows.district.next_order;
  };
  customer = record {
    balance = rows.customer.balance -ℤ amount;
    paid = rows.customer.paid +ℤ amount;
    payments = rows.customer.payments + 1;
    deliveries = rows.customer.deliveries;
  };
}

-- what changes, of rows after the payment, and of C_DATA where it changes
abbrev pub changes_of : PaymentInput → ℕ → Rows → Option (List ℕ) → Changes
changes_of x c rows text =
    (key.Warehouse x.warehouse, Some (warehouse_columns_words rows.warehouse))
    ∷ (key.District (paying x), Some (district_columns_words rows.district))
    ∷ (key.Customer (payer x c), Some (customer_columns_words rows.customer)) ∷ text_change x c text

-- the reply
abbrev pub reply_of : Rows → PaymentInput → ℕ → PaymentReply
reply_of rows x c = record {
  warehouse = x.warehouse;
  district = x.district;
  customer_warehouse = x.customer_warehouse;
  customer_district = x.customer_district;
  customer = c;
  balance = rows.customer.balance;
}
