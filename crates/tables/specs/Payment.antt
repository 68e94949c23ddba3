-- Payment (TPC-C 2.5): the ranges of its input, what it does to the tables, and its reply.
use Rattle.std.specs.Prelude.{ℕ, ℤ, ◌+◌, ◌+ℤ◌, ◌-ℤ◌, ◌≤ℤ◌, Bool, true, false, ◌==◌, ◌&&◌, [], ◌∷◌, ◌++◌}
use Rattle.std.specs.Option.{option_map_or}
use Rattle.std.specs.FinMap.{get}
use Rattle.customer_data.specs.Text.{put_left}
use Rattle.customer_data.specs.Payments.{payment_text}
use Rattle.customer_data.specs.declared.payments.PaymentText.{PaymentText}
use Rattle.tables.specs.Sizes.{Sizes, IsBetween, IsNumber}
use Rattle.tables.specs.Keys.{is_district, is_customer}
use Rattle.tables.specs.Maps.{update_where, column}
use Rattle.tables.specs.Database.{Database}
use Rattle.tables.specs.Customer.{IsWho, customer_number}
use Rattle.tables.specs.declared.limits.TheConstants.{MAX_DATE, MIN_PAYMENT, MAX_PAYMENT}
use Rattle.tables.specs.declared.keys.CustomerKey.{CustomerKey}
use Rattle.tables.specs.declared.rows.Warehouse.{Warehouse}
use Rattle.tables.specs.declared.rows.Credit.{Credit}
use Rattle.tables.specs.declared.rows.Credit.TheVariants.{Good, Bad}
use Rattle.tables.specs.declared.rows.District.{District}
use Rattle.tables.specs.declared.rows.Customer.{Customer}
use Rattle.tables.specs.declared.rows.History.{History}
use Rattle.tables.specs.declared.payment.PaymentInput.{PaymentInput}
use Rattle.tables.specs.declared.payment.PaymentReply.{PaymentReply}

-- the ranges of its input (TPC-C 2.5.1)
pub record IsPayment (s : Sizes) (x : PaymentInput) : Type 0 where
  pub date : IsBetween 1 MAX_DATE x.date
  pub warehouse : IsNumber s.warehouses x.warehouse
  pub district : IsNumber s.districts x.district
  pub customer_warehouse : IsNumber s.warehouses x.customer_warehouse
  pub customer_district : IsNumber s.districts x.customer_district
  pub who : IsWho s x.who
  pub at_least : MIN_PAYMENT ≤ℤ x.amount
  pub at_most : x.amount ≤ℤ MAX_PAYMENT

-- the C_ID of the customer that pays
abbrev pub payer_number : Database → PaymentInput → ℕ
payer_number t x = customer_number t (record { warehouse = x.customer_warehouse; district = x.customer_district }) x.who

-- customer c as the one that pays
abbrev pub payer : PaymentInput → ℕ → CustomerKey
payer x c = record { warehouse = x.customer_warehouse; district = x.customer_district; customer = c }

-- W_YTD and D_YTD raised by H_AMOUNT
abbrev pub raised_warehouse : ℤ → Warehouse → Warehouse
raised_warehouse amount r = record r { year_to_date = r.year_to_date +ℤ amount }

abbrev pub raised_district : ℤ → District → District
raised_district amount r = record r { year_to_date = r.year_to_date +ℤ amount }

-- C_BALANCE lowered by H_AMOUNT, C_YTD_PAYMENT raised by it, and C_PAYMENT_CNT raised by 1
abbrev pub charged_customer : ℤ → Customer → Customer
charged_customer amount r =
    record r { balance = r.balance -ℤ amount; paid = r.paid +ℤ amount; payments = r.payments + 1 }

-- the HISTORY row that is added where customer c pays
abbrev pub history_row : PaymentInput → ℕ → History
history_row x c = record {
  customer = c;
  customer_district = x.customer_district;
  customer_warehouse = x.customer_warehouse;
  district = x.district;
  warehouse = x.warehouse;
  date = x.date;
  amount = x.amount;
}

-- what it puts at the left of C_DATA where customer c pays
abbrev pub front_of : PaymentInput → ℕ → PaymentText
front_of x c = record {
  customer = c;
  customer_district = x.customer_district;
  customer_warehouse = x.customer_warehouse;
  district = x.district;
  warehouse = x.warehouse;
  amount = x.amount;
}

abbrev pub is_bad : Credit → Bool
is_bad Good = false
is_bad Bad = true

abbrev pub has_bad_credit : Database → CustomerKey → Bool
has_bad_credit t k = option_map_or (λ r. is_bad r.credit) (get t.customers k) false

-- whether C_DATA of a customer changes where customer c pays: that one's does, if its credit is bad and Payments change
-- C_DATA at all
abbrev pub changes_text : Database → PaymentInput → ℕ → CustomerKey → Bool
changes_text t x c k = t.keeps_texts && (is_customer x.customer_warehouse x.customer_district c k && has_bad_credit t k)

-- the tables after it (TPC-C 2.5.2.2), where customer c pays
abbrev pub after_payment_of : Database → PaymentInput → ℕ → Database
after_payment_of t x c = record t {
  warehouses = update_where (λ w. x.warehouse == w) (raised_warehouse x.amount) t.warehouses;
  districts = update_where (is_district x.warehouse x.district) (raised_district x.amount) t.districts;
  customers = update_where (is_customer x.customer_warehouse x.customer_district c) (charged_customer x.amount)
      t.customers;
  texts = update_where (changes_text t x c) (put_left (payment_text (front_of x c))) t.texts;
  history = t.history ++ history_row x c ∷ [];
}

-- its reply (TPC-C 2.5.3.3), with C_BALANCE after it
abbrev pub payment_reply_of : Database → PaymentInput → ℕ → PaymentReply
payment_reply_of t x c = record {
  warehouse = x.warehouse;
  district = x.district;
  customer_warehouse = x.customer_warehouse;
  customer_district = x.customer_district;
  customer = c;
  balance = column (λ r. r.balance) (after_payment_of t x c).customers (payer x c);
}

-- both, where the customer that is meant pays
abbrev pub after_payment : Database → PaymentInput → Database
after_payment t x = after_payment_of t x (payer_number t x)

abbrev pub payment_reply : Database → PaymentInput → PaymentReply
payment_reply t x = payment_reply_of t x (payer_number t x)
