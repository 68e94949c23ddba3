-- A Payment of a customer in its own district.
use Rattle.std.specs.Prelude.{ℕ, pos}
use Rattle.tables.specs.declared.customer.Who.TheVariants.{Id}
use Rattle.tables.specs.declared.keys.CustomerKey.{CustomerKey}
use Rattle.tables.specs.declared.payment.PaymentInput.{PaymentInput}

-- 12.34, by a customer of the first district
abbrev pub payment_by : ℕ → PaymentInput
payment_by customer = record {
  date = 1;
  warehouse = 1;
  district = 1;
  customer_warehouse = 1;
  customer_district = 1;
  who = Id customer;
  amount = pos 1234;
}

abbrev pub customer_of_first_district : ℕ → CustomerKey
customer_of_first_district customer = record { warehouse = 1; district = 1; customer = customer }
