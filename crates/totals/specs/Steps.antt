-- What one written record, and what a HISTORY row, does to the running sums. No public clause cites it.
use Rattle.std.specs.Prelude.{◌≡◌, ◌⊎◌, ℕ, ◌+◌, ◌-◌, ◌*◌, nat_lt, ℤ, pos, ◌+ℤ◌, ◌-ℤ◌, cond, Option}
use Rattle.std.specs.Prelude.{List, length, slice_index, slice_set}
use Rattle.std.specs.Int.{Width, w8, w64, int_wrap}
use Rattle.std.specs.Option.{option_map_or}
use Rattle.tables.specs.Sizes.{Sizes}
use Rattle.tables.specs.Records.{district_place, customer_place, order_place}
use Rattle.tables.specs.Keys.{order_of}
use Rattle.tables.specs.Rows.{money_of}
use Rattle.tables.specs.declared.keys.DistrictKey.{DistrictKey}
use Rattle.tables.specs.declared.keys.CustomerKey.{CustomerKey}
use Rattle.tables.specs.declared.keys.OrderKey.{OrderKey}
use Rattle.tables.specs.declared.keys.LineKey.{LineKey}
use Rattle.tables.specs.declared.rows.History.{History}
use Rattle.totals.specs.Totals.{SumsView, amount_in}

-- there is a place for each key of the scale
pub record HasPlaces (v : SumsView) : Type 0 where
  pub year_to_date : length v.year_to_date ≡ v.scale.warehouses
  pub paid_at_warehouse : length v.paid_at_warehouse ≡ v.scale.warehouses
  pub paid_at_district : length v.paid_at_district ≡ v.scale.warehouses * v.scale.districts
  pub paid_by_customer : length v.paid_by_customer ≡ v.scale.warehouses * v.scale.districts * v.scale.customers
  pub delivered : length v.delivered ≡ v.scale.warehouses * v.scale.districts * v.scale.customers
  pub line_counts : length v.line_counts ≡ v.scale.warehouses * v.scale.districts
  pub district_lines : length v.district_lines ≡ v.scale.warehouses * v.scale.districts
  pub order_lines : length v.order_lines ≡ v.scale.warehouses * v.scale.districts * v.scale.orders
  pub waiting : length v.waiting ≡ v.scale.warehouses * v.scale.districts

-- the amount at a place moved by z, in so many bits
abbrev pub moved_at : Width → List ℤ → ℕ → ℤ → List ℤ
moved_at w amounts place z = slice_set amounts place (int_wrap w (amount_in amounts place +ℤ z))

-- a word of a record as a number with a sign, and 0 where the record is absent
abbrev pub signed_in : ℕ → Option (List ℕ) → ℤ
signed_in n value = option_map_or (λ words. money_of (slice_index words n)) value (pos 0)

-- 1 where the record is there
abbrev pub one_of : Option (List ℕ) → ℤ
one_of value = option_map_or (λ words. pos 1) value (pos 0)

-- the amount of a line that is delivered
abbrev pub delivered_in : Option (List ℕ) → ℤ
delivered_in value =
    option_map_or (λ words. cond (nat_lt 0 (slice_index words 2)) (money_of (slice_index words 4)) (pos 0)) value (pos 0)

-- the customer of a line, by the words of its order
abbrev pub line_buyer : LineKey → List ℕ → CustomerKey
line_buyer k words = record { warehouse = k.warehouse; district = k.district; customer = slice_index words 0 }

-- the sums after one record came to hold other words
abbrev pub district_step : SumsView → DistrictKey → Option (List ℕ) → Option (List ℕ) → SumsView
district_step v k old new = record v {
  year_to_date = moved_at w64 v.year_to_date (k.warehouse - 1) (signed_in 0 new -ℤ signed_in 0 old);
}

abbrev pub order_step : SumsView → OrderKey → Option (List ℕ) → Option (List ℕ) → SumsView
order_step v k old new = record v {
  line_counts = moved_at w64 v.line_counts (district_place v.scale k.warehouse k.district)
      (signed_in 3 new -ℤ signed_in 3 old);
}

abbrev pub new_order_step : SumsView → OrderKey → Option (List ℕ) → Option (List ℕ) → SumsView
new_order_step v k old new = record v {
  waiting = moved_at w64 v.waiting (district_place v.scale k.warehouse k.district) (one_of new -ℤ one_of old);
}

-- the parts of a line's step, by the places of its district and of its order
abbrev pub district_line_step : SumsView → ℕ → Option (List ℕ) → Option (List ℕ) → SumsView
district_line_step v district old new = record v {
  district_lines = moved_at w64 v.district_lines district (one_of new -ℤ one_of old);
}

abbrev pub order_line_step : SumsView → ℕ → Option (List ℕ) → Option (List ℕ) → SumsView
order_line_step v order old new = record v {
  order_lines = moved_at w8 v.order_lines order (one_of new -ℤ one_of old);
}

-- the place of the customer of a line of a district, by the words of its order
abbrev pub buyer_place : Sizes → ℕ → List ℕ → ℕ
buyer_place s district words = district * s.customers + (slice_index words 0 - 1)

-- what is delivered of a line was one amount and is another: by the words of its order, and by what its record holds
abbrev pub delivered_step : SumsView → ℕ → List ℕ → ℤ → ℤ → SumsView
delivered_step v district order before after = record v {
  delivered = moved_at w64 v.delivered (buyer_place v.scale district order) (after -ℤ before);
}

abbrev pub deliver_step : SumsView → ℕ → Option (List ℕ) → ℤ → ℤ → SumsView
deliver_step v district order before after = record v {
  delivered = option_map_or (λ words. moved_at w64 v.delivered (buyer_place v.scale district words) (after -ℤ before))
      order v.delivered;
}

-- a line is counted for its district and its order
abbrev pub counted_step : SumsView → LineKey → Option (List ℕ) → Option (List ℕ) → SumsView
counted_step v k old new = record v {
  district_lines = moved_at w64 v.district_lines (district_place v.scale k.warehouse k.district)
      (one_of new -ℤ one_of old);
  order_lines = moved_at w8 v.order_lines (order_place v.scale (order_of k)) (one_of new -ℤ one_of old);
}

-- and what is delivered of it goes to the customer of its order
abbrev pub line_step : SumsView → Option (List ℕ) → LineKey → Option (List ℕ) → Option (List ℕ) → SumsView
line_step v order k old new = record (counted_step v k old new) {
  delivered = option_map_or (λ words. moved_at w64 v.delivered (customer_place v.scale (line_buyer k words))
      (delivered_in new -ℤ delivered_in old)) order v.delivered;
}

-- where that hasn't changed, nothing goes
abbrev pub FollowsLine : SumsView → SumsView → Option (List ℕ) → LineKey → Option (List ℕ) → Option (List ℕ) → Type 0
FollowsLine v v' order k old new = (v' ≡ line_step v order k old new)
    ⊎ ((v' ≡ counted_step v k old new) × (delivered_in old ≡ delivered_in new))

-- and after a HISTORY row
abbrev pub history_payer : History → CustomerKey
history_payer h = record { warehouse = h.customer_warehouse; district = h.customer_district; customer = h.customer }

abbrev pub warehouse_paid_step : SumsView → History → SumsView
warehouse_paid_step v h = record v {
  paid_at_warehouse = moved_at w64 v.paid_at_warehouse (h.warehouse - 1) (h.amount -ℤ pos 0);
}

abbrev pub district_paid_step : SumsView → History → SumsView
district_paid_step v h = record v {
  paid_at_district = moved_at w64 v.paid_at_district (district_place v.scale h.warehouse h.district)
      (h.amount -ℤ pos 0);
}

abbrev pub customer_paid_step : SumsView → History → SumsView
customer_paid_step v h = record v {
  paid_by_customer = moved_at w64 v.paid_by_customer (customer_place v.scale (history_payer h)) (h.amount -ℤ pos 0);
}

abbrev pub history_step : SumsView → History → SumsView
history_step v h = customer_paid_step (district_paid_step (warehouse_paid_step v h) h) h
