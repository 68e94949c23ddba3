-- Records of the tables that sums count, by their places.
use Rattle.std.proofs.Common.{◌≡◌, ℕ, ◌+◌, ◌-◌, ◌/◌, ◌<◌, ◌≤◌, ℤ, ◌-ℤ◌, Option, List, sym, ap, ◌∙◌, arith}
use Rattle.std.specs.Int.{w8, w64}
use Rattle.std.specs.Option.{option_map_or}
use Rattle.tables.specs.Sizes.{Sizes}
use Rattle.tables.specs.Keys.{order_of}
use Rattle.tables.specs.Records.{size, first_number, record_number, number_of_key, key_of, district_place, order_place, district_at, order_at, line_at, IsRecordKey}
use Rattle.tables.specs.declared.limits.TheConstants.{MAX_ORDER_LINES}
use Rattle.tables.specs.declared.records.Table.TheVariants as table
use Rattle.tables.specs.declared.records.RecordKey.{RecordKey}
use Rattle.tables.specs.declared.records.RecordKey.TheVariants as key
use Rattle.tables.proofs.Numbers.{one_to_one}
use Rattle.totals_bounds.proofs.KeysAt.{district_same, order_same, line_same, district_is, order_is, line_is}
use Rattle.totals.specs.Totals.{SumsView}
use Rattle.totals.specs.Moves.{order_before}
use Rattle.totals.specs.Steps.{moved_at, one_of, delivered_in, buyer_place, counted_step, district_line_step, order_line_step, deliver_step, line_step}

module _ (s : Sizes) (n p : ℕ) where
  named : (k : RecordKey) → IsRecordKey s k → number_of_key s k ≡ n → k ≡ key_of s n
  named k is same = sym ((one_to_one s).0 k is).1 ∙ ap (key_of s) same

  pub district_named : p < size s table.District → n ≡ record_number s table.District p → key.District (district_at s p) ≡ key_of s n
  district_named below same = named (key.District (district_at s p)) (district_is s p below) (ap (record_number s table.District) (district_same s p) ∙ sym same)

  pub new_order_named : p < size s table.NewOrder → n ≡ record_number s table.NewOrder p → key.NewOrder (order_at s p) ≡ key_of s n
  new_order_named below same = named (key.NewOrder (order_at s p)) (order_is s p below) (ap (record_number s table.NewOrder) (order_same s p) ∙ sym same)

  pub order_named : p < size s table.Order → n ≡ record_number s table.Order p → key.Order (order_at s p) ≡ key_of s n
  order_named below same = named (key.Order (order_at s p)) (order_is s p below) (ap (record_number s table.Order) (order_same s p) ∙ sym same)

  pub line_named : p < size s table.OrderLine → n ≡ record_number s table.OrderLine p → key.OrderLine (line_at s p) ≡ key_of s n
  line_named below same = named (key.OrderLine (line_at s p)) (line_is s p below) (ap (record_number s table.OrderLine) (line_same s p) ∙ sym same)

-- a place, by the numbers of its record and of the table's first
pub place_same : (n first start : ℕ) → first ≡ start → first ≤ n → n ≡ start + (n - first)
place_same n first start same up = omega (arith, same, up)

pub place_below : (n first start end count : ℕ) → first ≡ start → end ≡ start + count → first ≤ n → n < end → n - first < count
place_below n first start end count same same' up below = omega (arith, same, same', up, below)

-- what the order of a line holds
pub order_held : (s : Sizes) (held : ℕ → Option (List ℕ)) (first p : ℕ) → first ≡ first_number s table.Order
    → held (first + p / MAX_ORDER_LINES) ≡ order_before s held (order_of (line_at s p))
order_held s held first p same = λ i. held (same i + sym (order_same s (p / MAX_ORDER_LINES)) i)

-- the steps of a line, by its place and by its key
module _ (v : SumsView) (p order district : ℕ) (old new : Option (List ℕ)) (at_order : order ≡ p / MAX_ORDER_LINES)
    (at_district : district ≡ order / v.scale.orders) where
  order_at_key : order ≡ order_place v.scale (order_of (line_at v.scale p))
  order_at_key = at_order ∙ sym (order_same v.scale (p / MAX_ORDER_LINES))

  district_at_key : district ≡ district_place v.scale (line_at v.scale p).warehouse (line_at v.scale p).district
  district_at_key = at_district ∙ ap (λ q. q / v.scale.orders) at_order ∙ sym (district_same v.scale (p / MAX_ORDER_LINES / v.scale.orders))

  pub counted_stepped : order_line_step (district_line_step v district old new) order old new ≡ counted_step v (line_at v.scale p) old new
  counted_stepped = λ i. record v {
    district_lines = moved_at w64 v.district_lines (district_at_key i) (one_of new -ℤ one_of old);
    order_lines = moved_at w8 v.order_lines (order_at_key i) (one_of new -ℤ one_of old);
  }

  pub line_stepped : (words words' : Option (List ℕ)) (before after : ℤ) → words ≡ words' → before ≡ delivered_in old → after ≡ delivered_in new
      → deliver_step (order_line_step (district_line_step v district old new) order old new) district words before after
      ≡ line_step v words' (line_at v.scale p) old new
  line_stepped words words' before after same was is = λ i. record (counted_stepped i) {
    delivered = option_map_or (λ words. moved_at w64 v.delivered (buyer_place v.scale (district_at_key i) words) (is i -ℤ was i)) (same i) v.delivered;
  }
