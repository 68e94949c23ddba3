-- What a written record moves, sum by sum.
use Rattle.std.proofs.Common.{◌≡◌, ◌≢◌, ℕ, ◌<◌, ◌-◌, ◌*◌, ◌==◌, ◌&&◌, nat_lt, ℤ, pos, ◌+ℤ◌, ◌-ℤ◌, Bool, true, false, cond, true≢false, List, Option, Some, None, length, inl, inr}
use Rattle.std.proofs.Common.{slice_index, slice_index_or, refl, sym, ap, ◌∙◌, subst, arith}
use Rattle.std.proofs.lemmas.Bool.{eqb-true}
use Rattle.std.proofs.lemmas.Int.{ints, int_wrap_fits, int_wrap-add_left, SFits-int_wrap}
use Rattle.std.proofs.lemmas.List.{get_or-set_same, get_or-set_other}
use Rattle.std.specs.Int.{Width, w8, w64, int_wrap}
use Rattle.std.specs.Int.RustNames.{FitsSigned}
use Rattle.std.specs.Option.{option_map_or}
use Rattle.tables.specs.Sizes.{Sizes, IsNumber}
use Rattle.tables.specs.Keys.{IsWarehouseKey, IsDistrictKey, IsCustomerKey, IsOrderKey, IsLineKey, order_of, is_district, is_customer, is_order}
use Rattle.tables.specs.Records.{district_place, customer_place, order_place, district_at, customer_at, order_at}
use Rattle.tables.specs.Rows.{money_of}
use Rattle.tables.specs.WellFormed.{IsHistoryRow}
use Rattle.tables.specs.declared.keys.DistrictKey.{DistrictKey}
use Rattle.tables.specs.declared.keys.CustomerKey.{CustomerKey}
use Rattle.tables.specs.declared.keys.OrderKey.{OrderKey}
use Rattle.tables.specs.declared.keys.LineKey.{LineKey}
use Rattle.tables.specs.declared.rows.History.{History}
use Rattle.tables.specs.declared.records.RecordKey.{RecordKey}
use Rattle.tables.specs.declared.records.RecordKey.TheVariants as key
use Rattle.tables.proofs.Numbers.{warehouse_there, district_there, customer_there, order_there}
use Rattle.tables.proofs.Orders.{exact_order}
use Rattle.tables.proofs.Entries.{tied}
use Rattle.tables.proofs.KeyTests.{is_order-key}
use Rattle.tables_laws.proofs.Touched.{self, district_named, customer_named}
use Rattle.totals.specs.Totals.{SumsView, amount_in}
use Rattle.totals.specs.Worth.{Worth, year_to_date_of, line_count_in, line_in, line_of, one_in, is_bought, delivered_to}
use Rattle.totals.specs.Moves.{worth_of, step, IsMoved, MovesSums, row_moves, no_history, no_record}
use Rattle.totals.specs.Steps.{HasPlaces, moved_at, district_step, order_step, new_order_step, counted_step, FollowsLine, history_step, signed_in, one_of, delivered_in, line_buyer}

-- ---- one amount
zero_more : (a : ℤ) → a +ℤ pos 0 ≡ a
zero_more a = omega (arith, ints)

stays : (w : Width) (a z : ℤ) → z ≡ pos 0 → IsMoved w a a z
stays w a z none fits = sym (ap (int_wrap w) (ap (λ b. a +ℤ b) none ∙ zero_more a) ∙ int_wrap_fits w a fits)

goes_on : (w : Width) (a b c z y : ℤ) → IsMoved w a b z → IsMoved w b c y → IsMoved w a c (z +ℤ y)
goes_on w a b c z y first then fits =
    let is = first fits in
    then (subst (FitsSigned w) (sym is) (SFits-int_wrap w (a +ℤ z)))
    ∙ ap (λ d. int_wrap w (d +ℤ y)) is
    ∙ int_wrap-add_left w (a +ℤ z) y
    ∙ ap (int_wrap w) (regrouped a z y)
  where
    regrouped : (x y z : ℤ) → (x +ℤ y) +ℤ z ≡ x +ℤ (y +ℤ z)
    regrouped x y z = omega (arith, ints)

-- the amount at one place, where that at another has moved
moves_at : (w : Width) (xs : List ℤ) (place p : ℕ) (z y : ℤ) (here : Bool) → place < length xs → (here ≡ true → p ≡ place) → (here ≡ false → p ≢ place)
    → y ≡ cond here z (pos 0)
    → IsMoved w (amount_in xs p) (amount_in (moved_at w xs place z) p) y
moves_at w xs place p z y true inside same other is fits =
    ap (λ q. slice_index_or (moved_at w xs place z) q (pos 0)) (same refl) ∙ get_or-set_same xs place (int_wrap w (amount_in xs place +ℤ z)) (pos 0) inside
    ∙ ap (int_wrap w) (λ i. amount_in xs (sym (same refl) i) +ℤ sym is i)
moves_at w xs place p z y false inside same other is fits =
    get_or-set_other xs place p (int_wrap w (amount_in xs place +ℤ z)) (pos 0) (other refl) ∙ stays w (amount_in xs p) y is fits

-- ---- what a record is worth
worth_none : (f : Worth) (k : RecordKey) → ((words : List ℕ) → f k words ≡ pos 0) → (v : Option (List ℕ)) → worth_of f k v ≡ pos 0
worth_none f k none None = refl
worth_none f k none (Some words) = none words

no_difference : (a b : ℤ) → a ≡ pos 0 → b ≡ pos 0 → a -ℤ b ≡ pos 0
no_difference a b p q = omega (arith, ints)

-- nothing, to the sums over other tables
quiet : (w : Width) (a : ℤ) (f : Worth) (k : RecordKey) (old new : Option (List ℕ)) → ((words : List ℕ) → f k words ≡ pos 0) → IsMoved w a a (step k old new f)
quiet w a f k old new none = stays w a (step k old new f) (no_difference _ _ (worth_none f k none new) (worth_none f k none old))

-- so much, where it passes a test
tested : (f : Worth) (k : RecordKey) (here : Bool) (g : List ℕ → ℤ) → ((words : List ℕ) → f k words ≡ cond here (g words) (pos 0)) → (old new : Option (List ℕ))
    → step k old new f ≡ cond here (option_map_or g new (pos 0) -ℤ option_map_or g old (pos 0)) (pos 0)
tested f k here g is old new = (λ i. worth new i -ℤ worth old i) ∙ together here
  where
    worth : (v : Option (List ℕ)) → worth_of f k v ≡ cond here (option_map_or g v (pos 0)) (pos 0)
    worth None = elim here as (λ b. pos 0 ≡ cond b (pos 0) (pos 0)) [ true ↦ refl | false ↦ refl ]
    worth (Some words) = is words

    together : (b : Bool) → cond b (option_map_or g new (pos 0)) (pos 0) -ℤ cond b (option_map_or g old (pos 0)) (pos 0)
        ≡ cond b (option_map_or g new (pos 0) -ℤ option_map_or g old (pos 0)) (pos 0)
    together true = refl
    together false = no_difference (pos 0) (pos 0) refl refl

-- two tests, in turn
turned : (a b : Bool) (z : ℤ) → cond (a && b) z (pos 0) ≡ cond b (cond a z (pos 0)) (pos 0)
turned true b z = refl
turned false true z = refl
turned false false z = refl

-- ---- places of two keys
warehouse_same : (j w : ℕ) → (j == w) ≡ true → w - 1 ≡ j - 1
warehouse_same j w h = ap (λ q. q - 1) (sym (eqb-true j w h))

warehouse_other : (s : Sizes) (j w : ℕ) → IsWarehouseKey s j → IsWarehouseKey s w → (j == w) ≡ false → w - 1 ≢ j - 1
warehouse_other s j w at_j at_w h e =
    let same : j ≡ w = omega (arith, e, at_j.0, at_w.0) in
    true≢false (sym (self w) ∙ ap (λ q. q == w) (sym same) ∙ h)

district_same : (s : Sizes) (j k : DistrictKey) → is_district j.warehouse j.district k ≡ true
    → district_place s k.warehouse k.district ≡ district_place s j.warehouse j.district
district_same s j k h = ap (λ (q : DistrictKey). district_place s q.warehouse q.district) (sym (district_named j.warehouse j.district k h))

district_other : (s : Sizes) (j k : DistrictKey) → IsDistrictKey s j → IsDistrictKey s k → is_district j.warehouse j.district k ≡ false
    → district_place s k.warehouse k.district ≢ district_place s j.warehouse j.district
district_other s j k at_j at_k h e =
    let same : j ≡ k = sym (district_there s j at_j).1 ∙ ap (district_at s) (sym e) ∙ (district_there s k at_k).1 in
    true≢false (sym (λ i. self k.warehouse i && self k.district i) ∙ ap (λ (q : DistrictKey). is_district q.warehouse q.district k) (sym same) ∙ h)

customer_same : (s : Sizes) (j k : CustomerKey) → is_customer j.warehouse j.district j.customer k ≡ true → customer_place s k ≡ customer_place s j
customer_same s j k h = ap (customer_place s) (sym (customer_named j.warehouse j.district j.customer k h))

customer_other : (s : Sizes) (j k : CustomerKey) → IsCustomerKey s j → IsCustomerKey s k → is_customer j.warehouse j.district j.customer k ≡ false
    → customer_place s k ≢ customer_place s j
customer_other s j k at_j at_k h e =
    let same : j ≡ k = sym (customer_there s j at_j).1 ∙ ap (customer_at s) (sym e) ∙ (customer_there s k at_k).1 in
    true≢false (sym (λ i. self k.warehouse i && self k.district i && self k.customer i)
    ∙ ap (λ (q : CustomerKey). is_customer q.warehouse q.district q.customer k) (sym same) ∙ h)

order_same : (s : Sizes) (j k : OrderKey) → is_order j.warehouse j.district j.order k ≡ true → order_place s k ≡ order_place s j
order_same s j k h = ap (order_place s) (sym (exact_order.same j k (tied _ (sym (is_order-key j.warehouse j.district j.order k) ∙ h))))

order_other : (s : Sizes) (j k : OrderKey) → IsOrderKey s j → IsOrderKey s k → is_order j.warehouse j.district j.order k ≡ false
    → order_place s k ≢ order_place s j
order_other s j k at_j at_k h e =
    let same : j ≡ k = sym (order_there s j at_j).1 ∙ ap (order_at s) (sym e) ∙ (order_there s k at_k).1 in
    true≢false (sym (λ i. self k.warehouse i && self k.district i && self k.order i)
    ∙ ap (λ (q : OrderKey). is_order q.warehouse q.district q.order k) (sym same) ∙ h)

-- ---- a record of each table
module _ (order : OrderKey → Option (List ℕ)) (v : SumsView) (places : HasPlaces v) (old new : Option (List ℕ)) where
  by_district : (xs : List ℤ) → length xs ≡ v.scale.warehouses * v.scale.districts → (j k : DistrictKey) → IsDistrictKey v.scale j → IsDistrictKey v.scale k
      → (z y : ℤ) → y ≡ cond (is_district j.warehouse j.district k) z (pos 0)
      → IsMoved w64 (amount_in xs (district_place v.scale k.warehouse k.district))
      (amount_in (moved_at w64 xs (district_place v.scale j.warehouse j.district) z) (district_place v.scale k.warehouse k.district)) y
  by_district xs size j k at_j at_k z y is =
      moves_at w64 xs (district_place v.scale j.warehouse j.district) (district_place v.scale k.warehouse k.district) z y (is_district j.warehouse j.district k)
      (subst (λ n. district_place v.scale j.warehouse j.district < n) (sym size) (district_there v.scale j at_j).0)
      (district_same v.scale j k) (district_other v.scale j k at_j at_k) is

  pub district_moves : (j : DistrictKey) → IsDistrictKey v.scale j → MovesSums v.scale order (step (key.District j) old new) no_history v (district_step v j old new)
  district_moves j at = record {
    year_to_date = λ w is.
        moves_at w64 v.year_to_date (j.warehouse - 1) (w - 1) (signed_in 0 new -ℤ signed_in 0 old) _ (j.warehouse == w)
        (subst (λ n. j.warehouse - 1 < n) (sym places.year_to_date) (warehouse_there v.scale j.warehouse at.0).0)
        (warehouse_same j.warehouse w) (warehouse_other v.scale j.warehouse w at.0 is)
        (tested (year_to_date_of w) (key.District j) (j.warehouse == w) (λ words. money_of (slice_index words 0)) (λ words. refl) old new);
    paid_at_warehouse = λ w is. stays w64 _ _ refl;
    paid_at_district = λ k is. stays w64 _ _ refl;
    paid_by_customer = λ k is. stays w64 _ _ refl;
    delivered = λ k is. quiet w64 _ (delivered_to order k) (key.District j) old new (λ words. refl);
    line_counts = λ k is. quiet w64 _ (line_count_in k) (key.District j) old new (λ words. refl);
    district_lines = λ k is. quiet w64 _ (line_in k) (key.District j) old new (λ words. refl);
    order_lines = λ k is. quiet w8 _ (line_of k) (key.District j) old new (λ words. refl);
    waiting = λ k is. quiet w64 _ (one_in k) (key.District j) old new (λ words. refl);
  }

  pub order_moves : (j : OrderKey) → IsOrderKey v.scale j → MovesSums v.scale order (step (key.Order j) old new) no_history v (order_step v j old new)
  order_moves j at = record {
    year_to_date = λ w is. quiet w64 _ (year_to_date_of w) (key.Order j) old new (λ words. refl);
    paid_at_warehouse = λ w is. stays w64 _ _ refl;
    paid_at_district = λ k is. stays w64 _ _ refl;
    paid_by_customer = λ k is. stays w64 _ _ refl;
    delivered = λ k is. quiet w64 _ (delivered_to order k) (key.Order j) old new (λ words. refl);
    line_counts = λ k is.
        by_district v.line_counts places.line_counts (record { warehouse = j.warehouse; district = j.district }) k (at.0, at.1) is
        (signed_in 3 new -ℤ signed_in 3 old) _
        (tested (line_count_in k) (key.Order j) (is_district j.warehouse j.district k) (λ words. money_of (slice_index words 3)) (λ words. refl) old new);
    district_lines = λ k is. quiet w64 _ (line_in k) (key.Order j) old new (λ words. refl);
    order_lines = λ k is. quiet w8 _ (line_of k) (key.Order j) old new (λ words. refl);
    waiting = λ k is. quiet w64 _ (one_in k) (key.Order j) old new (λ words. refl);
  }

  pub new_order_moves : (j : OrderKey) → IsOrderKey v.scale j → MovesSums v.scale order (step (key.NewOrder j) old new) no_history v (new_order_step v j old new)
  new_order_moves j at = record {
    year_to_date = λ w is. quiet w64 _ (year_to_date_of w) (key.NewOrder j) old new (λ words. refl);
    paid_at_warehouse = λ w is. stays w64 _ _ refl;
    paid_at_district = λ k is. stays w64 _ _ refl;
    paid_by_customer = λ k is. stays w64 _ _ refl;
    delivered = λ k is. quiet w64 _ (delivered_to order k) (key.NewOrder j) old new (λ words. refl);
    line_counts = λ k is. quiet w64 _ (line_count_in k) (key.NewOrder j) old new (λ words. refl);
    district_lines = λ k is. quiet w64 _ (line_in k) (key.NewOrder j) old new (λ words. refl);
    order_lines = λ k is. quiet w8 _ (line_of k) (key.NewOrder j) old new (λ words. refl);
    waiting = λ k is.
        by_district v.waiting places.waiting (record { warehouse = j.warehouse; district = j.district }) k (at.0, at.1) is (one_of new -ℤ one_of old) _
        (tested (one_in k) (key.NewOrder j) (is_district j.warehouse j.district k) (λ words. pos 1) (λ words. refl) old new);
  }

  -- a delivered amount goes to the customer of the line's order
  delivered_moves : (j : LineKey) → IsLineKey v.scale j → (w : Option (List ℕ)) → order (order_of j) ≡ w
      → ((words : List ℕ) → w ≡ Some words → IsNumber v.scale.customers (slice_index words 0))
      → (k : CustomerKey) → IsCustomerKey v.scale k
      → IsMoved w64 (amount_in v.delivered (customer_place v.scale k))
      (amount_in (option_map_or (λ words. moved_at w64 v.delivered (customer_place v.scale (line_buyer j words)) (delivered_in new -ℤ delivered_in old)) w v.delivered)
      (customer_place v.scale k))
      (step (key.OrderLine j) old new (delivered_to order k))
  delivered_moves j at None ordered named k is = quiet w64 _ (delivered_to order k) (key.OrderLine j) old new
      (λ words. ap (λ b. cond b (money_of (slice_index words 4)) (pos 0))
      (ap (λ w. nat_lt 0 (slice_index words 2) && option_map_or (λ o. is_customer j.warehouse j.district (slice_index o 0) k) w false) ordered
      ∙ and_false (nat_lt 0 (slice_index words 2))))
    where
      and_false : (b : Bool) → (b && false) ≡ false
      and_false true = refl
      and_false false = refl
  delivered_moves j at (Some o) ordered named k is =
      let buyer : IsCustomerKey v.scale (line_buyer j o) = (at.0, at.1, named o refl) in
      moves_at w64 v.delivered (customer_place v.scale (line_buyer j o)) (customer_place v.scale k) (delivered_in new -ℤ delivered_in old) _
      (is_customer j.warehouse j.district (slice_index o 0) k)
      (subst (λ n. customer_place v.scale (line_buyer j o) < n) (sym places.delivered) (customer_there v.scale (line_buyer j o) buyer).0)
      (customer_same v.scale (line_buyer j o) k) (customer_other v.scale (line_buyer j o) k buyer is)
      (tested (delivered_to order k) (key.OrderLine j) (is_customer j.warehouse j.district (slice_index o 0) k)
      (λ words. cond (nat_lt 0 (slice_index words 2)) (money_of (slice_index words 4)) (pos 0))
      (λ words. ap (λ w. cond (nat_lt 0 (slice_index words 2) && option_map_or (λ b. is_customer j.warehouse j.district (slice_index b 0) k) w false)
      (money_of (slice_index words 4)) (pos 0)) ordered
      ∙ turned (nat_lt 0 (slice_index words 2)) (is_customer j.warehouse j.district (slice_index o 0) k) (money_of (slice_index words 4))) old new)

  -- a line is counted, and of these amounts is what is delivered of it
  counted_moves : (j : LineKey) → IsLineKey v.scale j → (delivered : List ℤ)
      → ((k : CustomerKey) → IsCustomerKey v.scale k → IsMoved w64 (amount_in v.delivered (customer_place v.scale k))
      (amount_in delivered (customer_place v.scale k)) (step (key.OrderLine j) old new (delivered_to order k)))
      → MovesSums v.scale order (step (key.OrderLine j) old new) no_history v (record (counted_step v j old new) { delivered = delivered })
  counted_moves j at delivered moves = record {
    year_to_date = λ w is. quiet w64 _ (year_to_date_of w) (key.OrderLine j) old new (λ words. refl);
    paid_at_warehouse = λ w is. stays w64 _ _ refl;
    paid_at_district = λ k is. stays w64 _ _ refl;
    paid_by_customer = λ k is. stays w64 _ _ refl;
    delivered = moves;
    line_counts = λ k is. quiet w64 _ (line_count_in k) (key.OrderLine j) old new (λ words. refl);
    district_lines = λ k is.
        by_district v.district_lines places.district_lines (record { warehouse = j.warehouse; district = j.district }) k (at.0, at.1) is (one_of new -ℤ one_of old) _
        (tested (line_in k) (key.OrderLine j) (is_district j.warehouse j.district k) (λ words. pos 1) (λ words. refl) old new);
    order_lines = λ k is.
        moves_at w8 v.order_lines (order_place v.scale (order_of j)) (order_place v.scale k) (one_of new -ℤ one_of old) _
        (is_order j.warehouse j.district j.order k)
        (subst (λ n. order_place v.scale (order_of j) < n) (sym places.order_lines) (order_there v.scale (order_of j) (at.0, at.1, at.2)).0)
        (order_same v.scale (order_of j) k) (order_other v.scale (order_of j) k (at.0, at.1, at.2) is)
        (tested (line_of k) (key.OrderLine j) (is_order j.warehouse j.district j.order k) (λ words. pos 1) (λ words. refl) old new);
    waiting = λ k is. quiet w64 _ (one_in k) (key.OrderLine j) old new (λ words. refl);
  }

  -- where what is delivered of it is what it was, nobody's amount moves
  undelivered : (j : LineKey) → delivered_in old ≡ delivered_in new → (k : CustomerKey) → step (key.OrderLine j) old new (delivered_to order k) ≡ pos 0
  undelivered j same k = tested (delivered_to order k) (key.OrderLine j) (is_bought order k j)
      (λ words. cond (nat_lt 0 (slice_index words 2)) (money_of (slice_index words 4)) (pos 0))
      (λ words. turned (nat_lt 0 (slice_index words 2)) (is_bought order k j) (money_of (slice_index words 4))) old new
      ∙ none (is_bought order k j)
    where
      no_more : (a b : ℤ) → a ≡ b → b -ℤ a ≡ pos 0
      no_more a b e = omega (arith, ints, e)

      none : (b : Bool) → cond b (delivered_in new -ℤ delivered_in old) (pos 0) ≡ pos 0
      none true = no_more (delivered_in old) (delivered_in new) same
      none false = refl

  pub line_moves : (j : LineKey) → IsLineKey v.scale j
      → ((words : List ℕ) → order (order_of j) ≡ Some words → IsNumber v.scale.customers (slice_index words 0))
      → (v' : SumsView) → FollowsLine v v' (order (order_of j)) j old new
      → MovesSums v.scale order (step (key.OrderLine j) old new) no_history v v'
  line_moves j at named v' (inl is) = subst (λ a. MovesSums v.scale order (step (key.OrderLine j) old new) no_history v a) (sym is)
      (counted_moves j at _ (delivered_moves j at (order (order_of j)) refl named))
  line_moves j at named v' (inr is) = subst (λ a. MovesSums v.scale order (step (key.OrderLine j) old new) no_history v a) (sym is.0)
      (counted_moves j at v.delivered (λ k here. stays w64 _ _ (undelivered j is.1 k)))

-- a record of another table is worth nothing
abbrev pub IsOther : RecordKey → Type 0
IsOther k = (order : OrderKey → Option (List ℕ)) (words : List ℕ)
    → ((w : ℕ) → year_to_date_of w k words ≡ pos 0) × ((c : CustomerKey) → delivered_to order c k words ≡ pos 0)
    × ((d : DistrictKey) → line_count_in d k words ≡ pos 0) × ((d : DistrictKey) → line_in d k words ≡ pos 0)
    × ((o : OrderKey) → line_of o k words ≡ pos 0) × ((d : DistrictKey) → one_in d k words ≡ pos 0)

pub other_moves : (s : Sizes) (order : OrderKey → Option (List ℕ)) (v : SumsView) (key : RecordKey) (old new : Option (List ℕ)) → IsOther key
    → MovesSums s order (step key old new) no_history v v
other_moves s order v key old new other = record {
  year_to_date = λ w is. quiet w64 _ (year_to_date_of w) key old new (λ words. (other order words).0 w);
  paid_at_warehouse = λ w is. stays w64 _ _ refl;
  paid_at_district = λ k is. stays w64 _ _ refl;
  paid_by_customer = λ k is. stays w64 _ _ refl;
  delivered = λ k is. quiet w64 _ (delivered_to order k) key old new (λ words. (other order words).1 k);
  line_counts = λ k is. quiet w64 _ (line_count_in k) key old new (λ words. (other order words).2 k);
  district_lines = λ k is. quiet w64 _ (line_in k) key old new (λ words. (other order words).3 k);
  order_lines = λ k is. quiet w8 _ (line_of k) key old new (λ words. (other order words).4 k);
  waiting = λ k is. quiet w64 _ (one_in k) key old new (λ words. (other order words).5 k);
}

pub history_moves : (v : SumsView) (order : OrderKey → Option (List ℕ)) → HasPlaces v → (h : History) → IsHistoryRow v.scale h
    → MovesSums v.scale order no_record (row_moves (Some h)) v (history_step v h)
history_moves v order places h row = record {
  year_to_date = λ w is. stays w64 _ _ refl;
  paid_at_warehouse = λ w is.
      moves_at w64 v.paid_at_warehouse (h.warehouse - 1) (w - 1) (h.amount -ℤ pos 0) _ (h.warehouse == w)
      (subst (λ n. h.warehouse - 1 < n) (sym places.paid_at_warehouse) (warehouse_there v.scale h.warehouse row.warehouse).0)
      (warehouse_same h.warehouse w) (warehouse_other v.scale h.warehouse w row.warehouse is) (whole (h.warehouse == w));
  paid_at_district = λ k is.
      let j : DistrictKey = record { warehouse = h.warehouse; district = h.district } in
      moves_at w64 v.paid_at_district (district_place v.scale h.warehouse h.district) (district_place v.scale k.warehouse k.district) (h.amount -ℤ pos 0) _
      (is_district h.warehouse h.district k)
      (subst (λ n. district_place v.scale h.warehouse h.district < n) (sym places.paid_at_district) (district_there v.scale j (row.warehouse, row.district)).0)
      (district_same v.scale j k) (district_other v.scale j k (row.warehouse, row.district) is) (whole (is_district h.warehouse h.district k));
  paid_by_customer = λ k is.
      let j : CustomerKey = record { warehouse = h.customer_warehouse; district = h.customer_district; customer = h.customer } in
      let at : IsCustomerKey v.scale j = (row.customer_warehouse, row.customer_district, row.customer) in
      moves_at w64 v.paid_by_customer (customer_place v.scale j) (customer_place v.scale k) (h.amount -ℤ pos 0) _
      (is_customer h.customer_warehouse h.customer_district h.customer k)
      (subst (λ n. customer_place v.scale j < n) (sym places.paid_by_customer) (customer_there v.scale j at).0)
      (customer_same v.scale j k) (customer_other v.scale j k at is) (whole (is_customer h.customer_warehouse h.customer_district h.customer k));
  delivered = λ k is. stays w64 _ _ refl;
  line_counts = λ k is. stays w64 _ _ refl;
  district_lines = λ k is. stays w64 _ _ refl;
  order_lines = λ k is. stays w8 _ _ refl;
  waiting = λ k is. stays w64 _ _ refl;
}
  where
    less_none : (a : ℤ) → a ≡ a -ℤ pos 0
    less_none a = omega (arith, ints)

    whole : (b : Bool) → cond b h.amount (pos 0) ≡ cond b (h.amount -ℤ pos 0) (pos 0)
    whole b = ap (λ a. cond b a (pos 0)) (less_none h.amount)

-- no write, and one after others
pub none_moves : (s : Sizes) (order : OrderKey → Option (List ℕ)) (v : SumsView) → MovesSums s order no_record no_history v v
none_moves s order v = record {
  year_to_date = λ w is. stays w64 _ _ refl;
  paid_at_warehouse = λ w is. stays w64 _ _ refl;
  paid_at_district = λ k is. stays w64 _ _ refl;
  paid_by_customer = λ k is. stays w64 _ _ refl;
  delivered = λ k is. stays w64 _ _ refl;
  line_counts = λ k is. stays w64 _ _ refl;
  district_lines = λ k is. stays w64 _ _ refl;
  order_lines = λ k is. stays w8 _ _ refl;
  waiting = λ k is. stays w64 _ _ refl;
}

pub then_moves : (s : Sizes) (order : OrderKey → Option (List ℕ)) (f g : Worth → ℤ) (p q : (History → ℤ) → ℤ) (a b c : SumsView)
    → MovesSums s order f p a b → MovesSums s order g q b c → MovesSums s order (λ r. f r +ℤ g r) (λ h. p h +ℤ q h) a c
then_moves s order f g p q a b c first next = record {
  year_to_date = λ w is. goes_on w64 _ _ _ _ _ (first.year_to_date w is) (next.year_to_date w is);
  paid_at_warehouse = λ w is. goes_on w64 _ _ _ _ _ (first.paid_at_warehouse w is) (next.paid_at_warehouse w is);
  paid_at_district = λ k is. goes_on w64 _ _ _ _ _ (first.paid_at_district k is) (next.paid_at_district k is);
  paid_by_customer = λ k is. goes_on w64 _ _ _ _ _ (first.paid_by_customer k is) (next.paid_by_customer k is);
  delivered = λ k is. goes_on w64 _ _ _ _ _ (first.delivered k is) (next.delivered k is);
  line_counts = λ k is. goes_on w64 _ _ _ _ _ (first.line_counts k is) (next.line_counts k is);
  district_lines = λ k is. goes_on w64 _ _ _ _ _ (first.district_lines k is) (next.district_lines k is);
  order_lines = λ k is. goes_on w8 _ _ _ _ _ (first.order_lines k is) (next.order_lines k is);
  waiting = λ k is. goes_on w64 _ _ _ _ _ (first.waiting k is) (next.waiting k is);
}

-- the same, of a record by its number and of what it held
pub told : (s : Sizes) (order : OrderKey → Option (List ℕ)) (v next after : SumsView) (k j : RecordKey) (old was new : Option (List ℕ))
    → MovesSums s order (step k old new) no_history v next → k ≡ j → old ≡ was → after ≡ next → MovesSums s order (step j was new) no_history v after
told s order v next after k j old was new moves key held is =
    subst (λ a. MovesSums s order (step j was new) no_history v a) (sym is)
    (subst (λ w. MovesSums s order (step j w new) no_history v next) held (subst (λ q. MovesSums s order (step q old new) no_history v next) key moves))

-- records, and then HISTORY rows
pub with_rows : (s : Sizes) (order : OrderKey → Option (List ℕ)) (m : Worth → ℤ) (p : (History → ℤ) → ℤ) (a b c : SumsView)
    → MovesSums s order m no_history a b → MovesSums s order no_record p b c → MovesSums s order m p a c
with_rows s order m p a b c first next =
    subst (λ q. MovesSums s order m q a c) same_row
    (subst (λ f. MovesSums s order f (λ h. pos 0 +ℤ p h) a c) same_records (then_moves s order m no_record no_history p a b c first next))
  where
    none_before : (z : ℤ) → pos 0 +ℤ z ≡ z
    none_before z = omega (arith, ints)

    same_records : ◌≡◌ {A = Worth → ℤ} (λ f. m f +ℤ pos 0) m
    same_records = λ i f. zero_more (m f) i

    same_row : ◌≡◌ {A = (History → ℤ) → ℤ} (λ h. pos 0 +ℤ p h) p
    same_row = λ i h. none_before (p h) i
