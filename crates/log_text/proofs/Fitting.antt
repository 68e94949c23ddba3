-- What keeps the rules fits the bytes of its fields.
use Rattle.std.proofs.Common.{◌≡◌, ℕ, zero, suc, ◌+◌, ◌-◌, ◌*◌, ◌^◌, ◌<◌, ◌≤◌, pos, Bool, true, false, ◌&&◌, Option, Some, None, List, [], ◌∷◌, ◌++◌}
use Rattle.std.proofs.Common.{length, take, drop, replicate, refl, sym, ap, ◌∙◌, subst, arith, mul-le-mul, true≢false}
use Rattle.std.proofs.lemmas.Int.{ints}
use Rattle.std.proofs.lemmas.Bool.{leb-true, ltb-true, not-true}
use Rattle.std.specs.Prelude.{◌==◌, nat_le, nat_lt, int_le, not, cond}
use Rattle.std.specs.List.{AllByRecursion, list_all, count_by}
use Rattle.std.proofs.lemmas.List.{take-append-drop}
use Rattle.std.proofs.lemmas.List.Sums.{sum_by-cons}
use Rattle.customer_data.specs.declared.words.TheConstants.{MIN_DATA, MAX_DATA}
use Rattle.money.specs.declared.payload.TheConstants.{PAYLOAD_WORDS}
use Rattle.tables.specs.Sizes.{Sizes, IsScale}
use Rattle.tables.specs.Records.{table_number}
use Rattle.tables.specs.Rows.{money_of}
use Rattle.tables.specs.declared.limits.TheConstants.{MAX_ORDER_LINES}
use Rattle.tables.specs.declared.records.Table.{Table}
use Rattle.tables.specs.declared.records.Table.TheVariants as table
use Rattle.log_text.specs.Columns.{span, columns, has_text, width, ranges, is_within, are_within}
use Rattle.log_text.specs.Writes.{places, is_data, is_value, is_write, is_history, rank, rise_from, are_writes}
use Rattle.log_text.specs.declared.columns.Range.{Range}
use Rattle.tables.specs.declared.limits.TheConstants.{MAX_WRITES}
use Rattle.log_text.specs.declared.write.Write.{Write}
use Rattle.log_text.specs.declared.write.Value.{Value}
use Rattle.log_text.specs.declared.write.Value.TheVariants as value
use Rattle.log_text.proofs.Texts.{FitsWords, FitsValue, FitsWrite}

pub and_split : (a b : Bool) → a && b ≡ true → (a ≡ true) × (b ≡ true)
and_split true b e = (refl, e)
and_split false b e = absurd (true≢false (sym e))

-- past the columns stand zeros alone
zero_alone : (word : ℕ) → is_within (span 0 0) word ≡ true → word ≡ 0
zero_alone word e =
    let parts = and_split (nat_lt word (2 ^ 64)) (int_le (pos 0) (money_of word) && int_le (money_of word) (pos 0)) e in
    let bounds = and_split (int_le (pos 0) (money_of word)) (int_le (money_of word) (pos 0)) parts.1 in
    let small : word < 2 ^ 64 = ltb-true word (2 ^ 64) parts.0 in
    let low = bounds.0 in
    let high = bounds.1 in
    grind (arith, ints, small, low, high)

zeros_alone : (n : ℕ) (words : List ℕ) → are_within (replicate n (span 0 0)) words ≡ true → words ≡ replicate n 0
zeros_alone zero [] e = refl
zeros_alone zero (word ∷ words) e = absurd (true≢false (sym e))
zeros_alone (suc n) [] e = absurd (true≢false (sym e))
zeros_alone (suc n) (word ∷ words) e =
    let parts = and_split (is_within (span 0 0) word) (are_within (replicate n (span 0 0)) words) e in
    (λ i. zero_alone word parts.0 i ∷ zeros_alone n words parts.1 i)

-- as many words as ranges, each of 64 bits
in_step : (rs : List Range) (words : List ℕ) → are_within rs words ≡ true → length words ≡ length rs
in_step [] [] e = refl
in_step [] (word ∷ words) e = absurd (true≢false (sym e))
in_step (range ∷ rs) [] e = absurd (true≢false (sym e))
in_step (range ∷ rs) (word ∷ words) e = ap (λ (n : ℕ). suc n) (in_step rs words (and_split (is_within range word) (are_within rs words) e).1)

all_small : (rs : List Range) (words : List ℕ) → are_within rs words ≡ true → AllByRecursion (λ w. w < 256 ^ 8) words
all_small [] [] e = tt
all_small [] (word ∷ words) e = absurd (true≢false (sym e))
all_small (range ∷ rs) [] e = absurd (true≢false (sym e))
all_small (range ∷ rs) (word ∷ words) e =
    let parts = and_split (is_within range word) (are_within rs words) e in
    let small = and_split (nat_lt word (2 ^ 64)) (int_le range.low (money_of word) && int_le (money_of word) range.high) parts.0 in
    (ltb-true word (2 ^ 64) small.0, all_small rs words parts.1)

-- the words of the first ranges, and those behind them
in_front : (rs qs : List Range) (words : List ℕ) → are_within (rs ++ qs) words ≡ true
    → (are_within rs (take (length rs) words) ≡ true) × (are_within qs (drop (length rs) words) ≡ true)
in_front [] qs words e = (none words, e)
  where
    none : (words : List ℕ) → are_within [] (take 0 words) ≡ true
    none words = refl
in_front (range ∷ rs) qs [] e = absurd (true≢false (sym e))
in_front (range ∷ rs) qs (word ∷ words) e =
    let parts = and_split (is_within range word) (are_within (rs ++ qs) words) e in
    let others = in_front rs qs words parts.1 in
    (ap (λ (b : Bool). b && are_within rs (take (length rs) words)) parts.0 ∙ others.0, others.1)

-- a table has as many columns at each scale
columns_are : (s : Sizes) (t : Table) → length (columns s t) ≡ width t
columns_are s table.Warehouse = refl
columns_are s table.District = refl
columns_are s table.Customer = refl
columns_are s table.History = refl
columns_are s table.NewOrder = refl
columns_are s table.Order = refl
columns_are s table.OrderLine = refl
columns_are s table.Item = refl
columns_are s table.Stock = refl
columns_are s table.Oldest = refl
columns_are s table.Last = refl
columns_are s table.CustomerData = refl

words_fit : (s : Sizes) (t : Table) (words : List ℕ) → are_within (ranges s t) words ≡ true → FitsWords (width t) words
words_fit s t words e =
    let parts = in_front (columns s t) (replicate (PAYLOAD_WORDS - width t) (span 0 0)) words e in
    let n = columns_are s t in
    let front : are_within (columns s t) (take (width t) words) ≡ true =
    subst (λ (k : ℕ). are_within (columns s t) (take k words) ≡ true) n parts.0 in
    let behind : drop (width t) words ≡ replicate (PAYLOAD_WORDS - width t) 0 =
    ap (λ (k : ℕ). drop k words) (sym n) ∙ zeros_alone (PAYLOAD_WORDS - width t) (drop (length (columns s t)) words) parts.1 in
    let long : length (take (width t) words) ≡ width t = in_step (columns s t) (take (width t) words) front ∙ n in
    record {
      long = long;
      small = all_small (columns s t) (take (width t) words) front;
      padded = ap (λ (k : ℕ). take (width t) words ++ replicate (PAYLOAD_WORDS - k) 0) long ∙ ap (λ (z : List ℕ). take (width t) words ++ z) (sym behind)
          ∙ take-append-drop (width t) words;
    }

-- a text of C_DATA has a length of two bytes
data_fits : (text : List ℕ) → is_data text ≡ true → length text < 256 ^ 2
data_fits text e =
    let halves = and_split (nat_le MIN_DATA (length text) && nat_le (length text) MAX_DATA) (list_all (λ b. nat_le 32 b && nat_le b 126) text) e in
    omega (arith, leb-true (length text) MAX_DATA (and_split (nat_le MIN_DATA (length text)) (nat_le (length text) MAX_DATA) halves.0).1)

value_fits : (s : Sizes) (t : Table) (v : Value) → is_value s t v ≡ true → FitsValue t v
value_fits s t value.Absent e = tt
value_fits s t (value.Columns words) e =
    let parts = and_split (not (has_text t)) (are_within (ranges s t) words) e in
    (not-true (has_text t) parts.0, words_fit s t words parts.1)
value_fits s t (value.Text text) e =
    let parts = and_split (has_text t) (is_data text) e in
    (parts.0, data_fits text parts.1)

few_districts : (s : Sizes) → IsScale s → s.warehouses * s.districts ≤ 8 * 10
few_districts s is = mul-le-mul is.warehouses.1 is.districts.1

-- a table's places are numbers of four bytes
pub few_places : (s : Sizes) → IsScale s → (t : Table) → places s t < 256 ^ 4
few_places s is table.Warehouse = omega (arith, is.warehouses.1)
few_places s is table.District = omega (arith, few_districts s is)
few_places s is table.Customer = omega (arith, mul-le-mul (few_districts s is) is.customers.1)
few_places s is table.History = omega arith
few_places s is table.NewOrder = omega (arith, mul-le-mul (few_districts s is) is.orders.1)
few_places s is table.Order = omega (arith, mul-le-mul (few_districts s is) is.orders.1)
few_places s is table.OrderLine = omega (arith, mul-le-mul (mul-le-mul (few_districts s is) is.orders.1) (same MAX_ORDER_LINES))
  where
    same : (n : ℕ) → n ≤ n
    same n = omega arith
few_places s is table.Item = omega arith
few_places s is table.Stock = omega (arith, mul-le-mul is.warehouses.1 is.items.1)
few_places s is table.Oldest = omega (arith, few_districts s is)
few_places s is table.Last = omega (arith, mul-le-mul (few_districts s is) is.customers.1)
few_places s is table.CustomerData = omega (arith, mul-le-mul (few_districts s is) is.customers.1)

write_fits : (s : Sizes) → IsScale s → (w : Write) → is_write s w ≡ true → FitsWrite w
write_fits s is w e =
    let parts = and_split (nat_lt w.place (places s w.table)) (is_value s w.table w.value) e in
    record { place = omega (arith, ltb-true w.place (places s w.table) parts.0, few_places s is w.table); value = value_fits s w.table w.value parts.1 }

writes_fit : (s : Sizes) → IsScale s → (ws : List Write) → list_all (is_write s) ws ≡ true → AllByRecursion FitsWrite ws
writes_fit s is [] e = tt
writes_fit s is (w ∷ ws) e =
    let parts = and_split (is_write s w) (list_all (is_write s) ws) e in
    (write_fits s is w parts.0, writes_fit s is ws parts.1)

-- a write to HISTORY has the place 0
history_rank : (s : Sizes) (w : Write) → is_write s w ≡ true → is_history w ≡ true → rank w ≡ 4 * 2 ^ 32
history_rank s w e h =
    let parts = and_split (nat_lt w.place (places s w.table)) (is_value s w.table w.value) e in
    first w.table w.place (ltb-true w.place (places s w.table) parts.0) h
  where
    first : (t : Table) (place : ℕ) → place < places s t → (table_number t == 4) ≡ true → table_number t * 2 ^ 32 + place ≡ 4 * 2 ^ 32
    first table.Warehouse place small h = absurd (true≢false (sym h))
    first table.District place small h = absurd (true≢false (sym h))
    first table.Customer place small h = absurd (true≢false (sym h))
    first table.History place small h = omega (arith, small)
    first table.NewOrder place small h = absurd (true≢false (sym h))
    first table.Order place small h = absurd (true≢false (sym h))
    first table.OrderLine place small h = absurd (true≢false (sym h))
    first table.Item place small h = absurd (true≢false (sym h))
    first table.Stock place small h = absurd (true≢false (sym h))
    first table.Oldest place small h = absurd (true≢false (sym h))
    first table.Last place small h = absurd (true≢false (sym h))
    first table.CustomerData place small h = absurd (true≢false (sym h))

-- behind HISTORY's place no write to it stands
abbrev histories : List Write → ℕ
histories ws = count_by is_history ws

no_history : (s : Sizes) (least : ℕ) (ws : List Write) → 4 * 2 ^ 32 < least → list_all (is_write s) ws ≡ true → rise_from least ws ≡ true → histories ws ≡ 0
no_history s least [] above all rise = refl
no_history s least (w ∷ ws) above all rise =
    let one = and_split (is_write s w) (list_all (is_write s) ws) all in
    let first = and_split (nat_le least (rank w)) (rise_from (rank w + 1) ws) rise in
    let far : least ≤ rank w = leb-true least (rank w) first.0 in
    let others : histories ws ≡ 0 = no_history s (rank w + 1) ws (omega (arith, above, far)) one.1 first.1 in
    sum_by-cons (λ v. cond (is_history v) 1 0) w ws ∙ counted (is_history w) others (λ h. omega (arith, above, far, history_rank s w one.0 h))
  where
    counted : (b : Bool) → histories ws ≡ 0 → (b ≡ true → ⊥) → cond b 1 0 + histories ws ≡ 0
    counted true none not_there = elim (not_there refl) [ ]
    counted false none not_there = omega (arith, none)

one_history : (s : Sizes) (least : ℕ) (ws : List Write) → list_all (is_write s) ws ≡ true → rise_from least ws ≡ true → histories ws ≤ 1
one_history s least [] all rise = omega arith
one_history s least (w ∷ ws) all rise =
    let one = and_split (is_write s w) (list_all (is_write s) ws) all in
    let first = and_split (nat_le least (rank w)) (rise_from (rank w + 1) ws) rise in
    subst (λ (n : ℕ). n ≤ 1) (sym (sum_by-cons (λ v. cond (is_history v) 1 0) w ws)) (counted (is_history w)
    (λ h. no_history s (rank w + 1) ws (omega (arith, history_rank s w one.0 h)) one.1 first.1)
    (one_history s (rank w + 1) ws one.1 first.1))
  where
    counted : (b : Bool) → (b ≡ true → histories ws ≡ 0) → histories ws ≤ 1 → cond b 1 0 + histories ws ≤ 1
    counted true none few = omega (arith, none refl)
    counted false none few = omega (arith, few)

each_is_one : (ws : List Write) → length ws ≡ count_by (λ w. not (is_history w)) ws + histories ws
each_is_one [] = refl
each_is_one (w ∷ ws) =
    counted (is_history w) (length ws) (count_by (λ w. not (is_history w)) ws) (histories ws) (each_is_one ws)
    ∙ sym (λ i. sum_by-cons (λ v. cond (not (is_history v)) 1 0) w ws i + sum_by-cons (λ v. cond (is_history v) 1 0) w ws i)
  where
    counted : (b : Bool) (n m k : ℕ) → n ≡ m + k → suc n ≡ cond (not b) 1 0 + m + (cond b 1 0 + k)
    counted true n m k e = omega (arith, e)
    counted false n m k e = omega (arith, e)

pub few_writes : (s : Sizes) (ws : List Write) → are_writes s ws ≡ true → length ws ≤ MAX_WRITES + 1
few_writes s ws e =
    let all = and_split (list_all (is_write s) ws) (rise_from 0 ws && nat_le (count_by (λ w. not (is_history w)) ws) MAX_WRITES) e in
    let others = and_split (rise_from 0 ws) (nat_le (count_by (λ w. not (is_history w)) ws) MAX_WRITES) all.1 in
    omega (arith, each_is_one ws, one_history s 0 ws all.0 others.0, leb-true (count_by (λ w. not (is_history w)) ws) MAX_WRITES others.1)

pub all_writes_fit : (s : Sizes) → IsScale s → (ws : List Write) → are_writes s ws ≡ true → AllByRecursion FitsWrite ws
all_writes_fit s is ws e =
    writes_fit s is ws (and_split (list_all (is_write s) ws) (rise_from 0 ws && nat_le (count_by (λ w. not (is_history w)) ws) MAX_WRITES) e).0
