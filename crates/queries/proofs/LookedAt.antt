-- The items of a district's last orders, line by line.
use Rattle.std.proofs.Common.{◌≡◌, ℕ, ◌+◌, ◌-◌, ◌≤◌, max, nat_le, Bool, true, false, ◌==◌, ◌&&◌, ◌||◌, List, [], ◌∷◌, ◌++◌, Option, Some, None, is_some, refl}
use Rattle.std.proofs.Common.{sym, ap, ◌∙◌, subst, arith}
use Rattle.std.proofs.Math.Bool.{and_assoc, and-false, or-false}
use Rattle.std.proofs.lemmas.Bool.Decides.{nat_tests}
use Rattle.std.proofs.lemmas.List.Folds.{list_any-append}
use Rattle.std.specs.Cmp.{tied_then}
use Rattle.std.specs.List.{list_any}
use Rattle.std.specs.Option.{option_map, option_map_or}
use Rattle.std.specs.Ordering.{eq_by_cmp, is_eq, nat_cmp, ordering_then}
use Rattle.std.specs.FinMap.{entries, get}
use Rattle.tables.specs.Keys.{line_cmp, is_district, order_of}
use Rattle.tables.specs.NewOrder.{line_key}
use Rattle.tables.specs.Database.{Database}
use Rattle.tables.specs.OrderNumbers.{next_order}
use Rattle.tables.specs.StockLevel.{is_recent, is_sold}
use Rattle.tables.specs.declared.limits.TheConstants.{RECENT_ORDERS}
use Rattle.tables.specs.declared.keys.DistrictKey.{DistrictKey}
use Rattle.tables.specs.declared.keys.LineKey.{LineKey}
use Rattle.tables.specs.declared.rows.Order.{Order}
use Rattle.tables.specs.declared.rows.OrderLine.{OrderLine}
use Rattle.tables.proofs.Orders.{exact_line}
use Rattle.tables.proofs.KeyTests.{eqb-nat_cmp}
use Rattle.tables_laws.proofs.Touched.{district_named}
use Rattle.readset.specs.Reads.{ReadSetView, Keeps}
use Rattle.readset.specs.Explains.{IsCandidate}
use Rattle.readset.proofs.MoreReads.{candidate_before}
use Rattle.queries.specs.SoldItems.{is_looked_at, order_line_count, AreItems}
use Rattle.queries.proofs.AnyRow.{any_alike, any_more}

-- ---- the lines looked at
line_test : (a k : LineKey) → ((a.warehouse == k.warehouse) && ((a.district == k.district) && ((a.order == k.order) && (a.line == k.line)))) ≡ eq_by_cmp
    line_cmp a k
line_test a k =
    (λ i. eqb-nat_cmp a.warehouse k.warehouse i && (eqb-nat_cmp a.district k.district i && (eqb-nat_cmp a.order k.order i && eqb-nat_cmp a.line k.line i)))
    ∙ ap (λ b. is_eq (nat_cmp a.warehouse k.warehouse) && (is_eq (nat_cmp a.district k.district) && b))
    (tied_then (nat_cmp a.order k.order) (nat_cmp a.line k.line))
    ∙ ap (λ b. is_eq (nat_cmp a.warehouse k.warehouse) && b)
    (tied_then (nat_cmp a.district k.district) (ordering_then (nat_cmp a.order k.order) (nat_cmp a.line k.line)))
    ∙ tied_then (nat_cmp a.warehouse k.warehouse)
    (ordering_then (nat_cmp a.district k.district) (ordering_then (nat_cmp a.order k.order) (nat_cmp a.line k.line)))

swapped : (a b : ℕ) → (a == b) ≡ (b == a)
swapped a b = grind (arith, nat_tests)

up_to_next : (l m : ℕ) → nat_le l (m + 1) ≡ (nat_le l m || (m + 1 == l))
up_to_next l m = grind (arith, nat_tests)

-- a test that grows by one case, of numbers that are equal to it
grown : (w d x o l n : Bool) → ((w && d) && (x || (o && (l || n)))) ≡ (((w && d) && (x || (o && l))) || (w && (d && (o && n))))
grown true true true o l n = refl
grown true true false true true n = refl
grown true true false true false n = refl
grown true true false false l n = refl
grown true false x o l n = refl
grown false d x o l n = refl

module _ (d : DistrictKey) (first : ℕ) where
  -- one line more of an order
  line_more : (o m : ℕ) (k : LineKey)
      → is_looked_at d first o
      (m + 1) k ≡ (is_looked_at d first o m k
      || eq_by_cmp line_cmp (line_key (record { warehouse = d.warehouse; district = d.district; order = o }) (m + 1)) k)
  line_more o m k =
      let early : Bool = nat_le first k.order && nat_le (k.order + 1) o in
      ap (λ b. is_district k.warehouse k.district d && (early || ((k.order == o) && b))) (up_to_next k.line m)
      ∙ grown (k.warehouse == d.warehouse) (k.district == d.district) early (k.order == o) (nat_le k.line m) (m + 1 == k.line)
      ∙ ap (λ b. is_looked_at d first o m k || b) (
      (λ i. swapped k.warehouse d.warehouse i && (swapped k.district d.district i && (swapped k.order o i && (m + 1 == k.line))))
      ∙ line_test (line_key (record { warehouse = d.warehouse; district = d.district; order = o }) (m + 1)) k
      )

  -- all lines of an order are those before the next
  order_more : (o m : ℕ) (k : LineKey) → first ≤ o → 1 ≤ k.line → (order_of k ≡ record { warehouse = d.warehouse; district = d.district; order = o } → k.line ≤ m)
      → is_looked_at d first o m k ≡ is_looked_at d first (o + 1) 0 k
  order_more o m k low one all =
      elim (is_district k.warehouse k.district d) as (λ b. is_district k.warehouse k.district d ≡ b
      → (b && ((nat_le first k.order && nat_le (k.order + 1) o) || ((k.order == o) && nat_le k.line m))) ≡ (b
      && ((nat_le first k.order && nat_le (k.order + 1) (o + 1)) || ((k.order == o + 1) && nat_le k.line 0)))) [
        | true ↦ λ e. at_order k.order k.line one (λ same. all (λ i. let home = district_named k.warehouse k.district d e in
            record { warehouse = (home i).warehouse; district = (home i).district; order = same i }))
        | false ↦ λ e. refl
      ] refl
    where
      at_order : (n l : ℕ) → 1 ≤ l → (n ≡ o → l ≤ m)
          → ((nat_le first n && nat_le (n + 1) o) || ((n == o) && nat_le l m)) ≡ ((nat_le first n && nat_le (n + 1) (o + 1)) || ((n == o + 1) && nat_le l 0))
      at_order n l some many = grind (arith, nat_tests, low, some, many)

  -- none is before the first
  none_yet : (k : LineKey) → 1 ≤ k.line → is_looked_at d first first 0 k ≡ false
  none_yet k line = ap (λ b. is_district k.warehouse k.district d && b) (at_first k.order k.line line) ∙ and-false (is_district k.warehouse k.district d)
    where
      at_first : (n l : ℕ) → 1 ≤ l → ((nat_le first n && nat_le (n + 1) first) || ((n == first) && nat_le l 0)) ≡ false
      at_first n l one = grind (arith, nat_tests, one)

-- at the end, those of the last 20 orders
recent : (d : DistrictKey) (next : ℕ) (k : LineKey) → 1 ≤ k.order → 1 ≤ k.line
    → is_looked_at d (max 1 (next - RECENT_ORDERS)) next 0 k ≡ (is_district k.warehouse k.district d && nat_le (next - RECENT_ORDERS) k.order
    && nat_le (k.order + 1) next)
recent d next k order line = ap (λ b. is_district k.warehouse k.district d && b) (at_end k.order k.line order line)
    ∙ sym (and_assoc (is_district k.warehouse k.district d) _ _)
  where
    at_end : (n l : ℕ) → 1 ≤ n → 1 ≤ l
        → ((nat_le (max 1 (next - RECENT_ORDERS)) n && nat_le (n + 1) next) || ((n == next) && nat_le l 0)) ≡ (nat_le (next - RECENT_ORDERS) n
        && nat_le (n + 1) next)
    at_end n l one some = grind (arith, nat_tests, one, some)

-- ---- their items
abbrev one_of : ℕ → List ℕ → Bool
one_of i items = list_any (λ j. j == i) items

-- an item pushed, if there is one
one_pushed : (i : ℕ) (items : List ℕ) (w : Option OrderLine) → (one_of i items || option_map_or (λ (r : OrderLine). r.item == i) w false) ≡ one_of i
    (items ++ option_map_or (λ n. n ∷ []) (option_map (λ (r : OrderLine). r.item) w) [])
one_pushed i items None = sym (list_any-append (λ j. j == i) items [])
one_pushed i items (Some r) = ap (λ b. one_of i items || b) (sym (or-false (r.item == i))) ∙ sym (list_any-append (λ j. j == i) items (r.item ∷ []))

module _ (t0 : Database) (d : DistrictKey) (first : ℕ) where
  -- before the first order
  pub none_before : (reads : ReadSetView) → AreItems t0 d first first 0 reads []
  none_before reads t h i =
      any_alike exact_line (λ (e : LineKey × OrderLine). is_looked_at d first first 0 e.0 && (e.1.item == i)) (λ e. false) t.lines
      (λ k r found. ap (λ b. b && (r.item == i)) (none_yet d first k (h.well_formed.lines k (ap is_some found)).3.0))
      ∙ nothing (entries t.lines)
    where
      nothing : (es : List (LineKey × OrderLine)) → list_any (λ (e : LineKey × OrderLine). false) es ≡ false
      nothing [] = refl
      nothing (e ∷ es) = nothing es

  -- after reads more
  pub still_items : (o m : ℕ) (old more : ReadSetView) (items : List ℕ) → AreItems t0 d first o m old items → Keeps old more → AreItems t0 d first o m more items
  still_items o m old more items so_far keeps t h = so_far t (candidate_before t0 old more t keeps h)

  -- one line more
  pub next_line : (o m : ℕ) (old more : ReadSetView) (items : List ℕ) (item : Option ℕ) → AreItems t0 d first o m old items → Keeps old more
      → ((t : Database) → IsCandidate t0 more t
      → option_map (λ r. r.item) (get t.lines (line_key (record { warehouse = d.warehouse; district = d.district; order = o }) (m + 1))) ≡ item)
      → AreItems t0 d first o (m + 1) more (items ++ option_map_or (λ i. i ∷ []) item [])
  next_line o m old more items item so_far keeps is t h i =
      let k : LineKey = line_key (record { warehouse = d.warehouse; district = d.district; order = o }) (m + 1) in
      any_more exact_line (is_looked_at d first o m) (is_looked_at d first o (m + 1)) (λ (r : OrderLine). r.item == i) k (line_more d first o m) t.lines
      ∙ ap (λ b. b || option_map_or (λ (r : OrderLine). r.item == i) (get t.lines k) false) (so_far t (candidate_before t0 old more t keeps h) i)
      ∙ one_pushed i items (get t.lines k)
      ∙ ap (λ w. one_of i (items ++ option_map_or (λ n. n ∷ []) w [])) (is t h)

  -- an order's last line, whose number is at most its O_OL_CNT
  pub next_first : (o m : ℕ) (reads : ReadSetView) (items : List ℕ) → first ≤ o
      → ((t : Database) → IsCandidate t0 reads t → order_line_count t (record { warehouse = d.warehouse; district = d.district; order = o }) ≡ m)
      → AreItems t0 d first o m reads items → AreItems t0 d first (o + 1) 0 reads items
  next_first o m reads items low count so_far t h i =
      any_alike exact_line (λ (e : LineKey × OrderLine). is_looked_at d first (o + 1) 0 e.0 && (e.1.item == i))
      (λ (e : LineKey × OrderLine). is_looked_at d first o m e.0 && (e.1.item == i)) t.lines
      (λ k r found.
      let order = h.well_formed.line_orders k r found in
      let counted : order_line_count t (order_of k) ≡ order.0.line_count = ap (λ (w : Option Order). option_map_or (λ r. r.line_count) w 0) order.1 in
      let all : order_of k ≡ record { warehouse = d.warehouse; district = d.district; order = o } → k.line ≤ m =
      λ same. subst (λ n. k.line ≤ n) (sym counted ∙ ap (order_line_count t) same ∙ count t h) order.2 in
      ap (λ b. b && (r.item == i)) (sym (order_more d first o m k low (h.well_formed.lines k (ap is_some found)).3.0 all)))
      ∙ so_far t h i

-- after the last order
pub all_sold : (t0 : Database) (d : DistrictKey) (next : ℕ) (reads : ReadSetView) (items : List ℕ)
    → AreItems t0 d (max 1 (next - RECENT_ORDERS)) next 0 reads items
    → (t : Database) → IsCandidate t0 reads t → next_order t d ≡ next → (i : ℕ) → is_sold t d i ≡ one_of i items
all_sold t0 d next reads items all t h is i =
    any_alike exact_line (λ (e : LineKey × OrderLine). is_recent t d e.0 && (e.1.item == i))
    (λ (e : LineKey × OrderLine). is_looked_at d (max 1 (next - RECENT_ORDERS)) next 0 e.0 && (e.1.item == i)) t.lines
    (λ k r found. let within = h.well_formed.lines k (ap is_some found) in
    ap (λ n. (is_district k.warehouse k.district d && nat_le (n - RECENT_ORDERS) k.order && nat_le (k.order + 1) n) && (r.item == i)) is
    ∙ ap (λ b. b && (r.item == i)) (sym (recent d next k within.2.0 within.3.0)))
    ∙ all t h i
