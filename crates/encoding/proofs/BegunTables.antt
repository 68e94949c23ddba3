-- What the tables' rows let records begin with, by key.
use Rattle.std.proofs.Common.{◌≡◌, ◌≢◌, ℕ, ◌-◌, ◌<◌, ◌+◌, ◌==◌, Bool, true, false, true≢false, cond, Option, Some, None, List, [], ◌∷◌, length}
use Rattle.std.proofs.Common.{get_or, replicate, refl, sym, ap, ◌∙◌, subst, arith}
use Rattle.std.specs.List.{AllByRecursion, fold}
use Rattle.std.specs.Option.{option_map, option_map_or}
use Rattle.std.specs.List.Sorted.{IsStrictlySortedBy}
use Rattle.std.specs.Map.{keys_of}
use Rattle.std.specs.Ordering.{nat_cmp, eq_by_cmp, is_eq}
use Rattle.std.specs.Cmp.{tied_itself}
use Rattle.std.specs.BTreeMap as tree
use Rattle.std.specs.BTreeMap.{BTreeMap}
use Rattle.std.specs.FinMap.{find, get, from_entries, get-from_entries}
use Rattle.std.specs.declared.cmp.Ordering.{Ordering}
use Rattle.std.proofs.lemmas.Bool.Decides.{nat_tests}
use Rattle.std.proofs.lemmas.List.{get_or-replicate, length-replicate}
use Rattle.std.proofs.lemmas.Option.{slice_get-get_or}
use Rattle.tables.specs.Sizes.{Sizes}
use Rattle.tables.specs.Records.{tables, table_number, table_of, place_of, district_at, customer_at, order_at, line_at, stock_at, key_at, key_of, number_of_key}
use Rattle.tables.specs.Records.{narrow_count, IsNarrowKey}
use Rattle.tables.specs.Keys.{district_cmp, customer_cmp, order_cmp, line_cmp, stock_cmp}
use Rattle.tables.specs.Maps.{EachRow}
use Rattle.tables.specs.declared.records.Table.{Table}
use Rattle.tables.specs.declared.records.Table.TheVariants as table
use Rattle.tables.specs.declared.records.RecordKey.{RecordKey}
use Rattle.tables.specs.declared.records.RecordKey.TheVariants as key
use Rattle.tables.proofs.Orders.{IsExact, exact_number, exact_district, exact_customer, exact_order, exact_line, exact_stock}
use Rattle.tables.proofs.Entries.{tied}
use Rattle.tables.proofs.Numbers.{named, narrow_named, of_narrow, warehouse_there, district_there, customer_there, order_there, line_there, stock_there}
use Rattle.cells.specs.Records.{newest_words}
use Rattle.cells.specs.First.{populated_word, first_version}
use Rattle.cells.specs.declared.cells.Newest.{Newest}
use Rattle.encoding.specs.Newest.{words_at}
use Rattle.encoding.specs.Begun.{AreBegun, begun_by, data_of}
use Rattle.encoding.proofs.EachEntry.{no_other, each_entry}

-- ---- no record is there
module _ (s : Sizes) (absent : Newest) (is_absent : newest_words absent ≡ first_version None) where
  replicated : (count n : ℕ) → n < count → words_at (replicate count absent) n ≡ first_version None
  replicated count n h =
      let longer : n < length (replicate count absent) = omega (arith, h, length-replicate count absent) in
      ap (λ (o : Option Newest). option_map_or newest_words o [])
      (slice_get-get_or (replicate count absent) n absent longer ∙ ap Some (get_or-replicate count n absent absent h)) ∙ is_absent

  pub absent_begun : (count : ℕ) (first : List Newest) → first ≡ replicate count absent → count ≡ narrow_count s → AreBegun s (λ k. None) first
  absent_begun count first is all = record {
    count = ap length is ∙ length-replicate count absent ∙ all;
    words = λ k h. ap (λ (ns : List Newest). words_at ns (number_of_key s k)) is
        ∙ replicated count (number_of_key s k) (subst (λ m. number_of_key s k < m) (sym all) (narrow_named s k h));
  }

-- ---- records and their tables
-- a table by its number
table_of_number : ℕ → Table
table_of_number n = get_or tables (n - 1) table.Warehouse

told : (t : Table) → table_of_number (table_number t) ≡ t
unfolding table_of_number
told table.Warehouse = refl
told table.District = refl
told table.Customer = refl
told table.History = refl
told table.NewOrder = refl
told table.Order = refl
told table.OrderLine = refl
told table.Item = refl
told table.Stock = refl
told table.Oldest = refl
told table.Last = refl
told table.CustomerData = refl

same_table : (t u : Table) → table_number t ≡ table_number u → t ≡ u
same_table t u e = sym (told t) ∙ ap table_of_number e ∙ told u

-- these values for the records of one table, and those for the others
abbrev pub with_table : Table → (RecordKey → Option (List ℕ)) → (RecordKey → Option (List ℕ)) → RecordKey → Option (List ℕ)
with_table t value values k = cond (table_number (table_of k) == table_number t) (value k) (values k)

module _ (s : Sizes) where
  -- a record is the one at its place in its table
  placed : (k : RecordKey) → IsNarrowKey s k → k ≡ key_at s (table_of k) (place_of s k)
  placed (key.Warehouse w) h = ap key.Warehouse (sym (warehouse_there s w h).1)
  placed (key.District k) h = ap key.District (sym (district_there s k h).1)
  placed (key.Customer k) h = ap key.Customer (sym (customer_there s k h).1)
  placed (key.NewOrder k) h = ap key.NewOrder (sym (order_there s k h).1)
  placed (key.Order k) h = ap key.Order (sym (order_there s k h).1)
  placed (key.OrderLine k) h = ap key.OrderLine (sym (line_there s k h).1)
  placed (key.Stock k) h = ap key.Stock (sym (stock_there s k h).1)
  placed (key.Oldest k) h = ap key.Oldest (sym (district_there s k h).1)
  placed (key.Last k) h = ap key.Last (sym (customer_there s k h).1)
  placed (key.CustomerData k) h = absurd h

  -- a test of numbers is one of records
  test : (j k : RecordKey) → IsNarrowKey s j → IsNarrowKey s k → (b : Bool) → (b ≡ true → j ≡ k) → (j ≡ k → b ≡ true)
      → (number_of_key s j == number_of_key s k) ≡ b
  test j k hj hk true to from = let same : number_of_key s j ≡ number_of_key s k = ap (number_of_key s) (to refl) in grind (arith, nat_tests)
  test j k hj hk false to from = let other : number_of_key s j ≢ number_of_key s k =
      λ e. true≢false (sym (from (sym (named s j (of_narrow s j hj)).1 ∙ ap (key_of s) e ∙ (named s k (of_narrow s k hk)).1))) in grind (arith, nat_tests)

  module _ {K X : Type 0} (record_of : K → X → RecordKey) (words_of : List ℕ → K → X → List ℕ) where
    -- entries of other records change nothing
    unchanged : (j : RecordKey) → IsNarrowKey s j → ((k : K) (r : X) → record_of k r ≢ j) → (es : List (K × X))
        → AllByRecursion (λ e. IsNarrowKey s (record_of e.0 e.1)) es → (w : List ℕ) → fold (begun_by s record_of words_of (number_of_key s j)) w es ≡ w
    unchanged j h apart [] keys w = refl
    unchanged j h apart (e ∷ es) keys w =
        let other : (number_of_key s j == number_of_key s (record_of e.0 e.1)) ≡ false = test j (record_of e.0 e.1) h keys.0 false (λ t. cc)
        (λ same. absurd (apart e.0 e.1 (sym same))) in
        ap (λ b. fold (begun_by s record_of words_of (number_of_key s j)) (cond b (populated_word ∷ words_of (data_of w) e.0 e.1) w) es) other
        ∙ unchanged j h apart es keys.1 w

    -- a pass over a table's entries
    pub table_begun : (t : Table) → ((k : K) (r : X) → table_of (record_of k r) ≡ t) → (es : List (K × X))
        → AllByRecursion (λ e. IsNarrowKey s (record_of e.0 e.1)) es → (values value : RecordKey → Option (List ℕ)) (old new : List Newest)
        → ((j : RecordKey) → IsNarrowKey s j → table_of j ≡ t → fold (begun_by s record_of words_of (number_of_key s j)) (first_version (values j))
        es ≡ first_version (value j))
        → length new ≡ length old → ((n : ℕ) → n < length old → words_at new n ≡ fold (begun_by s record_of words_of n) (words_at old n) es)
        → AreBegun s values old → AreBegun s (with_table t value values) new
    table_begun t its es keys values value old new here long words a = record {
      count = long ∙ a.count;
      words = λ j h.
          let n = number_of_key s j in
          let below : n < length old = omega (arith, a.count, narrow_named s j h) in
          words n below ∙ ap (λ (w : List ℕ). fold (begun_by s record_of words_of n) w es) (a.words j h)
          ∙ (elim (table_number (table_of j) == table_number t) as
          (λ b. (table_number (table_of j) == table_number t) ≡ b → fold (begun_by s record_of words_of n) (first_version (values j)) es ≡ first_version
          (cond b (value j) (values j))) [
            | true ↦ λ q. here j h (same_table (table_of j) t (grind (arith, nat_tests)))
            | false ↦ λ q. let other : table_number (table_of j) ≢ table_number t = grind (arith, nat_tests) in
                unchanged j h (λ k r same. other (ap table_number (sym (ap table_of same) ∙ its k r))) es keys (first_version (values j))
          ] refl);
    }

-- ---- the records of a table, which c makes of their keys
pub record IsKind (s : Sizes) {K : Type 0} (R : K → K → Ordering) (t : Table) (c : K → RecordKey) : Type 0 where
  pub exact : IsExact R
  pub one : (j k : K) → c j ≡ c k → j ≡ k
  pub own : (k : K) → table_of (c k) ≡ t
  pub all : (p : ℕ) → (k : K) × (key_at s t p ≡ c k)

module _ (s : Sizes) where
  pub warehouses : IsKind s nat_cmp table.Warehouse key.Warehouse
  warehouses = record { exact = exact_number; one = λ j k e. cc; own = λ k. refl; all = λ p. (p + 1, refl) }

  pub districts : IsKind s district_cmp table.District key.District
  districts = record { exact = exact_district; one = λ j k e. cc; own = λ k. refl; all = λ p. (district_at s p, refl) }

  pub customers : IsKind s customer_cmp table.Customer key.Customer
  customers = record { exact = exact_customer; one = λ j k e. cc; own = λ k. refl; all = λ p. (customer_at s p, refl) }

  pub new_orders : IsKind s order_cmp table.NewOrder key.NewOrder
  new_orders = record { exact = exact_order; one = λ j k e. cc; own = λ k. refl; all = λ p. (order_at s p, refl) }

  pub orders : IsKind s order_cmp table.Order key.Order
  orders = record { exact = exact_order; one = λ j k e. cc; own = λ k. refl; all = λ p. (order_at s p, refl) }

  pub lines : IsKind s line_cmp table.OrderLine key.OrderLine
  lines = record { exact = exact_line; one = λ j k e. cc; own = λ k. refl; all = λ p. (line_at s p, refl) }

  pub stock : IsKind s stock_cmp table.Stock key.Stock
  stock = record { exact = exact_stock; one = λ j k e. cc; own = λ k. refl; all = λ p. (stock_at s p, refl) }

  pub oldest_orders : IsKind s district_cmp table.Oldest key.Oldest
  oldest_orders = record { exact = exact_district; one = λ j k e. cc; own = λ k. refl; all = λ p. (district_at s p, refl) }

  pub last_orders : IsKind s customer_cmp table.Last key.Last
  last_orders = record { exact = exact_customer; one = λ j k e. cc; own = λ k. refl; all = λ p. (customer_at s p, refl) }

module _ {s : Sizes} {K : Type 0} {R : K → K → Ordering} {t : Table} {c : K → RecordKey} (kind : IsKind s R t c) where
  pub same_number : (k j : K) → IsNarrowKey s (c k) → IsNarrowKey s (c j) → (number_of_key s (c k) == number_of_key s (c j)) ≡ eq_by_cmp R k j
  same_number k j hk hj = test s (c k) (c j) hk hj (eq_by_cmp R k j) (λ t. ap c (kind.exact.same k j (tied _ t)))
      (λ same. ap (λ i. eq_by_cmp R k i) (sym (kind.one k j same)) ∙ ap is_eq (tied_itself kind.exact.total k))

  -- what holds of each that c makes holds of each record of the table
  pub of_kind : (P : RecordKey → Type 0) → ((k : K) → IsNarrowKey s (c k) → P (c k)) → (j : RecordKey) → IsNarrowKey s j → table_of j ≡ t → P j
  of_kind P holds j h its =
      let at = kind.all (place_of s j) in
      let same : j ≡ c at.0 = placed s j h ∙ (λ i. key_at s (its i) (place_of s j)) ∙ at.1 in
      subst P (sym same) (holds at.0 (subst (IsNarrowKey s) same h))

  -- rows, each with a record of its own
  module _ {X : Type 0} (words : X → List ℕ) where
    abbrev row_begins : ℕ → List ℕ → K × X → List ℕ
    row_begins = begun_by s (λ (k : K) (r : X). c k) (λ _ _ r. words r)

    found : (k : K) → IsNarrowKey s (c k) → (es : List (K × X)) → IsStrictlySortedBy R (keys_of es) → AllByRecursion (λ e. IsNarrowKey s (c e.0)) es
        → (w : List ℕ)
        → fold (row_begins (number_of_key s (c k))) w es ≡ option_map_or (λ r. populated_word ∷ words r) (find R k es) w
    unfolding IsStrictlySortedBy
    found k h [] sorted keys w = refl
    found k h (e ∷ es) sorted keys w =
        ap (λ b. fold (row_begins (number_of_key s (c k))) (cond b (populated_word ∷ words e.1) w) es) (same_number k e.0 h keys.0)
        ∙ (elim (eq_by_cmp R k e.0) as
        (λ b. eq_by_cmp R k e.0 ≡ b → fold (row_begins (number_of_key s (c k))) (cond b (populated_word ∷ words e.1) w) es ≡ option_map_or
        (λ r. populated_word ∷ words r) (cond b (Some e.1) (find R k es)) w) [
          | true ↦ λ t. found k h es sorted.1 keys.1 (populated_word ∷ words e.1)
              ∙ ap (λ (r : Option X). option_map_or (λ r. populated_word ∷ words r) r (populated_word ∷ words e.1)) (no_other kind.exact.total k e es sorted t)
          | false ↦ λ t. found k h es sorted.1 keys.1 w
        ] refl)

    row : (r : Option X) → option_map_or (λ r. populated_word ∷ words r) r (first_version None) ≡ first_version (option_map words r)
    row None = refl
    row (Some r) = refl

    -- a pass over their table
    pub rows_begun : (m : BTreeMap K X) → EachRow (λ k r. IsNarrowKey s (c k)) (from_entries {R = R} m.entries)
        → (value : RecordKey → Option (List ℕ)) {values : RecordKey → Option (List ℕ)} {old : List Newest} → AreBegun s values old
        → ((k : K) → values (c k) ≡ None) → ((k : K) → value (c k) ≡ option_map words (get (from_entries {R = R} m.entries) k))
        → (new : List Newest) → tree.IsOrdered R m → length new ≡ length old
        → ((n : ℕ) → n < length old → words_at new n ≡ fold (row_begins n) (words_at old n) m.entries) → AreBegun s (with_table t value values) new
    rows_begun m keys value {values} {old} a none some new ordered long now =
        let within = each_entry kind.exact.total (λ (k : K) (r : X). IsNarrowKey s (c k)) m ordered keys in
        table_begun s (λ (k : K) (r : X). c k) (λ _ _ r. words r) t (λ k r. kind.own k) m.entries within values value old new
        (of_kind (λ j. fold (row_begins (number_of_key s j)) (first_version (values j)) m.entries ≡ first_version (value j)) (λ k h.
        ap (λ (v : Option (List ℕ)). fold (row_begins (number_of_key s (c k))) (first_version v) m.entries) (none k)
        ∙ found k h m.entries ordered within (first_version None) ∙ row (find R k m.entries)
        ∙ ap first_version (sym (some k ∙ ap (option_map words) (get-from_entries kind.exact.total m.entries k)))))
        long now a
