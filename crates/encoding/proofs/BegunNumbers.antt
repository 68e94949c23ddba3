-- The index records have begun: OLDEST and LAST by the numbers of the orders.
use Rattle.std.proofs.Common.{◌≡◌, ℕ, ◌<◌, ◌≤◌, min, max, Bool, true, false, cond, Option, Some, None, IsSome, List, [], ◌∷◌, map, length, refl, sym}
use Rattle.std.proofs.Common.{ap, ◌∙◌}
use Rattle.std.proofs.Common.{subst, arith}
use Rattle.std.specs.List.{AllByRecursion, fold, filter}
use Rattle.std.specs.Option.{option_map, option_map_or}
use Rattle.std.specs.Prelude.{slice_index, unwrap_or}
use Rattle.std.specs.Ordering.{eq_by_cmp}
use Rattle.std.specs.Cmp.{eq_by_cmp_equiv}
use Rattle.std.specs.BTreeMap as tree
use Rattle.std.specs.BTreeMap.{BTreeMap}
use Rattle.std.specs.FinMap.{get, from_entries}
use Rattle.std.specs.declared.cmp.Ordering.{Ordering}
use Rattle.std.proofs.lemmas.Option.{same_Some}
use Rattle.tables.specs.Sizes.{Sizes}
use Rattle.tables.specs.Keys.{order_cmp}
use Rattle.tables.specs.Maps.{EachRow}
use Rattle.tables.specs.OrderNumbers.{least, greatest, order_numbers, numbers_in, next_order}
use Rattle.tables.specs.Database.{Database}
use Rattle.tables.specs.Conditions.{Condition2At}
use Rattle.tables.specs.Records.{IsNarrowKey, number_of_key, key_of}
use Rattle.tables.specs.Rows.{number_words, row_at, oldest}
use Rattle.tables.specs.declared.keys.DistrictKey.{DistrictKey}
use Rattle.tables.specs.declared.keys.OrderKey.{OrderKey}
use Rattle.tables.specs.declared.records.Table.{Table}
use Rattle.tables.specs.declared.records.Table.TheVariants as table
use Rattle.tables.specs.declared.records.RecordKey.{RecordKey}
use Rattle.tables.specs.declared.records.RecordKey.TheVariants as key
use Rattle.tables.proofs.Orders.{exact_order}
use Rattle.tables.proofs.Totals.{entries-view}
use Rattle.tables.proofs.Numbers.{numbered, narrow_among, narrow_numbered}
use Rattle.cells.specs.First.{populated_word, first_version}
use Rattle.cells.specs.declared.cells.Newest.{Newest}
use Rattle.encoding.specs.Newest.{words_at, AreFirst}
use Rattle.encoding.specs.Begun.{AreBegun, begun_by, rows_alone}
use Rattle.encoding.proofs.EachEntry.{each_entry}
use Rattle.encoding.proofs.BegunTables.{with_table, table_begun, IsKind, same_number, of_kind}

-- ---- the least and the greatest, number by number
fold-min : (m : ℕ) (ns : List ℕ) → fold min m ns ≡ option_map_or (min m) (least ns) m
fold-min m [] = refl
fold-min m (n ∷ ns) = fold-min (min m n) ns ∙ joined (least ns)
  where
    joined : (rest : Option ℕ) → option_map_or (min (min m n)) rest (min m n) ≡ min m (option_map_or (min n) rest n)
    joined None = refl
    joined (Some x) = omega arith

fold-max : (m : ℕ) (ns : List ℕ) → fold max m ns ≡ max m (greatest ns)
fold-max m [] = omega arith
fold-max m (n ∷ ns) = omega (arith, fold-max (max m n) ns)

least_below : (ns : List ℕ) (x : ℕ) → least ns ≡ Some x → x ≤ greatest ns
least_below [] x e = cc
least_below (n ∷ ns) x e = subst (λ y. y ≤ greatest (n ∷ ns)) (same_Some _ _ e) (below (least ns))
  where
    below : (rest : Option ℕ) → option_map_or (min n) rest n ≤ greatest (n ∷ ns)
    below None = omega arith
    below (Some y) = omega arith

-- the least is at most D_NEXT_O_ID
pub oldest_is : (t : Database) (k : DistrictKey) → Condition2At t k → fold min (next_order t k) (numbers_in k t.new_orders) ≡ oldest t k
oldest_is t k h = fold-min (next_order t k) (numbers_in k t.new_orders) ∙ of_least (least (numbers_in k t.new_orders)) refl
  where
    of_least : (o : Option ℕ) → least (numbers_in k t.new_orders) ≡ o → option_map_or (min (next_order t k)) o (next_order t k) ≡ unwrap_or o
        (next_order t k)
    of_least None e = refl
    of_least (Some x) e = omega (arith, least_below (numbers_in k t.new_orders) x e, h.1 x e)

pub last_is : (ns : List ℕ) → fold max 0 ns ≡ greatest ns
last_is ns = omega (arith, fold-max 0 ns)

-- ---- passes
-- what OLDEST and LAST are before any order
abbrev pub before_orders : Database → RecordKey → Option (List ℕ)
before_orders t (key.Oldest k) = option_map (λ r. number_words r.next_order) (get t.districts k)
before_orders t (key.Last k) = option_map (λ r. number_words 0) (get t.customers k)
before_orders t k = None

-- records of one table, each with the number of a row
pub number_of_row : {X : Type 0} (f : X → ℕ) (r : Option X) → IsSome r → first_version (option_map (λ x. number_words (f x)) r) ≡ populated_word
    ∷ number_words (option_map_or f r 0)
number_of_row f None some = cc
number_of_row f (Some r) some = refl

pub zero_of_row : {X : Type 0} (r : Option X) → IsSome r → first_version (option_map (λ x. number_words 0) r) ≡ populated_word ∷ number_words 0
zero_of_row None some = cc
zero_of_row (Some r) some = refl

module _ {s : Sizes} {K X : Type 0} {R : K → K → Ordering} {t : Table} {c : K → RecordKey} (kind : IsKind s R t c) (group : OrderKey → X → K)
    (f : ℕ → ℕ → ℕ)
  where
    abbrev number_begins : ℕ → List ℕ → OrderKey × X → List ℕ
    number_begins n = begun_by s (λ (k : OrderKey) (r : X). c (group k r)) (λ ws k r. number_words (f (slice_index ws 0) k.order)) n

    -- the orders of one record, in their turn
    numbers_begun : (p : OrderKey × X → Bool) (k : K) → IsNarrowKey s (c k) → ((e : OrderKey × X) → p e ≡ eq_by_cmp R (group e.0 e.1) k)
        → (es : List (OrderKey × X)) → AllByRecursion (λ e. IsNarrowKey s (c (group e.0 e.1))) es → (m : ℕ)
        → fold (number_begins (number_of_key s (c k))) (populated_word ∷ number_words m) es ≡ populated_word
        ∷ number_words (fold f m (map (λ (e : OrderKey × X). e.0.order) (filter p es)))
    numbers_begun p k h is [] keys m = refl
    numbers_begun p k h is (e ∷ es) keys m =
        ap (λ b. fold (number_begins (number_of_key s (c k))) (cond b (populated_word ∷ number_words (f m e.0.order)) (populated_word ∷ number_words m))
        es)
        (same_number kind k (group e.0 e.1) h keys.0 ∙ sym (is e ∙ (eq_by_cmp_equiv kind.exact.total).symm (group e.0 e.1) k))
        ∙ (elim (p e) as (λ b. fold (number_begins (number_of_key s (c k)))
        (cond b (populated_word ∷ number_words (f m e.0.order)) (populated_word ∷ number_words m)) es
        ≡ populated_word ∷ number_words (fold f m (map (λ (e : OrderKey × X). e.0.order) (cond b (e ∷ filter p es) (filter p es))))) [
          | true ↦ numbers_begun p k h is es keys.1 (f m e.0.order)
          | false ↦ numbers_begun p k h is es keys.1 m
        ])

    -- a pass over their table
    pub orders_begun : (p : K → OrderKey × X → Bool) → ((k : K) (e : OrderKey × X) → p k e ≡ eq_by_cmp R (group e.0 e.1) k)
        → (m : BTreeMap OrderKey X) → EachRow (λ k r. IsNarrowKey s (c (group k r))) (from_entries {R = order_cmp} m.entries)
        → (first : K → ℕ) (value : RecordKey → Option (List ℕ)) {values : RecordKey → Option (List ℕ)} {old : List Newest} → AreBegun s values old
        → ((k : K) → IsNarrowKey s (c k) → first_version (values (c k)) ≡ populated_word ∷ number_words (first k))
        → ((k : K) → IsNarrowKey s (c k)
        → value (c k) ≡ Some (number_words (fold f (first k) (order_numbers (p k) (from_entries {R = order_cmp} m.entries)))))
        → (new : List Newest) → tree.IsOrdered order_cmp m → length new ≡ length old
        → ((n : ℕ) → n < length old → words_at new n ≡ fold (number_begins n) (words_at old n) m.entries) → AreBegun s (with_table t value values) new
    orders_begun p of_key m keys first value {values} {old} a before after new ordered long now =
        let within = each_entry exact_order.total (λ (k : OrderKey) (r : X). IsNarrowKey s (c (group k r))) m ordered keys in
        table_begun s (λ (k : OrderKey) (r : X). c (group k r)) (λ ws k r. number_words (f (slice_index ws 0) k.order)) t (λ k r. kind.own (group k r))
        m.entries
        within values value old new
        (of_kind kind (λ j. fold (number_begins (number_of_key s j)) (first_version (values j)) m.entries ≡ first_version (value j)) (λ k h.
        ap (λ (w : List ℕ). fold (number_begins (number_of_key s (c k))) w m.entries) (before k h)
        ∙ numbers_begun (p k) k h (of_key k) m.entries within (first k)
        ∙ ap (λ (es : List (OrderKey × X)). populated_word ∷ number_words (fold f (first k) (map (λ (e : OrderKey × X). e.0.order) (filter (p k) es))))
        (sym (entries-view exact_order m ordered))
        ∙ ap first_version (sym (after k h))))
        long now a

-- each of the two in its turn
pub all_numbers : (t : Database) (newest : List Newest)
    → AreBegun t.scale (with_table table.Last (row_at t)
    (with_table table.Last (before_orders t) (with_table table.Oldest (row_at t) (with_table table.Oldest (before_orders t) (rows_alone t))))) newest
    → AreBegun t.scale (row_at t) newest
all_numbers t newest a = record { count = a.count; words = words }
  where
    words : (k : RecordKey) → IsNarrowKey t.scale k → words_at newest (number_of_key t.scale k) ≡ first_version (row_at t k)
    words (key.Warehouse k) h = a.words (key.Warehouse k) h
    words (key.District k) h = a.words (key.District k) h
    words (key.Customer k) h = a.words (key.Customer k) h
    words (key.NewOrder k) h = a.words (key.NewOrder k) h
    words (key.Order k) h = a.words (key.Order k) h
    words (key.OrderLine k) h = a.words (key.OrderLine k) h
    words (key.Stock k) h = a.words (key.Stock k) h
    words (key.Oldest k) h = a.words (key.Oldest k) h
    words (key.Last k) h = a.words (key.Last k) h
    words (key.CustomerData k) h = absurd h

-- by number
pub are_first : (t : Database) (newest : List Newest) → AreBegun t.scale (row_at t) newest → AreFirst t newest
are_first t newest a = record {
  count = a.count;
  words = λ n h. ap (words_at newest) (sym (numbered t.scale n (narrow_among t.scale n h)).1)
      ∙ a.words (key_of t.scale n) (narrow_numbered t.scale n h);
}
