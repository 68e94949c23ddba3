-- What an entry of the history wrote keeps the rules of a log file.
use Rattle.std.proofs.Common.{◌≡◌, ℕ, ◌+◌, ◌*◌, ◌^◌, ◌<◌, ◌≤◌, Bool, true, false, ◌&&◌, cond, List, [], ◌∷◌, ◌++◌, map, length, Option, Some, None, All}
use Rattle.std.proofs.Common.{refl, sym, ap, ◌∙◌, subst, arith, ⊎_elim}
use Rattle.std.specs.Prelude.{nat_lt, nat_le, not, ◌==◌}
use Rattle.std.specs.List.{AllByRecursion, filter, list_all, count_by}
use Rattle.std.specs.Map.{keys_of}
use Rattle.std.specs.Ordering.{nat_cmp}
use Rattle.std.specs.List.Sorted.{IsStrictlySortedBy}
use Rattle.std.specs.declared.cmp.Ordering.TheVariants.{Less}
use Rattle.std.proofs.lemmas.Bool.{cases_lt, and_from, le-leb, leb-true, lt-ltb, ltb-true, ltb-false, not-true}
use Rattle.std.proofs.lemmas.Bool.Decides.{nat_tests}
use Rattle.std.proofs.lemmas.List.Elements.{recursion_from_All, All-head}
use Rattle.std.proofs.lemmas.List.{length-append, length-map}
use Rattle.std.proofs.lemmas.List.Folds.{list_all-append}
use Rattle.std.proofs.lemmas.List.Sums.{sum_by-append, count_by-le-length}
use Rattle.customer_data.specs.Text.{IsData}
use Rattle.customer_data.specs.Words.{data_words}
use Rattle.encoding.specs.Puts.{IsRow}
use Rattle.tables.specs.Sizes.{Sizes, IsScale}
use Rattle.tables.specs.Database.{Database}
use Rattle.tables.specs.Records.{table_number, first_number, narrow_count, record_count, table_at, place_at, key_at, key_of}
use Rattle.tables.specs.Rows.{rows}
use Rattle.tables.specs.WellFormed.{IsWellFormed, IsHistoryRow}
use Rattle.tables.specs.declared.keys.OrderKey.{OrderKey}
use Rattle.tables.specs.declared.rows.History.{History}
use Rattle.tables.specs.declared.records.Table.{Table}
use Rattle.tables.specs.declared.records.Table.TheVariants as table
use Rattle.tables.specs.declared.records.RecordKey.TheVariants as key
use Rattle.readset.specs.Writes.{WriteSetView, value_for, added}
use Rattle.tables.specs.declared.limits.TheConstants.{MAX_WRITES}
use Rattle.readset.proofs.Entries.{each_found}
use Rattle.log_text.specs.Columns.{has_text, ranges, are_within}
use Rattle.log_text.specs.Writes.{places, is_data, is_history, is_value, is_write, rank, rise_from, are_writes}
use Rattle.log_text.specs.declared.write.Write.{Write}
use Rattle.log_text.proofs.Fitting.{and_split}
use Rattle.log_entries.specs.Logged.{value_as, write_at, history_write, is_before_history, is_behind_history, writes_of}
use Rattle.log_entries.proofs.Turns.{narrow_holds_none, wide_is_text, numbers_rise, place_within, place_small, before_history, behind_history}
use Rattle.log_entries.proofs.Texts.{text_again, data_lawful}
use Rattle.log_entries.proofs.Within.{rows_within, history_within}

-- a record's number, and what it holds
abbrev Held : Type 0
Held = ℕ × Option (List ℕ)

-- ---- writes in their order
rise_lower : (a b : ℕ) (ws : List Write) → a ≤ b → rise_from b ws ≡ true → rise_from a ws ≡ true
rise_lower a b [] h e = refl
rise_lower a b (w ∷ ws) h e =
    let parts = and_split (nat_le b (rank w)) (rise_from (rank w + 1) ws) e in
    and_from (nat_le a (rank w)) (rise_from (rank w + 1) ws) (le-leb a (rank w) (omega (arith, h, leb-true b (rank w) parts.0))) parts.1

-- others may follow from any rank past these
rise_append : (a b : ℕ) (vs ws : List Write) → a ≤ b → rise_from a vs ≡ true → AllByRecursion (λ w. rank w < b) vs → rise_from b ws ≡ true
    → rise_from a (vs ++ ws) ≡ true
rise_append a b [] ws h e low rest = rise_lower a b ws h rest
rise_append a b (v ∷ vs) ws h e low rest =
    let parts = and_split (nat_le a (rank v)) (rise_from (rank v + 1) vs) e in
    and_from (nat_le a (rank v)) (rise_from (rank v + 1) (vs ++ ws)) parts.0
    (rise_append (rank v + 1) b vs ws (omega (arith, low.0)) parts.1 low.1 rest)

above : (n : ℕ) (es : List Held) → AllByRecursion (λ k. nat_cmp n k ≡ Less) (keys_of es) → AllByRecursion (λ e. n + 1 ≤ e.0) es
above n [] h = tt
above n (e ∷ es) h = (let less : nat_cmp n e.0 ≡ Less = h.0 in grind (arith, nat_tests), above n es h.1)

module _ (s : Sizes) where
  both_parts : (p : Held → Bool) (es : List Held) → length (map (write_at s) (filter p es)) + length (map (write_at s) (filter (λ e. not (p e)) es))
      ≡ length es
  both_parts p [] = refl
  both_parts p (e ∷ es) =
      elim (p e) as (λ b. length (map (write_at s) (cond b (e ∷ filter p es) (filter p es)))
      + length (map (write_at s) (cond (not b) (e ∷ filter (λ f. not (p f)) es) (filter (λ f. not (p f)) es))) ≡ length (e ∷ es)) [
        | true ↦ omega (arith, both_parts p es)
        | false ↦ omega (arith, both_parts p es)
      ]

  -- as many as the values, and HISTORY's row
  pub length_writes : (writes : WriteSetView) → length (writes_of s writes) ≡ length writes.values + length (added writes.history_row)
  length_writes writes =
      let first = map (write_at s) (filter (is_before_history s) writes.values) in
      let second = map history_write (added writes.history_row) in
      let third = map (write_at s) (filter (is_behind_history s) writes.values) in
      omega (
        arith,
        length-append first (second ++ third),
        length-append second third,
        length-map (added writes.history_row) history_write,
        both_parts (is_before_history s) writes.values,
      )

module _ (s : Sizes) (scale : IsScale s) where
  -- what holds of each value that passes a test holds of its write
  each_write : (P : Write → Type 0) (p : Held → Bool) (es : List Held) → AllByRecursion (λ e. p e ≡ true → P (write_at s e)) es
      → AllByRecursion P (map (write_at s) (filter p es))
  each_write P p [] each = tt
  each_write P p (e ∷ es) each =
      elim (p e) as (λ b. p e ≡ b → AllByRecursion P (map (write_at s) (cond b (e ∷ filter p es) (filter p es)))) [
        | true ↦ λ passes. (each.0 passes, each_write P p es each.1)
        | false ↦ λ _. each_write P p es each.1
      ] refl

  -- values in the order of their numbers
  values_rise : (p : Held → Bool) (low least : ℕ) (es : List Held) → IsStrictlySortedBy nat_cmp (keys_of es)
      → AllByRecursion (λ e. e.0 < record_count s) es → AllByRecursion (λ e. low ≤ e.0) es
      → ((e : Held) → p e ≡ true → low ≤ e.0 → e.0 < record_count s → least ≤ rank (write_at s e))
      → rise_from least (map (write_at s) (filter p es)) ≡ true
  unfolding IsStrictlySortedBy
  values_rise p low least [] sorted small over bound = refl
  values_rise p low least (e ∷ es) sorted small over bound =
      let later = above e.0 es sorted.0 in
      elim (p e) as (λ b. p e ≡ b → rise_from least (map (write_at s) (cond b (e ∷ filter p es) (filter p es))) ≡ true) [
        | true ↦ λ passes. and_from (nat_le least (rank (write_at s e))) (rise_from (rank (write_at s e) + 1) (map (write_at s) (filter p es)))
            (le-leb least (rank (write_at s e)) (bound e passes over.0 small.0))
            (values_rise p (e.0 + 1) (rank (write_at s e) + 1) es sorted.1 small.1 later
            (λ f _ h k. let up = numbers_rise s scale e.0 f.0 (omega (arith, h)) k in omega (arith, up)))
        | false ↦ λ _. values_rise p (e.0 + 1) least es sorted.1 small.1 later (λ f passes h k. bound f passes (omega (arith, h, over.0)) k)
      ] refl

  any_low : (es : List Held) → AllByRecursion (λ e. 0 ≤ e.0) es
  any_low [] = tt
  any_low (e ∷ es) = (omega arith, any_low es)

  -- records before and behind HISTORY's rank
  rank_before : (e : Held) → e.0 < record_count s → is_before_history s e ≡ true → rank (write_at s e) < 4 * 2 ^ 32
  rank_before e h test = omega (arith, before_history s e.0 h (ltb-true e.0 (first_number s table.NewOrder) test), place_small s scale e.0 h)

  rank_behind : (e : Held) → e.0 < record_count s → is_behind_history s e ≡ true → 4 * 2 ^ 32 + 1 ≤ rank (write_at s e)
  rank_behind e h test =
      omega (arith, behind_history s e.0 h (ltb-false e.0 (first_number s table.NewOrder) (not-true (nat_lt e.0 (first_number s table.NewOrder)) test)))

  each_before : (es : List Held) → AllByRecursion (λ e. e.0 < record_count s) es
      → AllByRecursion (λ e. is_before_history s e ≡ true → rank (write_at s e) < 4 * 2 ^ 32) es
  each_before [] small = tt
  each_before (e ∷ es) small = (rank_before e small.0, each_before es small.1)

  writes_rise : (writes : WriteSetView) → IsStrictlySortedBy nat_cmp (keys_of writes.values)
      → AllByRecursion (λ e. e.0 < record_count s) writes.values → rise_from 0 (writes_of s writes) ≡ true
  writes_rise writes sorted small =
      rise_append 0 (4 * 2 ^ 32) (map (write_at s) (filter (is_before_history s) writes.values)) _ (omega arith)
      (values_rise (is_before_history s) 0 0 writes.values sorted small (any_low writes.values) (λ e _ _ _. omega arith))
      (each_write (λ w. rank w < 4 * 2 ^ 32) (is_before_history s) writes.values (each_before writes.values small))
      (with_row writes.history_row)
    where
      others : rise_from (4 * 2 ^ 32 + 1) (map (write_at s) (filter (is_behind_history s) writes.values)) ≡ true
      others = values_rise (is_behind_history s) 0 (4 * 2 ^ 32 + 1) writes.values sorted small (any_low writes.values) (λ e passes _ k. rank_behind e k passes)

      with_row : (row : Option History)
          → rise_from (4 * 2 ^ 32) (map history_write (added row) ++ map (write_at s) (filter (is_behind_history s) writes.values)) ≡ true
      with_row None = rise_lower (4 * 2 ^ 32) (4 * 2 ^ 32 + 1) (map (write_at s) (filter (is_behind_history s) writes.values)) (omega arith) others
      with_row (Some row) = others

  -- ---- each of them may be written
  all_writes : (ws : List Write) → AllByRecursion (λ w. is_write s w ≡ true) ws → list_all (is_write s) ws ≡ true
  all_writes [] each = refl
  all_writes (w ∷ ws) each = and_from (is_write s w) (list_all (is_write s) ws) each.0 (all_writes ws each.1)

  value_writes : (p : Held → Bool) (es : List Held) → AllByRecursion (λ e. is_write s (write_at s e) ≡ true) es
      → list_all (is_write s) (map (write_at s) (filter p es)) ≡ true
  value_writes p es each = all_writes _ (each_write (λ w. is_write s w ≡ true) p es (whatever es each))
    where
      whatever : (fs : List Held) → AllByRecursion (λ e. is_write s (write_at s e) ≡ true) fs
          → AllByRecursion (λ e. p e ≡ true → is_write s (write_at s e) ≡ true) fs
      whatever [] h = tt
      whatever (f ∷ fs) h = ((λ _. h.0), whatever fs h.1)

  history_lawful : (row : History) → IsHistoryRow s row → is_write s (history_write row) ≡ true
  history_lawful row is = history_within s scale row is

  row_write : (row : Option History) → All (IsHistoryRow s) (added row) → list_all (is_write s) (map history_write (added row)) ≡ true
  row_write None each = refl
  row_write (Some row) each = all_writes (history_write row ∷ []) (history_lawful row (All-head (IsHistoryRow s) row [] each), tt)

  each_may_be_written : (writes : WriteSetView) → AllByRecursion (λ e. is_write s (write_at s e) ≡ true) writes.values
      → All (IsHistoryRow s) (added writes.history_row) → list_all (is_write s) (writes_of s writes) ≡ true
  each_may_be_written writes values row =
      let first = map (write_at s) (filter (is_before_history s) writes.values) in
      let second = map history_write (added writes.history_row) in
      let third = map (write_at s) (filter (is_behind_history s) writes.values) in
      list_all-append (is_write s) first (second ++ third)
      ∙ and_from (list_all (is_write s) first) (list_all (is_write s) (second ++ third)) (value_writes (is_before_history s) writes.values values)
      (list_all-append (is_write s) second third
      ∙ and_from (list_all (is_write s) second) (list_all (is_write s) third) (row_write writes.history_row row)
      (value_writes (is_behind_history s) writes.values values))

  -- ---- how many they are
  abbrev is_record : Write → Bool
  is_record w = not (is_history w)

  abbrev records : List Write → ℕ
  records ws = count_by is_record ws

  no_records : (row : Option History) → records (map history_write (added row)) ≡ 0
  no_records None = refl
  no_records (Some row) = refl

  few_records : (writes : WriteSetView) → records (writes_of s writes) ≤ length writes.values
  few_records writes =
      let first = map (write_at s) (filter (is_before_history s) writes.values) in
      let second = map history_write (added writes.history_row) in
      let third = map (write_at s) (filter (is_behind_history s) writes.values) in
      omega (
        arith,
        sum_by-append (λ w. cond (is_record w) 1 0) first (second ++ third),
        sum_by-append (λ w. cond (is_record w) 1 0) second third,
        no_records writes.history_row,
        count_by-le-length is_record first,
        count_by-le-length is_record third,
        both_parts s (is_before_history s) writes.values,
      )

-- a key of NEW-ORDER is at a place of NEW-ORDER
of_new_orders : (s : Sizes) (t : Table) (p : ℕ) (k : OrderKey) → key_at s t p ≡ key.NewOrder k → (table_number t == 5) ≡ true
of_new_orders s table.Warehouse p k e = absurd cc
of_new_orders s table.District p k e = absurd cc
of_new_orders s table.Customer p k e = absurd cc
of_new_orders s table.History p k e = absurd cc
of_new_orders s table.NewOrder p k e = refl
of_new_orders s table.Order p k e = absurd cc
of_new_orders s table.OrderLine p k e = absurd cc
of_new_orders s table.Item p k e = absurd cc
of_new_orders s table.Stock p k e = absurd cc
of_new_orders s table.Oldest p k e = absurd cc
of_new_orders s table.Last p k e = absurd cc
of_new_orders s table.CustomerData p k e = absurd cc

-- the writes of a commit that left well-formed tables with what it wrote, and took out rows of NEW-ORDER alone
module _ (s : Sizes) (scale : IsScale s) (writes : WriteSetView) (t : Database) (of_scale : t.scale ≡ s) (wf : IsWellFormed t)
    (sorted : IsStrictlySortedBy nat_cmp (keys_of writes.values)) (few : length writes.values ≤ MAX_WRITES)
    (small : (n : ℕ) (value : Option (List ℕ)) → value_for writes n ≡ Some value → n < record_count s)
    (texts : (n : ℕ) (value : Option (List ℕ)) → value_for writes n ≡ Some value → narrow_count s ≤ n → IsRow data_words IsData value)
    (stands : (n : ℕ) (value : Option (List ℕ)) → value_for writes n ≡ Some value → rows t n ≡ value)
    (row : All (IsHistoryRow s) (added writes.history_row))
    (absent : (n : ℕ) → n < record_count s → value_for writes n ≡ Some None → (k : OrderKey) × (key_of s n ≡ key.NewOrder k))
  where
    -- a narrow record's columns, and a wide one's text
    columns_written : (n : ℕ) (words : List ℕ) → value_for writes n ≡ Some (Some words) → n < narrow_count s
        → is_value s (table_at s n) (value_as (has_text (table_at s n)) (Some words)) ≡ true
    columns_written n words found below =
        let none = narrow_holds_none s n below in
        let within : are_within (ranges s (table_at s n)) words ≡ true =
        subst (λ (z : Sizes). n < narrow_count z → are_within (ranges z (table_at z n)) words ≡ true) of_scale
        (λ h. rows_within t wf (subst IsScale (sym of_scale) scale) n h words (stands n (Some words) found)) below in
        ap (λ (b : Bool). is_value s (table_at s n) (value_as b (Some words))) none
        ∙ and_from (not (has_text (table_at s n))) (are_within (ranges s (table_at s n)) words) (ap not none) within

    text_written : (n : ℕ) (words : List ℕ) → value_for writes n ≡ Some (Some words) → narrow_count s ≤ n
        → is_value s (table_at s n) (value_as (has_text (table_at s n)) (Some words)) ≡ true
    text_written n words found wide =
        let text = texts n (Some words) found wide in
        ap (λ (u : Table). is_value s u (value_as (has_text u) (Some words))) (wide_is_text s n wide (small n (Some words) found))
        ∙ ap is_data (text_again words text) ∙ data_lawful text.0 text.2

    value_written : (n : ℕ) (value : Option (List ℕ)) → value_for writes n ≡ Some value
        → is_value s (table_at s n) (value_as (has_text (table_at s n)) value) ≡ true
    value_written n None found =
        let key = absent n (small n None found) found in
        of_new_orders s (table_at s n) (place_at s n) key.0 key.1
    value_written n (Some words) found = ⊎_elim (columns_written n words found) (text_written n words found) (cases_lt n (narrow_count s))

    found_written : (e : Held) → value_for writes e.0 ≡ Some e.1 → is_write s (write_at s e) ≡ true
    found_written e found =
        and_from (nat_lt (place_at s e.0) (places s (table_at s e.0))) (is_value s (table_at s e.0) (value_as (has_text (table_at s e.0)) e.1))
        (lt-ltb (place_at s e.0) (places s (table_at s e.0)) (place_within s e.0 (small e.0 e.1 found))) (value_written e.0 e.1 found)

    all_found : AllByRecursion (λ e. value_for writes e.0 ≡ Some e.1) writes.values
    all_found = recursion_from_All (λ e. value_for writes e.0 ≡ Some e.1) writes.values (each_found writes.values sorted)

    each : (P : Held → Type 0) → ((e : Held) → value_for writes e.0 ≡ Some e.1 → P e) → (es : List Held)
        → AllByRecursion (λ e. value_for writes e.0 ≡ Some e.1) es → AllByRecursion P es
    each P so [] found = tt
    each P so (e ∷ es) found = (so e found.0, each P so es found.1)

    -- an entry may have these writes
    pub are_lawful : are_writes s (writes_of s writes) ≡ true
    are_lawful =
        let ws = writes_of s writes in
        and_from (list_all (is_write s) ws) (rise_from 0 ws && nat_le (count_by (λ w. not (is_history w)) ws) MAX_WRITES)
        (each_may_be_written s scale writes (each (λ e. is_write s (write_at s e) ≡ true) found_written writes.values all_found) row)
        (and_from (rise_from 0 ws) (nat_le (count_by (λ w. not (is_history w)) ws) MAX_WRITES)
        (writes_rise s scale writes sorted (each (λ e. e.0 < record_count s) (λ e found. small e.0 e.1 found) writes.values all_found))
        (le-leb (count_by (λ w. not (is_history w)) ws) MAX_WRITES (omega (arith, few_records s scale writes, few))))
