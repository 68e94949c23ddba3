-- The two parts of what was written: narrow records, and those of C_DATA behind them.
use Rattle.std.proofs.Common.{◌≡◌, ℕ, zero, suc, ◌+◌, ◌<◌, ◌≤◌, ⊎_elim, Bool, true, false, cond, not, List, [], ◌∷◌, ◌++◌, map, length, get_or, Option, Some, None, refl, sym, ap, ◌∙◌, subst, arith, All}
use Rattle.std.proofs.Common.{append_assoc, append-nil, drop}
use Rattle.std.specs.List.{AllByRecursion, filter}
use Rattle.std.specs.Prelude.{flat_map, nat_lt}
use Rattle.std.proofs.lemmas.Bool.{cases_lt, le-ltb}
use Rattle.std.proofs.lemmas.List.{map-append}
use Rattle.std.proofs.lemmas.List.Concat.{flat_map-append}
use Rattle.std.proofs.lemmas.List.Elements.{filter-append, recursion_from_All, All-from_recursion}
use Rattle.customer_data.specs.Text.{IsData}
use Rattle.customer_data.specs.Words.{words_in, data_words, data_bytes}
use Rattle.cells.specs.Records.{IsNarrow, IsWide}
use Rattle.encoding.specs.Puts.{IsRow}
use Rattle.tables.specs.Sizes.{Sizes}
use Rattle.tables.specs.Records.{first_number, narrow_count, record_count}
use Rattle.tables.specs.declared.records.Table.TheVariants as table
use Rattle.tables.specs.declared.rows.History.{History}
use Rattle.readset.specs.Beside.{AreBeside}
use Rattle.readset.specs.Writes.{WriteSetView, value_for, as_written, added}
use Rattle.readset.proofs.NarrowOrWide.{never_both}
use Rattle.book.specs.Loggable.{IsLoggable}
use Rattle.book.specs.declared.entry.Entry.{Entry}
use Rattle.log_text.specs.Columns.{has_text}
use Rattle.log_text.specs.Writes.{words_of_value, write_text}
use Rattle.log_text.specs.declared.write.Write.{Write}
use Rattle.log_entries.proofs.Texts.{text_again}
use Rattle.log_entries.proofs.Turns.{narrow_holds_none, wide_is_text}
use Rattle.log_entries.specs.Logged.{value_as, write_at, writes_of, history_write, is_before_history, is_behind_history}

abbrev Held : Type 0
Held = ℕ × Option (List ℕ)

length-words_in : (n : ℕ) (bytes : List ℕ) → length (words_in n bytes) ≡ n
unfolding words_in
length-words_in zero bytes = refl
length-words_in (suc n) bytes = ap suc (length-words_in n (drop 8 bytes))

split : {X : Type 0} (P : X → Type 0) (xs ys : List X) → AllByRecursion P (xs ++ ys) → AllByRecursion P xs × AllByRecursion P ys
split P [] ys h = (tt, h)
split P (x ∷ xs) ys h = let rest = split P xs ys h.1 in ((h.0, rest.0), rest.1)

unmapped : {X Y : Type 0} (P : Y → Type 0) (f : X → Y) (xs : List X) → AllByRecursion P (map f xs) → AllByRecursion (λ x. P (f x)) xs
unmapped P f [] h = tt
unmapped P f (x ∷ xs) h = (h.0, unmapped P f xs h.1)

-- what holds of all that were mapped
pub of_map : {X Y : Type 0} (P : Y → Type 0) (f : X → Y) (xs : List X) → All P (map f xs) → All (λ x. P (f x)) xs
of_map P f xs h = All-from_recursion (λ x. P (f x)) xs (unmapped P f xs (recursion_from_All P (map f xs) h))

-- the words of a text are a wide record's
wide_row : (value : Option (List ℕ)) → IsRow data_words IsData value → IsWide value
wide_row value is = subst IsWide (sym is.1) (length-words_in 63 (data_bytes is.0))

-- what a log file has of a record is what was written there
pub words_logged : (s : Sizes) (e : Entry) → IsLoggable s e → (n : ℕ) (value : Option (List ℕ)) → value_for e.writes n ≡ Some value
    → words_of_value (write_at s (n, value)).value ≡ value
words_logged s e ok n None found = refl
words_logged s e ok n (Some words) found =
    ⊎_elim (λ (h : n < narrow_count s). ap (λ (b : Bool). words_of_value (value_as b (Some words))) (narrow_holds_none s n h))
    (λ (h : narrow_count s ≤ n).
    let is = ok.texts n (Some words) found h in
    ap (λ t. words_of_value (value_as (has_text t) (Some words))) (wide_is_text s n h (ok.records n (Some words) found))
    ∙ ap (λ (text : List ℕ). Some (data_words text)) (text_again words is) ∙ sym is.1)
    (cases_lt n (narrow_count s))

module _ (s : Sizes) (writes : WriteSetView) (narrow wide : List Held) (whole : narrow ++ wide ≡ writes.values)
    (kinds : AreBeside IsNarrow IsWide narrow wide) (found : All (λ e. value_for writes e.0 ≡ Some e.1) writes.values)
    (records : (n : ℕ) (value : Option (List ℕ)) → value_for writes n ≡ Some value → n < record_count s)
    (are_narrow : (n : ℕ) (value : Option (List ℕ)) → value_for writes n ≡ Some value → n < narrow_count s → IsNarrow value)
    (are_texts : (n : ℕ) (value : Option (List ℕ)) → value_for writes n ≡ Some value → narrow_count s ≤ n → IsRow data_words IsData value) where
  abbrev IsFound : Held → Type 0
  IsFound e = value_for writes e.0 ≡ Some e.1

  found_both : AllByRecursion IsFound narrow × AllByRecursion IsFound wide
  found_both = split IsFound narrow wide (recursion_from_All IsFound (narrow ++ wide) (subst (All IsFound) (sym whole) found))

  found_low : AllByRecursion IsFound narrow
  found_low = found_both.0

  found_high : AllByRecursion IsFound wide
  found_high = found_both.1

  low_each : (es : List Held) → AllByRecursion IsFound es → AllByRecursion (λ e. IsNarrow e.1) es → AllByRecursion (λ e. e.0 < narrow_count s) es
  low_each [] f k = tt
  low_each (e ∷ es) f k = (
    ⊎_elim (λ (h : e.0 < narrow_count s). h) (λ (h : narrow_count s ≤ e.0). absurd (never_both e.1 k.0 (wide_row e.1 (are_texts e.0 e.1 f.0 h))))
        (cases_lt e.0 (narrow_count s)),
    low_each es f.1 k.1,
  )

  high_each : (es : List Held) → AllByRecursion IsFound es → AllByRecursion (λ e. IsWide e.1) es → AllByRecursion (λ e. narrow_count s ≤ e.0) es
  high_each [] f k = tt
  high_each (e ∷ es) f k = (
    ⊎_elim (λ (h : e.0 < narrow_count s). absurd (never_both e.1 (are_narrow e.0 e.1 f.0 h) k.0)) (λ (h : narrow_count s ≤ e.0). h)
        (cases_lt e.0 (narrow_count s)),
    high_each es f.1 k.1,
  )

  below_each : (es : List Held) → AllByRecursion IsFound es → AllByRecursion (λ e. e.0 < record_count s) es
  below_each [] f = tt
  below_each (e ∷ es) f = (records e.0 e.1 f.0, below_each es f.1)

  texts_each : (es : List Held) → AllByRecursion IsFound es → AllByRecursion (λ e. narrow_count s ≤ e.0) es → AllByRecursion (λ e. IsRow data_words IsData e.1) es
  texts_each [] f h = tt
  texts_each (e ∷ es) f h = (are_texts e.0 e.1 f.0 h.0, texts_each es f.1 h.1)

  -- the numbers of narrow records, and of the others
  pub low_numbers : All (λ e. e.0 < narrow_count s) narrow
  low_numbers = All-from_recursion (λ e. e.0 < narrow_count s) narrow (low_each narrow found_low (recursion_from_All (λ e. IsNarrow e.1) narrow kinds.low))

  high_recursion : AllByRecursion (λ e. narrow_count s ≤ e.0) wide
  high_recursion = high_each wide found_high (recursion_from_All (λ e. IsWide e.1) wide kinds.high)

  pub high_numbers : All (λ e. narrow_count s ≤ e.0) wide
  high_numbers = All-from_recursion (λ e. narrow_count s ≤ e.0) wide high_recursion

  pub high_below : All (λ e. e.0 < record_count s) wide
  high_below = All-from_recursion (λ e. e.0 < record_count s) wide (below_each wide found_high)

  pub high_texts : All (λ e. IsRow data_words IsData e.1) wide
  high_texts = All-from_recursion (λ e. IsRow data_words IsData e.1) wide (texts_each wide found_high high_recursion)

  -- records of C_DATA come behind HISTORY
  none_before : (es : List Held) → AllByRecursion (λ e. narrow_count s ≤ e.0) es → (filter (is_before_history s) es ≡ []) × (filter (is_behind_history s) es ≡ es)
  none_before [] h = (refl, refl)
  none_before (e ∷ es) h =
      let later : is_before_history s e ≡ false = le-ltb e.0 (first_number s table.NewOrder) (omega (arith, h.0)) in
      let rest = none_before es h.1 in (
        ap (λ (b : Bool). cond b (e ∷ filter (is_before_history s) es) (filter (is_before_history s) es)) later ∙ rest.0,
        ap (λ (b : Bool). cond (not b) (e ∷ filter (is_behind_history s) es) (filter (is_behind_history s) es)) later ∙ ap (λ (l : List Held). e ∷ l) rest.1,
      )

  abbrev T : List Held → List ℕ
  T es = flat_map write_text (map (write_at s) es)

  -- the text of all of them
  pub parts_text : (out : List ℕ)
      → (((out ++ T (filter (is_before_history s) narrow)) ++ flat_map write_text (map history_write (added writes.history_row)))
      ++ T (filter (is_behind_history s) narrow)) ++ T wide ≡ out ++ flat_map write_text (writes_of s writes)
  parts_text out = regroup ∙ ap (λ (vs : List Held). out ++ flat_map write_text (map (write_at s) (filter (is_before_history s) vs)
      ++ (map history_write (added writes.history_row) ++ map (write_at s) (filter (is_behind_history s) vs)))) whole
    where
      front : filter (is_before_history s) (narrow ++ wide) ≡ filter (is_before_history s) narrow
      front = filter-append (is_before_history s) narrow wide ∙ ap (λ (l : List Held). filter (is_before_history s) narrow ++ l) (none_before wide high_recursion).0 ∙ append-nil (filter (is_before_history s) narrow)

      back : filter (is_behind_history s) (narrow ++ wide) ≡ filter (is_behind_history s) narrow ++ wide
      back = filter-append (is_behind_history s) narrow wide ∙ ap (λ (l : List Held). filter (is_behind_history s) narrow ++ l) (none_before wide high_recursion).1

      joined : flat_map write_text (map (write_at s) (filter (is_before_history s) narrow) ++ (map history_write (added writes.history_row)
          ++ map (write_at s) (filter (is_behind_history s) narrow ++ wide)))
          ≡ T (filter (is_before_history s) narrow) ++ (flat_map write_text (map history_write (added writes.history_row))
          ++ (T (filter (is_behind_history s) narrow) ++ T wide))
      joined =
          flat_map-append write_text (map (write_at s) (filter (is_before_history s) narrow)) _
          ∙ ap (λ (l : List ℕ). T (filter (is_before_history s) narrow) ++ l) (flat_map-append write_text (map history_write (added writes.history_row)) _
          ∙ ap (λ (l : List ℕ). flat_map write_text (map history_write (added writes.history_row)) ++ l)
          (ap (flat_map write_text) (map-append (write_at s) (filter (is_behind_history s) narrow) wide)
          ∙ flat_map-append write_text (map (write_at s) (filter (is_behind_history s) narrow)) (map (write_at s) wide)))

      four : (o a b c d : List ℕ) → (((o ++ a) ++ b) ++ c) ++ d ≡ o ++ (a ++ (b ++ (c ++ d)))
      four o a b c d = simp append_assoc

      regroup : (((out ++ T (filter (is_before_history s) narrow)) ++ flat_map write_text (map history_write (added writes.history_row)))
          ++ T (filter (is_behind_history s) narrow)) ++ T wide
          ≡ out ++ flat_map write_text (map (write_at s) (filter (is_before_history s) (narrow ++ wide))
          ++ (map history_write (added writes.history_row) ++ map (write_at s) (filter (is_behind_history s) (narrow ++ wide))))
      regroup =
          four out (T (filter (is_before_history s) narrow)) (flat_map write_text (map history_write (added writes.history_row)))
          (T (filter (is_behind_history s) narrow)) (T wide)
          ∙ ap (λ (l : List ℕ). out ++ l) (sym joined)
          ∙ (λ i. out ++ flat_map write_text (map (write_at s) (sym front i) ++ (map history_write (added writes.history_row) ++ map (write_at s) (sym back i))))
