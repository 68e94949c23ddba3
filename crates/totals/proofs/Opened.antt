-- The sums over tables all of whose records were counted.
use Rattle.std.proofs.Common.{◌≡◌, ℕ, zero, suc, ◌+◌, ◌<◌, ◌≤◌, ℤ, pos, ◌+ℤ◌, true, false, cond, List, Option, Some, None, is_some, All, refl, sym, ap, ◌∙◌}
use Rattle.std.proofs.Common.{arith, true≢false}
use Rattle.std.proofs.lemmas.Int.{ints}
use Rattle.std.proofs.lemmas.List.Elements.{All-nil, All-cons}
use Rattle.std.specs.Option.{option_map}
use Rattle.std.specs.Ordering.{nat_cmp, is_eq}
use Rattle.std.specs.List.{AllByRecursion}
use Rattle.std.specs.List.Sorted.{IsStrictlySortedBy}
use Rattle.std.specs.Map.{keys_of, lookup}
use Rattle.std.specs.BTreeMap.{is_at}
use Rattle.std.specs.FinMap.{FinMap, get, get-empty, empty}
use Rattle.std.specs.declared.cmp.Ordering.{Ordering}
use Rattle.std.specs.declared.cmp.Ordering.TheVariants.{Less}
use Rattle.tables.specs.Maps.{total, RowsWithin}
use Rattle.tables.specs.Records.{key_of, number_of_key, narrow_count, record_count, IsNarrowKey}
use Rattle.tables.specs.Rows.{row_at, rows}
use Rattle.tables.specs.Database.{Database}
use Rattle.tables.specs.declared.records.RecordKey.{RecordKey}
use Rattle.tables.proofs.Orders.{IsExact}
use Rattle.tables.proofs.Numbers.{narrow_among, narrow_named, of_narrow}
use Rattle.tables.proofs.Totals.{total-zero}
use Rattle.totals.specs.Worth.{Worth}
use Rattle.totals.specs.Opening.{records_from, worth_from}
use Rattle.totals.proofs.Differs.{is_among, changes, total-differs}
use Rattle.totals.proofs.Worded.{by_words, get-by_words, total-by_words}
use Rattle.totals.proofs.Written.{IsKind, keys_among, keys_apart, not_written, changes-moved}

-- ---- records in their order
less : (n m : ℕ) → n < m → nat_cmp n m ≡ Less
less n m h = grind (arith, h)

after_all : (held : ℕ → Option (List ℕ)) (n k m : ℕ) → n < m → AllByRecursion (λ j. nat_cmp n j ≡ Less) (keys_of (records_from held k m))
after_all held n zero m h = tt
after_all held n (suc k) m h = (less n m h, after_all held n k (m + 1) (omega (arith, h)))

ascending : (held : ℕ → Option (List ℕ)) (k n : ℕ) → IsStrictlySortedBy nat_cmp (keys_of (records_from held k n))
unfolding IsStrictlySortedBy
ascending held zero n = tt
ascending held (suc k) n = (after_all held n k (n + 1) (omega arith), ascending held k (n + 1))

all_from : (P : ℕ × Option (List ℕ) → Type 0) (held : ℕ → Option (List ℕ)) (k n : ℕ) → ((m : ℕ) → n ≤ m → m < n + k → P (m, held m))
    → All P (records_from held k n)
all_from P held zero n h = All-nil P
all_from P held (suc k) n h = All-cons P (n, held n) (records_from held k (n + 1)) (h n (omega arith) (omega arith))
    (all_from P held k (n + 1) (λ m low high. h m (omega (arith, low)) (omega (arith, high))))

-- those of a scale
all_here : (P : ℕ × Option (List ℕ) → Type 0) (held : ℕ → Option (List ℕ)) (k : ℕ) → ((m : ℕ) → m < k → P (m, held m)) → All P (records_from held k 0)
all_here P held k h = all_from P held k 0 (λ m low high. h m (omega (arith, high)))

-- each is there
some_from : (held : ℕ → Option (List ℕ)) (k n m : ℕ) → n ≤ m → m < n + k → lookup (is_at (nat_cmp m)) (records_from held k n) ≡ None → ⊥
some_from held zero n m low high = λ none. omega (arith, low, high)
some_from held (suc k) n m low high = elim (is_eq (nat_cmp m n)) as (λ b. is_eq (nat_cmp m n) ≡ b
    → cond b (Some (held n)) (lookup (is_at (nat_cmp m)) (records_from held k (n + 1))) ≡ None → ⊥) [
      | true ↦ λ _ none. some_none none
      | false ↦ λ other none. some_from held k (n + 1) m (above m n low other) (omega (arith, high)) none
    ] refl
  where
    some_none : {x : Option (List ℕ)} → Some x ≡ None → ⊥
    some_none e = true≢false (ap is_some e)

    above : (m n : ℕ) → n ≤ m → is_eq (nat_cmp m n) ≡ false → n + 1 ≤ m
    above m n low other = grind (arith, low, other)

module _ {K X : Type 0} {R : K → K → Ordering} {c : K → RecordKey} {pick : RecordKey → Option K} (o : IsExact R) (kind : IsKind c pick) (t : Database)
    (held : ℕ → Option (List ℕ)) (latest : (n : ℕ) → n < narrow_count t.scale → held n ≡ rows t n) where
  -- the sum of what the rows of a table are worth
  pub total-opened : (f : Worth) → ((key : RecordKey) → pick key ≡ None → (words : List ℕ) → f key words ≡ pos 0)
      → (words : X → List ℕ) (m : FinMap R X)
      → ((k : K) → row_at t (c k) ≡ option_map words (get m k))
      → RowsWithin (λ k. IsNarrowKey t.scale (c k)) m
      → total (λ k r. f (c k) (words r)) m ≡ worth_from t.scale held (narrow_count t.scale) 0 f
  total-opened f off words m at within =
      let ws = records_from held (narrow_count t.scale) 0 in
      let none : FinMap R (List ℕ) = empty in
      sym (total-by_words words (λ k r. f (c k) r) m)
      ∙ total-differs o (λ k r. f (c k) r) none (by_words words m) (keys_among pick t.scale ws)
      (keys_apart o kind t.scale ws (all_here (λ e. e.0 < record_count t.scale) held (narrow_count t.scale) (λ m high. narrow_among t.scale m high)) (ascending held (narrow_count t.scale) 0)) (λ q absent. get-by_words words m q ∙ no_row q absent ∙ sym (get-empty R q))
      ∙ and_none (total (λ k r. f (c k) r) none) (changes (λ k r. f (c k) r) none (by_words words m) (keys_among pick t.scale ws))
      (total-zero o (λ k r. f (c k) r) none (λ k r e. absurd (true≢false (ap is_some (sym e ∙ get-empty R k)))))
      ∙ changes-moved kind f off t.scale none (by_words words m) (λ n. None) ws
      (all_here (λ e. (k : K) → key_of t.scale e.0 ≡ c k → get none k ≡ None) held (narrow_count t.scale) (λ n high k key. get-empty R k))
      (all_here (λ e. (k : K) → key_of t.scale e.0 ≡ c k → get (by_words words m) k ≡ e.1) held (narrow_count t.scale)
      (λ n high k key. get-by_words words m k ∙ sym (at k) ∙ ap (row_at t) (sym key) ∙ sym (latest n high)))
    where
      there : (n k : ℕ) → n < k → n < 0 + k
      there n k h = omega (arith, h)

      and_none : (z a : ℤ) → z ≡ pos 0 → z +ℤ a ≡ a
      and_none z a e = omega (arith, ints)

      no_row : (q : K) → is_among R q (keys_among pick t.scale (records_from held (narrow_count t.scale) 0)) ≡ false → option_map words (get m q) ≡ None
      no_row q absent = either (get m q) refl
        where
          either : (v : Option X) → get m q ≡ v → option_map words (get m q) ≡ None
          either None e = ap (option_map words) e
          either (Some r) e =
              let is : IsNarrowKey t.scale (c q) = within q (ap is_some e) in
              absurd (some_from held (narrow_count t.scale) 0 (number_of_key t.scale (c q)) (omega arith)
              (there (number_of_key t.scale (c q)) (narrow_count t.scale) (narrow_named t.scale (c q) is))
              (not_written o kind t.scale q (of_narrow t.scale (c q) is) (records_from held (narrow_count t.scale) 0) absent))
