-- The sum over a table moves by what the written records are worth.
use Rattle.std.proofs.Common.{◌≡◌, ◌≢◌, ℕ, ◌<◌, ℤ, pos, ◌+ℤ◌, ◌-ℤ◌, true, false, ◌||◌, cond, true≢false, List, [], ◌∷◌, Option, Some, None, is_some, All, slice_index_or, refl}
use Rattle.std.proofs.Common.{sym, ap, ◌∙◌, arith, unwrap_or}
use Rattle.std.proofs.lemmas.Int.{ints}
use Rattle.std.proofs.lemmas.List.Elements.{All-head, All-tail}
use Rattle.std.specs.Option.{option_map, option_map_or}
use Rattle.std.specs.Ordering.{nat_cmp, eq_by_cmp, is_eq}
use Rattle.std.specs.List.{AllByRecursion}
use Rattle.std.specs.List.Sorted.{IsStrictlySortedBy}
use Rattle.std.specs.Cmp.{tied_itself}
use Rattle.std.specs.Map.{keys_of, lookup}
use Rattle.std.specs.BTreeMap.{is_at}
use Rattle.std.specs.FinMap.{FinMap, get}
use Rattle.std.specs.declared.cmp.Ordering.{Ordering}
use Rattle.std.specs.declared.cmp.Ordering.TheVariants.{Less}
use Rattle.tables.specs.Sizes.{Sizes}
use Rattle.tables.specs.Maps.{total, RowsWithin}
use Rattle.tables.specs.Records.{key_of, number_of_key, record_count, IsRecordKey}
use Rattle.tables.specs.Rows.{row_at, rows}
use Rattle.tables.specs.Database.{Database}
use Rattle.tables.specs.declared.records.RecordKey.{RecordKey}
use Rattle.tables.proofs.Orders.{IsExact}
use Rattle.tables.proofs.Entries.{tied}
use Rattle.tables.proofs.Numbers.{one_to_one}
use Rattle.readset.proofs.Numbers.{same_number}
use Rattle.totals.specs.Worth.{Worth}
use Rattle.totals.specs.Moves.{worth_of, step, moved}
use Rattle.totals.specs.Written.{AreWritten}
use Rattle.totals.proofs.Differs.{is_among, AreApart, changes, total-differs}
use Rattle.totals.proofs.Worded.{by_words, get-by_words, total-by_words}

-- the records of one table: the key of each, and which keys are of it
pub record IsKind {K : Type 0} (c : K → RecordKey) (pick : RecordKey → Option K) : Type 0 where
  pub picked : (k : K) → pick (c k) ≡ Some k
  pub only : (key : RecordKey) (k : K) → pick key ≡ Some k → key ≡ c k

-- numbers that differ
less_differs : (n m : ℕ) → nat_cmp n m ≡ Less → n ≢ m
less_differs n m less same = grind (arith, less, same)

module _ {K : Type 0} where
  abbrev with_key : Option K → List K → List K
  with_key None ks = ks
  with_key (Some k) ks = k ∷ ks

  -- the keys of a table among the records written
  abbrev pub keys_among : (RecordKey → Option K) → Sizes → List (ℕ × Option (List ℕ)) → List K
  keys_among pick s [] = []
  keys_among pick s (w ∷ ws) = with_key (pick (key_of s w.0)) (keys_among pick s ws)

module _ {K : Type 0} {R : K → K → Ordering} {c : K → RecordKey} {pick : RecordKey → Option K} (o : IsExact R) (kind : IsKind c pick) (s : Sizes) where
  -- a record's number, where it is of that table
  numbered : (n : ℕ) → n < record_count s → (k : K) → pick (key_of s n) ≡ Some k → number_of_key s (c k) ≡ n
  numbered n below k is = ap (number_of_key s) (sym (kind.only (key_of s n) k is)) ∙ ((one_to_one s).1 n below).1

  -- two numbers with one key
  same_key : (n m : ℕ) → n < record_count s → m < record_count s → (k j : K) → pick (key_of s n) ≡ Some k → pick (key_of s m) ≡ Some j → eq_by_cmp R k j ≡ true
      → n ≡ m
  same_key n m below_n below_m k j at_n at_m tie =
      sym (numbered n below_n k at_n) ∙ ap (λ q. number_of_key s (c q)) (o.same k j (tied _ tie)) ∙ numbered m below_m j at_m

  -- a key that no record written has
  apart_from : (n : ℕ) → n < record_count s → (k : K) → pick (key_of s n) ≡ Some k → (ws : List (ℕ × Option (List ℕ))) → All (λ e. e.0 < record_count s) ws
      → AllByRecursion (λ m. nat_cmp n m ≡ Less) (keys_of ws)
      → is_among R k (keys_among pick s ws) ≡ false
  apart_from n below k at [] all less = refl
  apart_from n below k at (w ∷ ws) all less =
      let rest = apart_from n below k at ws (All-tail (λ e. e.0 < record_count s) w ws all) less.1 in
      elim (pick (key_of s w.0)) as (λ p. pick (key_of s w.0) ≡ p → is_among R k (with_key p (keys_among pick s ws)) ≡ false) [
        | None ↦ λ _. rest
        | Some j ↦ λ is. elim (eq_by_cmp R k j) as (λ b. eq_by_cmp R k j ≡ b → (b || is_among R k (keys_among pick s ws)) ≡ false) [
          | true ↦ λ t. absurd (less_differs n w.0 less.0 (same_key n w.0 below (All-head (λ e. e.0 < record_count s) w ws all) k j at is t))
          | false ↦ λ _. rest
        ] refl
      ] refl

  pub keys_apart : (ws : List (ℕ × Option (List ℕ))) → All (λ e. e.0 < record_count s) ws → IsStrictlySortedBy nat_cmp (keys_of ws)
      → AreApart R (keys_among pick s ws)
  unfolding IsStrictlySortedBy
  keys_apart [] all ascend = tt
  keys_apart (w ∷ ws) all ascend =
      let rest = keys_apart ws (All-tail (λ e. e.0 < record_count s) w ws all) ascend.1 in
      elim (pick (key_of s w.0)) as (λ p. pick (key_of s w.0) ≡ p → AreApart R (with_key p (keys_among pick s ws))) [
        | None ↦ λ _. rest
        | Some k ↦ λ is. (apart_from w.0 (All-head (λ e. e.0 < record_count s) w ws all) k is ws (All-tail (λ e. e.0 < record_count s) w ws all) ascend.0, rest)
      ] refl

  itself : (k : K) → eq_by_cmp R k k ≡ true
  itself k = ap is_eq (tied_itself o.total k)

  -- a key of the scale that isn't among those written has a number that isn't
  pub not_written : (k : K) → IsRecordKey s (c k) → (ws : List (ℕ × Option (List ℕ))) → is_among R k (keys_among pick s ws) ≡ false
      → lookup (is_at (nat_cmp (number_of_key s (c k)))) ws ≡ None
  not_written k is [] none = refl
  not_written k is (w ∷ ws) none =
      elim (is_eq (nat_cmp (number_of_key s (c k)) w.0)) as (λ b. is_eq (nat_cmp (number_of_key s (c k)) w.0) ≡ b
      → cond b (Some w.1) (lookup (is_at (nat_cmp (number_of_key s (c k)))) ws) ≡ None) [
        | true ↦ λ t.
            let here : pick (key_of s w.0) ≡ Some k =
            ap (λ n. pick (key_of s n)) (sym (same_number _ w.0 t)) ∙ ap pick ((one_to_one s).0 (c k) is).1 ∙ kind.picked k in
            absurd (true≢false (sym (λ i. (itself k) i || is_among R k (keys_among pick s ws))
            ∙ ap (λ p. is_among R k (with_key p (keys_among pick s ws))) (sym here) ∙ none))
        | false ↦ λ _. not_written k is ws (later (pick (key_of s w.0)) none)
      ] refl
    where
      later : (p : Option K) → is_among R k (with_key p (keys_among pick s ws)) ≡ false → is_among R k (keys_among pick s ws) ≡ false
      later None h = h
      later (Some j) h = elim (eq_by_cmp R k j) as (λ b. (b || is_among R k (keys_among pick s ws)) ≡ false → is_among R k (keys_among pick s ws) ≡ false) [
        | true ↦ λ t. absurd (true≢false t)
        | false ↦ λ t. t
      ] h

module _ {K : Type 0} {R : K → K → Ordering} {c : K → RecordKey} {pick : RecordKey → Option K} (kind : IsKind c pick) where
  -- the sums over the keys written are what the writes move
  pub changes-moved : (f : Worth) → ((key : RecordKey) → pick key ≡ None → (words : List ℕ) → f key words ≡ pos 0)
      → (s : Sizes) (m n : FinMap R (List ℕ)) (held : ℕ → Option (List ℕ)) (ws : List (ℕ × Option (List ℕ)))
      → All (λ e. (k : K) → key_of s e.0 ≡ c k → get m k ≡ held e.0) ws
      → All (λ e. (k : K) → key_of s e.0 ≡ c k → get n k ≡ e.1) ws
      → changes (λ k words. f (c k) words) m n (keys_among pick s ws) ≡ moved s held ws f
  changes-moved f off s m n held [] was is = refl
  changes-moved f off s m n held (w ∷ ws) was is =
      let rest = changes-moved f off s m n held ws (All-tail (λ e. (k : K) → key_of s e.0 ≡ c k → get m k ≡ held e.0) w ws was)
      (All-tail (λ e. (k : K) → key_of s e.0 ≡ c k → get n k ≡ e.1) w ws is) in
      let old = All-head (λ e. (k : K) → key_of s e.0 ≡ c k → get m k ≡ held e.0) w ws was in
      let new = All-head (λ e. (k : K) → key_of s e.0 ≡ c k → get n k ≡ e.1) w ws is in
      elim (pick (key_of s w.0)) as (λ p. pick (key_of s w.0) ≡ p
      → changes (λ k words. f (c k) words) m n (with_key p (keys_among pick s ws)) ≡ step (key_of s w.0) (held w.0) w.1 f +ℤ moved s held ws f) [
        | None ↦ λ none. rest ∙ nothing (key_of s w.0) none (held w.0) w.1 (moved s held ws f)
        | Some k ↦ λ found.
            let key = kind.only (key_of s w.0) k found in
            λ i. (option_map_or (f (sym key i)) (new k key i) (pos 0) -ℤ option_map_or (f (sym key i)) (old k key i) (pos 0)) +ℤ rest i
      ] refl
    where
      worthless : (key : RecordKey) → pick key ≡ None → (v : Option (List ℕ)) → worth_of f key v ≡ pos 0
      worthless key none None = refl
      worthless key none (Some words) = off key none words

      nothing : (key : RecordKey) → pick key ≡ None → (v w : Option (List ℕ)) (a : ℤ) → a ≡ step key v w f +ℤ a
      nothing key none v w a =
          let p = worthless key none v in
          let q = worthless key none w in
          omega (arith, ints)

module _ (t u : Database) (writes : List (ℕ × Option (List ℕ))) (h : AreWritten t u writes) where
  values : All (λ e. rows u e.0 ≡ e.1) writes
  values i d inside =
      h.rows _ (h.below i d inside) ∙ ap (λ v. unwrap_or v (rows t (slice_index_or writes i d).0)) (h.found i d inside)

module _ {K X : Type 0} {R : K → K → Ordering} {c : K → RecordKey} {pick : RecordKey → Option K} (o : IsExact R) (kind : IsKind c pick) (t u : Database)
    (writes : List (ℕ × Option (List ℕ))) (h : AreWritten t u writes) where
  -- the sum of what the rows of a table are worth
  pub total-written : (f : Worth) → ((key : RecordKey) → pick key ≡ None → (words : List ℕ) → f key words ≡ pos 0)
      → (words : X → List ℕ) (m n : FinMap R X)
      → ((k : K) → row_at t (c k) ≡ option_map words (get m k)) → ((k : K) → row_at u (c k) ≡ option_map words (get n k))
      → RowsWithin (λ k. IsRecordKey t.scale (c k)) m → RowsWithin (λ k. IsRecordKey t.scale (c k)) n
      → total (λ k r. f (c k) (words r)) n ≡ total (λ k r. f (c k) (words r)) m +ℤ moved t.scale (rows t) writes f
  total-written f off words m n at_t at_u within_m within_n =
      let ks = keys_among pick t.scale writes in
      sym (total-by_words words (λ k r. f (c k) r) n)
      ∙ total-differs o (λ k r. f (c k) r) (by_words words m) (by_words words n) ks
      (keys_apart o kind t.scale writes h.below h.ascend) (λ q none. get-by_words words n q ∙ same q none ∙ sym (get-by_words words m q))
      ∙ (λ i. total-by_words words (λ k r. f (c k) r) m i +ℤ changes-moved kind f off t.scale (by_words words m) (by_words words n) (rows t) writes
      (λ j d inside k key. get-by_words words m k ∙ sym (at_t k) ∙ ap (row_at t) (sym key))
      (λ j d inside k key. get-by_words words n k ∙ sym (at_u k) ∙ ap (row_at u) (sym key ∙ ap (λ z. key_of z (slice_index_or writes j d).0) (sym h.scale))
      ∙ values t u writes h j d inside) i)
    where
      at_scale : (q : K) → IsRecordKey t.scale (c q) → is_among R q (keys_among pick t.scale writes) ≡ false
          → option_map words (get n q) ≡ option_map words (get m q)
      at_scale q is none =
          let number = number_of_key t.scale (c q) in
          let named = (one_to_one t.scale).0 (c q) is in
          sym (at_u q) ∙ ap (row_at u) (sym named.1 ∙ ap (λ z. key_of z number) (sym h.scale))
          ∙ h.rows number named.0 ∙ ap (λ v. unwrap_or v (rows t number)) (not_written o kind t.scale q is writes none)
          ∙ ap (row_at t) named.1 ∙ at_t q

      same : (q : K) → is_among R q (keys_among pick t.scale writes) ≡ false → option_map words (get n q) ≡ option_map words (get m q)
      same q none = either (get m q) refl (get n q) refl
        where
          either : (v : Option X) → get m q ≡ v → (w : Option X) → get n q ≡ w → option_map words (get n q) ≡ option_map words (get m q)
          either None a None b = ap (option_map words) (b ∙ sym a)
          either (Some r) a w b = at_scale q (within_m q (ap is_some a)) none
          either None a (Some r) b = at_scale q (within_n q (ap is_some b)) none
