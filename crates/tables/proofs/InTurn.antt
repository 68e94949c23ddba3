-- Tables whose records follow one another: each number has its table and place, and each place of a table its number.
use Rattle.std.proofs.Common.{◌≡◌, ℕ, zero, suc, ◌+◌, ◌-◌, ◌<◌, ◌≤◌, nat_lt, Bool, true, false, cond, List, [], ◌∷◌, length, get_or, refl, sym, ap, ◌∙◌, subst}
use Rattle.std.proofs.Common.{arith, rules, not-suc-le-zero, ◌⊎◌, inl, inr, ⊎_elim, zero-le, drop}
use Rattle.std.specs.List.{filter, sum_by}
use Rattle.std.proofs.lemmas.List.Sums.{sum_by-cons}
use Rattle.std.proofs.lemmas.List.{drop_all}
use Rattle.std.proofs.Math.Seq.{drop-cons}
use Rattle.tables.specs.Sizes.{Sizes}
use Rattle.tables.specs.Records.{tables, table_number, size, first_number, record_number, record_count, table_among, place_among, table_at, place_at}
use Rattle.tables.specs.declared.records.Table.{Table}
use Rattle.tables.specs.declared.records.Table.TheVariants as table

-- the tables' numbers rise, from m or more
abbrev Rise : ℕ → List Table → Type 0
Rise m [] = Unit {0}
Rise m (t ∷ ts) = (m ≤ table_number t) × Rise (table_number t + 1) ts

rise : Rise 1 tables
rise = search rules

below : (n b : ℕ) → n < b → nat_lt n b ≡ true
below n b h = grind arith

not_below : (n b : ℕ) → b ≤ n → nat_lt n b ≡ false
not_below n b h = grind arith

lt_or_le : (n b : ℕ) → (n < b) ⊎ (b ≤ n)
lt_or_le n b = cases (nat_lt n b) refl
  where
    cases : (q : Bool) → nat_lt n b ≡ q → (n < b) ⊎ (b ≤ n)
    cases true e = inl (grind arith)
    cases false e = inr (grind arith)

one_more : (i : ℕ) → suc i ≡ i + 1
one_more i = omega arith

zero_plus : (n : ℕ) → 0 + n ≡ n
zero_plus n = omega arith

plus_plus : (a b c : ℕ) → a + b + c ≡ a + (b + c)
plus_plus a b c = omega arith

beyond : (a b p n : ℕ) → b + p ≡ n - a → a ≤ n → a + b + p ≡ n
beyond a b p n e h = omega arith

-- each table at its number
indexed : (t : Table) → (table_number t - 1 < length tables) × (get_or tables (table_number t - 1) table.Last ≡ t)
indexed table.Warehouse = (omega arith, refl)
indexed table.District = (omega arith, refl)
indexed table.Customer = (omega arith, refl)
indexed table.History = (omega arith, refl)
indexed table.NewOrder = (omega arith, refl)
indexed table.Order = (omega arith, refl)
indexed table.OrderLine = (omega arith, refl)
indexed table.Item = (omega arith, refl)
indexed table.Stock = (omega arith, refl)
indexed table.Oldest = (omega arith, refl)
indexed table.Last = (omega arith, refl)
indexed table.CustomerData = (omega arith, refl)

module _ (s : Sizes) where
  -- the records of those tables that have smaller numbers
  abbrev start_among : List Table → Table → ℕ
  start_among ts t = sum_by (size s) (filter (λ u. nat_lt (table_number u) (table_number t)) ts)

  start_more : (u t : Table) (ts : List Table) (b : Bool) → nat_lt (table_number u) (table_number t) ≡ b
      → start_among (u ∷ ts) t ≡ sum_by (size s)
      (cond b (u ∷ filter (λ v. nat_lt (table_number v) (table_number t)) ts) (filter (λ v. nat_lt (table_number v) (table_number t)) ts))
  start_more u t ts b e = ap
      (λ q. sum_by (size s) (cond q (u ∷ filter (λ v. nat_lt (table_number v) (table_number t)) ts)
      (filter (λ v. nat_lt (table_number v) (table_number t)) ts))) e

  -- none of those from m on
  none_before : (m : ℕ) (ts : List Table) (t : Table) → Rise m ts → table_number t ≤ m → start_among ts t ≡ 0
  none_before m [] t r h = refl
  none_before m (u ∷ ts) t r h = start_more u t ts false (not_below (table_number u) (table_number t) (omega (arith, r.0)))
      ∙ none_before (table_number u + 1) ts t r.1 (omega (arith, r.0))

  start_self : (m : ℕ) (ts : List Table) (t : Table) → Rise m (t ∷ ts) → start_among (t ∷ ts) t ≡ 0
  start_self m ts t r = start_more t t ts false (not_below (table_number t) (table_number t) (omega arith))
      ∙ none_before (table_number t + 1) ts t r.1 (omega arith)

  start_later : (u t : Table) (ts : List Table) → table_number u < table_number t → start_among (u ∷ ts) t ≡ size s u + start_among ts t
  start_later u t ts h = start_more u t ts true (below (table_number u) (table_number t) h)
      ∙ sum_by-cons (size s) u (filter (λ v. nat_lt (table_number v) (table_number t)) ts)

  start_not_later : (u t : Table) (ts : List Table) → table_number t ≤ table_number u → start_among (u ∷ ts) t ≡ start_among ts t
  start_not_later u t ts h = start_more u t ts false (not_below (table_number u) (table_number t) h)

  start_up : (ts : List Table) (t u : Table) → table_number t ≤ table_number u → start_among ts t ≤ start_among ts u
  start_up [] t u h = zero-le
  start_up (v ∷ ts) t u h =
      let rest = start_up ts t u h in
      ⊎_elim
      (λ (k : table_number v < table_number t). omega (arith, start_later v t ts k, start_later v u ts (omega arith), rest))
      (λ (k : table_number t ≤ table_number v).
      let same = start_not_later v t ts k in
      ⊎_elim
      (λ (l : table_number v < table_number u). omega (arith, same, start_later v u ts l, rest))
      (λ (l : table_number u ≤ table_number v). omega (arith, same, start_not_later v u ts l, rest))
      (lt_or_le (table_number v) (table_number u)))
      (lt_or_le (table_number v) (table_number t))

  -- a number's table and place
  pub record IsFound (m n : ℕ) (ts : List Table) (t : Table) (p : ℕ) : Type 0 where
    pub later : m ≤ table_number t
    pub within : p < size s t
    pub same : start_among ts t + p ≡ n

  pub record IsAt (n : ℕ) (ts : List Table) (t : Table) (p : ℕ) : Type 0 where
    pub table : table_among s ts n ≡ t
    pub place : place_among s ts n ≡ p

  first_is : (n : ℕ) (t : Table) (ts : List Table) → n < size s t → IsAt n (t ∷ ts) t n
  unfolding table_among place_among
  first_is n t ts h = record {
    table = ap (λ q. cond q t (table_among s ts (n - size s t))) (below n (size s t) h);
    place = ap (λ q. cond q n (place_among s ts (n - size s t))) (below n (size s t) h);
  }

  later_is : (n : ℕ) (t : Table) (ts : List Table) → size s t ≤ n → IsAt n (t ∷ ts) (table_among s ts (n - size s t)) (place_among s ts (n - size s t))
  unfolding table_among place_among
  later_is n t ts h = record {
    table = ap (λ q. cond q t (table_among s ts (n - size s t))) (not_below n (size s t) h);
    place = ap (λ q. cond q n (place_among s ts (n - size s t))) (not_below n (size s t) h);
  }

  found_again : (m n : ℕ) (ts : List Table) (t : Table) (p : ℕ) → IsAt n ts t p → IsFound m n ts t p → IsFound m n ts (table_among s ts n) (place_among s ts n)
  found_again m n ts t p i f = subst (λ (q : Table × ℕ). IsFound m n ts q.0 q.1) (λ j. (sym i.table j, sym i.place j)) f

  first_found : (m n : ℕ) (t : Table) (ts : List Table) → Rise m (t ∷ ts) → n < size s t
      → IsFound m n (t ∷ ts) (table_among s (t ∷ ts) n) (place_among s (t ∷ ts) n)
  first_found m n t ts r h =
      found_again m n (t ∷ ts) t n (first_is n t ts h) (record { later = r.0; within = h; same = ap (λ q. q + n) (start_self m ts t r) ∙ zero_plus n })

  later_found : (m n : ℕ) (t : Table) (ts : List Table) → m ≤ table_number t → size s t ≤ n
      → IsFound (table_number t + 1) (n - size s t) ts (table_among s ts (n - size s t)) (place_among s ts (n - size s t))
      → IsFound m n (t ∷ ts) (table_among s (t ∷ ts) n) (place_among s (t ∷ ts) n)
  later_found m n t ts r h f =
      let u = table_among s ts (n - size s t) in
      let p = place_among s ts (n - size s t) in
      found_again m n (t ∷ ts) u p (later_is n t ts h) (record {
        later = omega (arith, r, f.later);
        within = f.within;
        same = ap (λ q. q + p) (start_later t u ts (omega (arith, f.later))) ∙ beyond (size s t) (start_among ts u) p n f.same h;
      })

  after_first : (n : ℕ) (t : Table) (ts : List Table) → n < sum_by (size s) (t ∷ ts) → size s t ≤ n → n - size s t < sum_by (size s) ts
  after_first n t ts h k = let all = sum_by-cons (size s) t ts in omega arith

  found : (m n : ℕ) (ts : List Table) → Rise m ts → n < sum_by (size s) ts → IsFound m n ts (table_among s ts n) (place_among s ts n)
  found m n [] r h = absurd (not-suc-le-zero h)
  found m n (t ∷ ts) r h = ⊎_elim (λ (k : n < size s t). first_found m n t ts r k)
      (λ (k : size s t ≤ n). later_found m n t ts r.0 k (found (table_number t + 1) (n - size s t) ts r.1 (after_first n t ts h k))) (lt_or_le n (size s t))

  at_least : (m i : ℕ) (ts : List Table) → Rise m ts → i < length ts → m ≤ table_number (get_or ts i table.Last)
  at_least m i [] r h = absurd (not-suc-le-zero h)
  at_least m zero (t ∷ ts) r h = r.0
  at_least m (suc i) (t ∷ ts) r h = let k : table_number t + 1 ≤ table_number (get_or ts i table.Last) = at_least (table_number t + 1) i ts r.1 (omega arith) in
      let l = r.0 in omega arith

  -- a place's number
  pub record IsNumbered (n : ℕ) (ts : List Table) (t : Table) (p : ℕ) : Type 0 where
    pub at : IsAt n ts t p
    pub below : n < sum_by (size s) ts

  numbered_at : (m i p : ℕ) (ts : List Table) (t : Table) → Rise m ts → i < length ts → get_or ts i table.Last ≡ t → p < size s t
      → IsNumbered (start_among ts t + p) ts t p
  numbered_at m i p [] t r h e k = absurd (not-suc-le-zero h)
  numbered_at m zero p (u ∷ ts) t r h e k =
      subst (λ (v : Table). IsNumbered (start_among (u ∷ ts) v + p) (u ∷ ts) v p) e
      (subst (λ (n : ℕ). IsNumbered n (u ∷ ts) u p) (sym (ap (λ q. q + p) (start_self m ts u r) ∙ zero_plus p))
      (let small : p < size s u = subst (λ (v : Table). p < size s v) (sym e) k in
      record { at = first_is p u ts small; below = let all = sum_by-cons (size s) u ts in omega (arith, small) }))
  numbered_at m (suc i) p (u ∷ ts) t r h e k =
      let later : table_number u < table_number t = subst (λ (v : Table). table_number u < table_number v) e
      (omega (arith, at_least (table_number u + 1) i ts r.1 (omega arith))) in
      let n = start_among ts t + p in
      let f = numbered_at (table_number u + 1) i p ts t r.1 (omega arith) e k in
      let left : size s u + n - size s u ≡ n = omega arith in
      let now = later_is (size s u + n) u ts (omega arith) in
      let is : IsNumbered (size s u + n) (u ∷ ts) t p = record {
        at = record {
          table = now.table ∙ ap (table_among s ts) left ∙ f.at.table;
          place = now.place ∙ ap (place_among s ts) left ∙ f.at.place;
        };
        below = let all = sum_by-cons (size s) u ts in omega (arith, f.below);
      } in
      subst (λ (q : ℕ). IsNumbered q (u ∷ ts) t p) (sym (ap (λ q. q + p) (start_later u t ts later) ∙ plus_plus (size s u) (start_among ts t) p)) is

  pub located : (t : Table) (p : ℕ) → p < size s t → IsNumbered (record_number s t p) tables t p
  located t p h = let i = indexed t in numbered_at 1 (table_number t - 1) p tables t rise i.0 i.1 h

  pub found_among : (n : ℕ) → n < record_count s → IsFound 1 n tables (table_at s n) (place_at s n)
  found_among n h = found 1 n tables rise h

  -- the table of a number below a table's first has a smaller number
  pub earlier : (n : ℕ) (t : Table) → n < record_count s → n < first_number s t → table_number (table_at s n) < table_number t
  earlier n t h k =
      let f = found_among n h in
      ⊎_elim (λ (l : table_number (table_at s n) < table_number t). l)
      (λ (l : table_number t ≤ table_number (table_at s n)). let up = start_up tables t (table_at s n) l in let same = f.same in absurd (omega arith))
      (lt_or_le (table_number (table_at s n)) (table_number t))

  -- past the first i tables, whose records number m has none of
  pub record IsPast (n i m : ℕ) : Type 0 where
    pub table : table_among s (drop i tables) m ≡ table_at s n
    pub place : place_among s (drop i tables) m ≡ place_at s n
    pub below : m < sum_by (size s) (drop i tables)

  pub past_none : (n : ℕ) → n < record_count s → IsPast n 0 n
  past_none n h = record { table = refl; place = refl; below = h }

  pub past_all : (n i m : ℕ) → length tables ≤ i → IsPast n i m → ⊥
  past_all n i m h past = not-suc-le-zero (subst (λ ts. m < sum_by (size s) ts) (drop_all i tables h) past.below)

  module _ (n i m : ℕ) (d : Table) (h : i < length tables) (past : IsPast n i m) where
    here : drop i tables ≡ get_or tables i d ∷ drop (i + 1) tables
    here = drop-cons tables i d h ∙ ap (λ k. get_or tables i d ∷ drop k tables) (one_more i)

    pub found_here : m < size s (get_or tables i d) → (get_or tables i d ≡ table_at s n) × (m ≡ place_at s n)
    found_here k =
        let at = first_is m (get_or tables i d) (drop (i + 1) tables) k in
        (sym at.table ∙ sym (ap (λ ts. table_among s ts m) here) ∙ past.table, sym at.place ∙ sym (ap (λ ts. place_among s ts m) here) ∙ past.place)

    pub past_one : size s (get_or tables i d) ≤ m → IsPast n (i + 1) (m - size s (get_or tables i d))
    past_one k =
        let at = later_is m (get_or tables i d) (drop (i + 1) tables) k in record {
          table = sym at.table ∙ sym (ap (λ ts. table_among s ts m) here) ∙ past.table;
          place = sym at.place ∙ sym (ap (λ ts. place_among s ts m) here) ∙ past.place;
          below = after_first m (get_or tables i d) (drop (i + 1) tables) (subst (λ ts. m < sum_by (size s) ts) here past.below) k;
        }
