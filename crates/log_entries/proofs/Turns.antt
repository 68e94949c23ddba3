-- The numbers of records rise by table and place.
use Rattle.std.proofs.Common.{◌≡◌, ℕ, ◌+◌, ◌-◌, ◌*◌, ◌^◌, ◌<◌, ◌≤◌, Bool, false, cond, List, [], ◌∷◌, ◌++◌, refl, sym, ap, subst, arith, rules}
use Rattle.std.proofs.Common.{not-suc-le-zero, ⊎_elim}
use Rattle.std.specs.List.{AllByRecursion, sum_by}
use Rattle.std.proofs.lemmas.Bool.{lt-ltb, le-ltb, cases_lt}
use Rattle.std.proofs.lemmas.List.Sums.{sum_by-cons}
use Rattle.tables.specs.Sizes.{Sizes, IsScale}
use Rattle.tables.specs.Records.{tables, table_number, size, first_number, narrow_count, record_count, table_among, place_among, table_at, place_at}
use Rattle.tables.specs.declared.records.Table.{Table}
use Rattle.tables.specs.declared.records.Table.TheVariants as table
use Rattle.log_text.specs.Columns.{has_text}
use Rattle.log_text.specs.Writes.{places}
use Rattle.log_text.proofs.Fitting.{few_places}

-- the tables' numbers rise, from `least` or more
abbrev Rise : ℕ → List Table → Type 0
Rise least [] = Unit {0}
Rise least (t ∷ ts) = (least ≤ table_number t) × Rise (table_number t + 1) ts

abbrev before : List Table
before = table.Warehouse ∷ table.District ∷ table.Customer ∷ table.History ∷ []

abbrev behind : List Table
behind = table.NewOrder ∷ table.Order ∷ table.OrderLine ∷ table.Item ∷ table.Stock ∷ table.Oldest ∷ table.Last
    ∷ table.CustomerData ∷ []

rise : Rise 1 tables
rise = search rules

rise_behind : Rise 5 behind
rise_behind = search rules

abbrev narrow : List Table
narrow = table.Warehouse ∷ table.District ∷ table.Customer ∷ table.History ∷ table.NewOrder ∷ table.Order ∷ table.OrderLine ∷ table.Item ∷ table.Stock
    ∷ table.Oldest ∷ table.Last ∷ []

low_narrow : AllByRecursion (λ t. table_number t ≤ 11) narrow
low_narrow = search rules

low_before : AllByRecursion (λ t. table_number t ≤ 4) before
low_before = search rules

module _ (s : Sizes) where
  -- the table and the place of a number, among tables whose records follow one another
  abbrev at : List Table → ℕ → Table × ℕ
  at ts n = (table_among s ts n, place_among s ts n)

  -- they order records as their text does
  abbrev rank_of : Table × ℕ → ℕ
  rank_of p = table_number p.0 * 2 ^ 32 + p.1

  here : (t : Table) (ts : List Table) (n : ℕ) → n < size s t → at (t ∷ ts) n ≡ (t, n)
  unfolding table_among place_among
  here t ts n h = ap (λ (b : Bool). (cond b t (table_among s ts (n - size s t)), cond b n (place_among s ts (n - size s t)))) (lt-ltb n (size s t) h)

  there : (t : Table) (ts : List Table) (n : ℕ) → size s t ≤ n → at (t ∷ ts) n ≡ at ts (n - size s t)
  unfolding table_among place_among
  there t ts n h = ap (λ (b : Bool). (cond b t (table_among s ts (n - size s t)), cond b n (place_among s ts (n - size s t)))) (le-ltb n (size s t) h)

  less : (n : ℕ) (t : Table) (ts : List Table) → n < sum_by (size s) (t ∷ ts) → size s t ≤ n → n - size s t < sum_by (size s) ts
  less n t ts h k = let all = sum_by-cons (size s) t ts in omega arith

  -- a table's number is no less than the first's, and a place is one of its table's
  record IsPlaced (least : ℕ) (p : Table × ℕ) : Type 0 where
    later : least ≤ table_number p.0
    within : p.1 < size s p.0

  placed : (least n : ℕ) (ts : List Table) → Rise least ts → n < sum_by (size s) ts → IsPlaced least (at ts n)
  placed least n [] r h = absurd (not-suc-le-zero h)
  placed least n (t ∷ ts) r h = ⊎_elim
      (λ (k : n < size s t). subst (IsPlaced least) (sym (here t ts n k)) (record { later = r.0; within = k }))
      (λ (k : size s t ≤ n).
      let q = placed (table_number t + 1) (n - size s t) ts r.1 (less n t ts h k) in
      subst (IsPlaced least) (sym (there t ts n k)) (record { later = omega (arith, r.0, q.later); within = q.within }))
      (cases_lt n (size s t))

  rises : ((t : Table) → size s t ≤ 2 ^ 32) → (least n m : ℕ) (ts : List Table) → Rise least ts → n < m → m < sum_by (size s) ts
      → rank_of (at ts n) < rank_of (at ts m)
  rises few least n m [] r h k = absurd (not-suc-le-zero k)
  rises few least n m (t ∷ ts) r h k = ⊎_elim
      (λ (l : m < size s t).
      subst (λ p. rank_of p < rank_of (at (t ∷ ts) m)) (sym (here t ts n (omega arith)))
      (subst (λ p. rank_of (t, n) < rank_of p) (sym (here t ts m l)) (omega arith)))
      (λ (l : size s t ≤ m).
      subst (λ p. rank_of (at (t ∷ ts) n) < rank_of p) (sym (there t ts m l)) (⊎_elim
      (λ (j : n < size s t).
      let q = placed (table_number t + 1) (m - size s t) ts r.1 (less m t ts k l) in
      subst (λ p. rank_of p < rank_of (at ts (m - size s t))) (sym (here t ts n j)) (omega (arith, few t, q.later)))
      (λ (j : size s t ≤ n).
      subst (λ p. rank_of p < rank_of (at ts (m - size s t))) (sym (there t ts n j))
      (rises few (table_number t + 1) (n - size s t) (m - size s t) ts r.1 (omega arith) (less m t ts k l)))
      (cases_lt n (size s t))))
      (cases_lt m (size s t))

  -- the records of the first tables, and those behind them
  in_front : (most n : ℕ) (ts us : List Table) → AllByRecursion (λ t. table_number t ≤ most) ts → n < sum_by (size s) ts
      → table_number (table_among s (ts ++ us) n) ≤ most
  in_front most n [] us few h = absurd (not-suc-le-zero h)
  in_front most n (t ∷ ts) us few h = ⊎_elim
      (λ (k : n < size s t). subst (λ p. table_number p.0 ≤ most) (sym (here t (ts ++ us) n k)) few.0)
      (λ (k : size s t ≤ n). subst (λ p. table_number p.0 ≤ most) (sym (there t (ts ++ us) n k)) (in_front most (n - size s t) ts us few.1 (less n t ts h k)))
      (cases_lt n (size s t))

  further : (least n : ℕ) (ts us : List Table) → Rise least us → sum_by (size s) ts ≤ n → n < sum_by (size s) (ts ++ us)
      → least ≤ table_number (table_among s (ts ++ us) n)
  further least n [] us r h k = (placed least n us r k).later
  further least n (t ∷ ts) us r h k =
      let all = sum_by-cons (size s) t ts in
      let past : size s t ≤ n = omega arith in
      subst (λ p. least ≤ table_number p.0) (sym (there t (ts ++ us) n past))
      (further least (n - size s t) ts us r (omega arith) (less n t (ts ++ us) k past))

  sizes_are_places : (t : Table) → size s t ≤ places s t
  sizes_are_places table.Warehouse = omega arith
  sizes_are_places table.District = omega arith
  sizes_are_places table.Customer = omega arith
  sizes_are_places table.History = omega arith
  sizes_are_places table.NewOrder = omega arith
  sizes_are_places table.Order = omega arith
  sizes_are_places table.OrderLine = omega arith
  sizes_are_places table.Item = omega arith
  sizes_are_places table.Stock = omega arith
  sizes_are_places table.Oldest = omega arith
  sizes_are_places table.Last = omega arith
  sizes_are_places table.CustomerData = omega arith

  few : IsScale s → (t : Table) → size s t < 256 ^ 4
  few is t = omega (arith, sizes_are_places t, few_places s is t)

  -- a narrow record holds no text, and a wide one does
  without_text : (t : Table) → table_number t ≤ 11 → has_text t ≡ false
  without_text table.Warehouse low = refl
  without_text table.District low = refl
  without_text table.Customer low = refl
  without_text table.History low = refl
  without_text table.NewOrder low = refl
  without_text table.Order low = refl
  without_text table.OrderLine low = refl
  without_text table.Item low = refl
  without_text table.Stock low = refl
  without_text table.Oldest low = refl
  without_text table.Last low = refl
  without_text table.CustomerData low = absurd (omega (arith, low))

  pub narrow_holds_none : (n : ℕ) → n < narrow_count s → has_text (table_at s n) ≡ false
  narrow_holds_none n h = without_text (table_at s n) (in_front 11 n narrow (table.CustomerData ∷ []) low_narrow h)

  with_text : (t : Table) → 12 ≤ table_number t → t ≡ table.CustomerData
  with_text table.Warehouse high = absurd (omega (arith, high))
  with_text table.District high = absurd (omega (arith, high))
  with_text table.Customer high = absurd (omega (arith, high))
  with_text table.History high = absurd (omega (arith, high))
  with_text table.NewOrder high = absurd (omega (arith, high))
  with_text table.Order high = absurd (omega (arith, high))
  with_text table.OrderLine high = absurd (omega (arith, high))
  with_text table.Item high = absurd (omega (arith, high))
  with_text table.Stock high = absurd (omega (arith, high))
  with_text table.Oldest high = absurd (omega (arith, high))
  with_text table.Last high = absurd (omega (arith, high))
  with_text table.CustomerData high = refl

  pub wide_is_text : (n : ℕ) → narrow_count s ≤ n → n < record_count s → table_at s n ≡ table.CustomerData
  wide_is_text n h k = with_text (table_at s n) (further 12 n narrow (table.CustomerData ∷ []) (omega arith, tt) h k)

  -- records rise by table and place
  pub numbers_rise : IsScale s → (n m : ℕ) → n < m → m < record_count s → rank_of (at tables n) < rank_of (at tables m)
  numbers_rise is n m h k = rises (λ t. omega (arith, few is t)) 1 n m tables rise h k

  -- the place of a record is one of its table's
  pub place_within : (n : ℕ) → n < record_count s → place_at s n < places s (table_at s n)
  place_within n h = omega (arith, (placed 1 n tables rise h).within, sizes_are_places (table_at s n))

  pub place_small : IsScale s → (n : ℕ) → n < record_count s → place_at s n < 2 ^ 32
  place_small is n h = omega (arith, place_within n h, few_places s is (table_at s n))

  -- the records of WAREHOUSE, DISTRICT and CUSTOMER are those numbered below NEW-ORDER's
  pub before_history : (n : ℕ) → n < record_count s → n < first_number s table.NewOrder → table_number (table_at s n) < 4
  before_history n h k = omega (arith, in_front 4 n before behind low_before k, never (table_at s n) (placed 1 n tables rise h).within)
    where
      never : (t : Table) → place_at s n < size s t → (table_number t ≡ 4 → ⊥)
      never table.Warehouse l e = omega (arith, e)
      never table.District l e = omega (arith, e)
      never table.Customer l e = omega (arith, e)
      never table.History l e = not-suc-le-zero l
      never table.NewOrder l e = omega (arith, e)
      never table.Order l e = omega (arith, e)
      never table.OrderLine l e = omega (arith, e)
      never table.Item l e = omega (arith, e)
      never table.Stock l e = omega (arith, e)
      never table.Oldest l e = omega (arith, e)
      never table.Last l e = omega (arith, e)
      never table.CustomerData l e = omega (arith, e)

  pub behind_history : (n : ℕ) → n < record_count s → first_number s table.NewOrder ≤ n → 4 < table_number (table_at s n)
  behind_history n h k = further 5 n before behind rise_behind k h
