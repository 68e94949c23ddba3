-- The sums of two maps that differ at some keys at most.
use Rattle.std.proofs.Common.{◌≡◌, ℤ, pos, ◌+ℤ◌, ◌-ℤ◌, Bool, true, false, ◌||◌, cond, true≢false, List, [], ◌∷◌, Option, Some, None, refl, sym, ap, ◌∙◌, arith}
use Rattle.std.proofs.lemmas.Int.{ints}
use Rattle.std.specs.Option.{option_map_or}
use Rattle.std.specs.Ordering.{eq_by_cmp, is_eq}
use Rattle.std.specs.Cmp.{tied_itself}
use Rattle.std.specs.FinMap.{FinMap, entries, entries-insert, get, get-entries, get-insert, get-remove, insert, remove, find, put, same_map}
use Rattle.std.specs.FinMap.Entries.{by_order}
use Rattle.std.specs.declared.cmp.Ordering.{Ordering}
use Rattle.std.specs.declared.cmp.Ordering.TheVariants.{Less, Equal, Greater}
use Rattle.tables.specs.Maps.{sum_entries, total}
use Rattle.tables.proofs.Orders.{IsExact}
use Rattle.tables.proofs.Entries.{tied}

reordered : (a b c : ℤ) → a +ℤ (b +ℤ c) ≡ b +ℤ (a +ℤ c)
reordered a b c = omega (arith, ints)

-- a row more at a key that has none
sum-put : {K X : Type 0} (R : K → K → Ordering) (f : K → X → ℤ) (k : K) (v : X) (es : List (K × X)) → find R k es ≡ None
    → sum_entries f (put R k v es) ≡ f k v +ℤ sum_entries f es
sum-put R f k v [] none = refl
sum-put R f k v (e ∷ es) none =
    elim (R k e.0) as (λ r. cond (is_eq r) (Some e.1) (find R k es) ≡ None → sum_entries f (by_order r ((k, v) ∷ e ∷ es) ((e.0, v) ∷ es) (e ∷ put R k v es))
    ≡ f k v +ℤ sum_entries f (e ∷ es)) [
      | Less ↦ λ n. refl
      | Equal ↦ λ n. cc
      | Greater ↦ λ n. ap (λ a. f e.0 e.1 +ℤ a) (sum-put R f k v es n) ∙ reordered (f e.0 e.1) (f k v) (sum_entries f es)
    ] none

-- whether a key is one of these
abbrev pub is_among : {K : Type 0} → (K → K → Ordering) → K → List K → Bool
is_among R q [] = false
is_among R q (k ∷ ks) = eq_by_cmp R q k || is_among R q ks

-- each key is none of those after it
abbrev pub AreApart : {K : Type 0} → (K → K → Ordering) → List K → Type 0
AreApart R [] = Unit {0}
AreApart R (k ∷ ks) = (is_among R k ks ≡ false) × AreApart R ks

neither : (a b : Bool) → (a || b) ≡ false → (a ≡ false) × (b ≡ false)
neither true b h = absurd (true≢false h)
neither false b h = (refl, h)

module _ {K : Type 0} {R : K → K → Ordering} (o : IsExact R) where
  itself : (k : K) → eq_by_cmp R k k ≡ true
  itself k = ap is_eq (tied_itself o.total k)

  apart : (a b : K) → eq_by_cmp R a b ≡ false → eq_by_cmp R b a ≡ false
  apart a b h = elim (eq_by_cmp R b a) as (λ e. eq_by_cmp R b a ≡ e → e ≡ false) [
    | true ↦ λ t. absurd (true≢false (sym (itself b) ∙ ap (λ c. eq_by_cmp R c b) (o.same b a (tied _ t)) ∙ h))
    | false ↦ λ t. refl
  ] refl

module _ {K X : Type 0} {R : K → K → Ordering} where
  -- what the row at a key adds to a sum
  abbrev pub part : (K → X → ℤ) → FinMap R X → K → ℤ
  part f m k = option_map_or (f k) (get m k) (pos 0)

  -- by how much the sums of two maps differ at these keys
  abbrev pub changes : (K → X → ℤ) → FinMap R X → FinMap R X → List K → ℤ
  changes f m n [] = pos 0
  changes f m n (k ∷ ks) = (part f n k -ℤ part f m k) +ℤ changes f m n ks

module _ {K X : Type 0} {R : K → K → Ordering} (o : IsExact R) where
  -- the map with this row at a key, or with none
  placed : FinMap R X → K → Option X → FinMap R X
  placed m k None = remove m k
  placed m k (Some r) = insert m k r

  get-placed : (m : FinMap R X) (k : K) (w : Option X) (q : K) → get (placed m k w) q ≡ cond (eq_by_cmp R q k) w (get m q)
  unfolding placed
  get-placed m k None q = get-remove o.total m k q
  get-placed m k (Some r) q = get-insert o.total m k r q

  removed : (m : FinMap R X) (k : K) → get (remove m k) k ≡ None
  removed m k = get-remove o.total m k k ∙ ap (λ b. cond b None (get m k)) (itself o k)

  -- where the key has no row yet
  total-placed_new : (f : K → X → ℤ) (m : FinMap R X) (k : K) (w : Option X) → get m k ≡ None
      → total f (placed m k w) ≡ option_map_or (f k) w (pos 0) +ℤ total f m
  unfolding placed total
  total-placed_new f m k None none =
      ap (λ n. sum_entries f (entries n)) (same_map o.total o.same (remove m k) m (λ q. get-remove o.total m k q ∙ kept q)) ∙ zero_first (sum_entries f (entries m))
    where
      kept : (q : K) → cond (eq_by_cmp R q k) None (get m q) ≡ get m q
      kept q = elim (eq_by_cmp R q k) as (λ b. eq_by_cmp R q k ≡ b → cond b None (get m q) ≡ get m q) [
        | true ↦ λ t. sym (ap (get m) (o.same q k (tied _ t)) ∙ none)
        | false ↦ λ t. refl
      ] refl

      zero_first : (a : ℤ) → a ≡ pos 0 +ℤ a
      zero_first a = omega (arith, ints)
  total-placed_new f m k (Some r) none =
      ap (sum_entries f) (entries-insert o.total m k r) ∙ sum-put R f k r (entries m) (sym (get-entries m k) ∙ none)

  -- where it may have one
  total-placed : (f : K → X → ℤ) (m : FinMap R X) (k : K) (w : Option X)
      → total f (placed m k w) ≡ total f m +ℤ (option_map_or (f k) w (pos 0) -ℤ part f m k)
  total-placed f m k w =
      let base : FinMap R X = remove m k in
      let was : total f m ≡ part f m k +ℤ total f base = ap (total f) (again (get m k) refl) ∙ total-placed_new f base k (get m k) (removed m k) in
      let is : total f (placed m k w) ≡ option_map_or (f k) w (pos 0) +ℤ total f base =
      ap (total f) (same_map o.total o.same (placed m k w) (placed base k w)
      (λ q. get-placed m k w q ∙ over q ∙ sym (get-placed base k w q)))
      ∙ total-placed_new f base k w (removed m k) in
      joined (total f m) (part f m k) (total f base) (total f (placed m k w)) (option_map_or (f k) w (pos 0)) was is
    where
      over : (q : K) → cond (eq_by_cmp R q k) w (get m q) ≡ cond (eq_by_cmp R q k) w (get (remove m k) q)
      over q = elim (eq_by_cmp R q k) as (λ b. eq_by_cmp R q k ≡ b → cond b w (get m q) ≡ cond b w (get (remove m k) q)) [
        | true ↦ λ t. refl
        | false ↦ λ t. sym (get-remove o.total m k q ∙ ap (λ b. cond b None (get m q)) t)
      ] refl

      again : (v : Option X) → get m k ≡ v → m ≡ placed (remove m k) k v
      again v at = same_map o.total o.same m (placed (remove m k) k v) (λ q. here v at q ∙ sym (get-placed (remove m k) k v q))
        where
          here : (v : Option X) → get m k ≡ v → (q : K) → get m q ≡ cond (eq_by_cmp R q k) v (get (remove m k) q)
          here v at q = elim (eq_by_cmp R q k) as (λ b. eq_by_cmp R q k ≡ b → get m q ≡ cond b v (get (remove m k) q)) [
            | true ↦ λ t. ap (get m) (o.same q k (tied _ t)) ∙ at
            | false ↦ λ t. sym (get-remove o.total m k q ∙ ap (λ b. cond b None (get m q)) t)
          ] refl

      joined : (a p b c d : ℤ) → a ≡ p +ℤ b → c ≡ d +ℤ b → c ≡ a +ℤ (d -ℤ p)
      joined a p b c d was is = omega (arith, ints)

  changes_kept : (f : K → X → ℤ) (m n : FinMap R X) (k : K) (w : Option X) (ks : List K) → is_among R k ks ≡ false
      → changes f (placed m k w) n ks ≡ changes f m n ks
  changes_kept f m n k w [] none = refl
  changes_kept f m n k w (j ∷ ks) none =
      let other = neither (eq_by_cmp R k j) (is_among R k ks) none in
      let same : get (placed m k w) j ≡ get m j = get-placed m k w j ∙ ap (λ b. cond b w (get m j)) (apart o k j other.0) in
      λ i. (part f n j -ℤ option_map_or (f j) (same i) (pos 0)) +ℤ changes_kept f m n k w ks other.1 i

  pub total-differs : (f : K → X → ℤ) (m n : FinMap R X) (ks : List K) → AreApart R ks → ((q : K) → is_among R q ks ≡ false → get n q ≡ get m q)
      → total f n ≡ total f m +ℤ changes f m n ks
  total-differs f m n [] distinct same = ap (total f) (same_map o.total o.same n m (λ q. same q refl)) ∙ and_zero (total f m)
    where
      and_zero : (a : ℤ) → a ≡ a +ℤ pos 0
      and_zero a = omega (arith, ints)
  total-differs f m n (k ∷ ks) distinct same =
      let next : FinMap R X = placed m k (get n k) in
      let rest : total f n ≡ total f next +ℤ changes f next n ks =
      total-differs f next n ks distinct.1 (λ q none. at q none ∙ sym (get-placed m k (get n k) q)) in
      let kept : changes f next n ks ≡ changes f m n ks = changes_kept f m n k (get n k) ks distinct.0 in
      joined (total f n) (total f next) (changes f next n ks) (changes f m n ks) (total f m) (part f n k -ℤ part f m k) rest kept (total-placed f m k (get n k))
    where
      at : (q : K) → is_among R q ks ≡ false → get n q ≡ cond (eq_by_cmp R q k) (get n k) (get m q)
      at q none = elim (eq_by_cmp R q k) as (λ b. eq_by_cmp R q k ≡ b → get n q ≡ cond b (get n k) (get m q)) [
        | true ↦ λ t. ap (get n) (o.same q k (tied _ t))
        | false ↦ λ t. same q ((λ i. t i || none i))
      ] refl

      joined : (a b c d e g : ℤ) → a ≡ b +ℤ c → c ≡ d → b ≡ e +ℤ g → a ≡ e +ℤ (g +ℤ d)
      joined a b c d e g p q r = omega (arith, ints)
