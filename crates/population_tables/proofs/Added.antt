-- Rows added one after another.
use Rattle.std.proofs.Common.{◌≡◌, ℕ, ◌+◌, ◌≤◌, Bool, true, false, cond, ◌==◌, ◌&&◌, ◌||◌, true≢false, Option, Some, refl, sym, ap}
use Rattle.std.proofs.Common.{◌∙◌, subst, arith}
use Rattle.std.specs.Ordering.{nat_cmp, ordering_then, is_eq, eq_by_cmp}
use Rattle.std.specs.BTreeMap as tree
use Rattle.std.specs.BTreeMap.{BTreeMap}
use Rattle.std.specs.FinMap.{FinMap, get, get-insert, from_entries}
use Rattle.std.specs.declared.cmp.Ordering.{Ordering}
use Rattle.std.specs.declared.cmp.Ordering.TheVariants.{Less, Equal, Greater}
use Rattle.std.proofs.lemmas.Bool.Decides.{nat_tests}
use Rattle.std.proofs.Math.Bool.{and_assoc}
use Rattle.std.specs.Cmp.{tied_then}
use Rattle.tables.proofs.Orders.{IsExact}
use Rattle.tables.proofs.Views.{insert-view}
use Rattle.population_tables.specs.Adds.{is, is_in, Added, AddsRows}

-- one number more
pub is_in_more : (low i j k : ℕ) → low ≤ i → j ≡ i + 1 → is_in low j k ≡ (is_in low i k || is i k)
is_in_more low i j k from next = grind (arith, nat_tests)

-- one part of a key that passes one of two tests
pub left : (u v y w : Bool) → w ≡ (u || v) → (w && y) ≡ ((u && y) || (v && y))
left true v true w e = grind arith
left true v false w e = grind arith
left false v y w e = grind arith

pub right : (x u v w : Bool) → w ≡ (u || v) → (x && w) ≡ ((x && u) || (x && v))
right true u v w e = e
right false u v w e = refl

pub left_none : (u y : Bool) → u ≡ false → (u && y) ≡ false
left_none true y e = absurd (true≢false e)
left_none false y e = refl

pub is_eq-nat_cmp : (a b : ℕ) → is_eq (nat_cmp a b) ≡ (a == b)
is_eq-nat_cmp a b = grind (arith, nat_tests)

and_assoc_four : (a b c d : Bool) → (a && (b && c && d)) ≡ (a && b && c && d)
and_assoc_four true b c d = refl
and_assoc_four false b c d = refl

pair : {a b x y : Bool} → a ≡ x → b ≡ y → (a && b) ≡ (x && y)
pair e f i = e i && f i

-- the keys that tie with a key are those with the same parts
pub tied_two : (a b x y : ℕ) → is_eq (ordering_then (nat_cmp a x) (nat_cmp b y)) ≡ (is x a && is y b)
tied_two a b x y = sym (tied_then (nat_cmp a x) _) ∙ pair (is_eq-nat_cmp a x) (is_eq-nat_cmp b y)

pub tied_three : (a b c x y z : ℕ) → is_eq (ordering_then (nat_cmp a x) (ordering_then (nat_cmp b y) (nat_cmp c z))) ≡ (is x a && is y b && is z c)
tied_three a b c x y z = sym (tied_then (nat_cmp a x) _) ∙ pair (is_eq-nat_cmp a x) (tied_two b c y z) ∙ sym (and_assoc (is x a) (is y b) (is z c))

pub tied_four : (a b c d x y z w : ℕ)
    → is_eq (ordering_then (nat_cmp a x) (ordering_then (nat_cmp b y) (ordering_then (nat_cmp c z) (nat_cmp d w)))) ≡ (is x a && is y b && is z c && is w d)
tied_four a b c d x y z w = sym (tied_then (nat_cmp a x) _) ∙ pair (is_eq-nat_cmp a x) (tied_three b c d y z w)
    ∙ and_assoc_four (is x a) (is y b) (is z c) (is w d)

module _ {X : Type 0} (P : X → Type 0) where
  added_both : (p q : Bool) (old middle new : Option X) → Added P p old middle → Added P q middle new → Added P (p || q) old new
  added_both true true old middle new first second = second
  added_both true false old middle new first second = (first.0, second ∙ first.1, first.2)
  added_both false true old middle new first second = second
  added_both false false old middle new first second = second ∙ first

  pub not_added : (b : Bool) (old new : Option X) → b ≡ false → Added P b old new → new ≡ old
  not_added true old new e a = absurd (true≢false e)
  not_added false old new e a = a

module _ {K X : Type 0} {R : K → K → Ordering} (P : K → X → Type 0) where
  -- a value of which P holds at k is added at each key that ties with k
  one_at : (o : IsExact R) (q k : K) (v : X) (old new : Option X) → P k v → (r : Ordering) → R q k ≡ r → new ≡ cond (is_eq r) (Some v) old
      → Added (P q) (is_eq r) old new
  one_at o q k v old new holds Less e is_new = is_new
  one_at o q k v old new holds Equal e is_new = (v, is_new, subst (λ x. P x v) (sym (o.same q k e)) holds)
  one_at o q k v old new holds Greater e is_new = is_new

-- the row at a key once a value is inserted
pub get_inserted : {K X : Type 0} {R : K → K → Ordering} (o : IsExact R) (m n : BTreeMap K X) (k : K) (v : X) → tree.Updates R m n k (Some v) → (q : K)
    → get (from_entries {R = R} n.entries) q ≡ cond (eq_by_cmp R q k) (Some v) (get (from_entries {R = R} m.entries) q)
get_inserted {R} o m n k v updates q = ap (λ (t : FinMap R _). get t q) (insert-view o m n k v updates) ∙ get-insert o.total (from_entries m.entries) k v q

module _ {K X : Type 0} {R : K → K → Ordering} {P : K → X → Type 0} where
  -- the same rows, by another test
  pub adds_same : {p q : K → Bool} {old new : FinMap R X} → ((k : K) → p k ≡ q k) → AddsRows R p P old new → AddsRows R q P old new
  adds_same {p} {q} {old} {new} same adds = record { rows = λ k. subst (λ b. Added (P k) b (get old k) (get new k)) (same k) (adds.rows k) }

  -- the rows of an equal table
  pub rows_as : {p : K → Bool} {old new other : FinMap R X} → other ≡ new → AddsRows R p P old new → AddsRows R p P old other
  rows_as {p} {old} e adds = subst (λ (m : FinMap R X). AddsRows R p P old m) (sym e) adds

  -- the rows at the keys p, and then those at the keys q
  pub adds_both : {p q both : K → Bool} {old middle new : FinMap R X} → ((k : K) → both k ≡ (p k || q k)) → AddsRows R p P old middle
      → AddsRows R q P middle new → AddsRows R both P old new
  adds_both {p} {q} {both} {old} {middle} {new} is_both first second = record {
    rows = λ k. subst (λ b. Added (P k) b (get old k) (get new k)) (sym (is_both k)) (added_both (P k) (p k) (q k) _ _ _ (first.rows k) (second.rows k));
  }

  -- the row that `insert` adds
  pub adds_one : {p : K → Bool} (o : IsExact R) (m n : BTreeMap K X) (k : K) (v : X) → P k v → ((q : K) → eq_by_cmp R q k ≡ p q)
      → tree.Updates R m n k (Some v) → AddsRows R p P (from_entries m.entries) (from_entries n.entries)
  adds_one {p} o m n k v holds is_key updates = adds_same is_key (record {
    rows = λ q. one_at P o q k v (get (from_entries {R = R} m.entries) q) (get (from_entries {R = R} n.entries) q) holds (R q k) refl
        (get_inserted o m n k v updates q);
  })

  -- the row that is inserted after those at the keys p
  pub adds_next : (o : IsExact R) {p one after : K → Bool} {old : FinMap R X} (m n : BTreeMap K X) (k : K) (v : X)
      → AddsRows R p P old (from_entries m.entries) → P k v → ((q : K) → after q ≡ (p q || one q)) → ((q : K) → eq_by_cmp R q k ≡ one q)
      → tree.Updates R m n k (Some v) → AddsRows R after P old (from_entries n.entries)
  adds_next o m n k v before holds is_after is_key updates = adds_both is_after before (adds_one o m n k v holds is_key updates)
