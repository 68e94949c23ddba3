-- A search for the least key whose row fails a test: what the entries that are left still have to show.
use Rattle.std.proofs.Common.{◌≡◌, ◌↔◌, ◌⊎◌, inl, inr, ⊎_elim, Bool, true, false, not, cond, true≢false, Option, Some, None, is_some, IsSome, IsNone, List, [], ◌∷◌, refl, sym, ap, ◌∙◌, subst}
use Rattle.std.specs.List.{AllByRecursion}
use Rattle.std.specs.List.Sorted.{IsStrictlySortedBy}
use Rattle.std.specs.Map.{keys_of, lookup}
use Rattle.std.specs.Option.{ForSome}
use Rattle.std.specs.Ordering.{is_eq}
use Rattle.std.specs.Cmp.{tied_itself}
use Rattle.std.specs.BTreeMap as tree
use Rattle.std.specs.BTreeMap.{BTreeMap, is_at}
use Rattle.std.specs.FinMap.{FinMap, get, from_entries}
use Rattle.std.specs.declared.cmp.Ordering.{Ordering}
use Rattle.std.specs.declared.cmp.Ordering.TheVariants.{Less, Equal, Greater}
use Rattle.std.proofs.lemmas.Map.Keys.{sorted_head, sorted_tail}
use Rattle.tables.proofs.Orders.{IsExact}
use Rattle.tables.proofs.Views.{get-view}
use Rattle.tables.specs.Maps.{EachRow}
use Rattle.conditions.specs.Finds.{FindsLeast}

-- where the condition holds at each key, nothing is found
pub finds_none : {K : Type 0} (R : K → K → Ordering) (IsKey HoldsAt : K → Type 0) (found : Option K) → FindsLeast R IsKey HoldsAt found
    → ((k : K) → IsKey k → HoldsAt k) → IsNone found
finds_none R IsKey HoldsAt None finds holds = refl
finds_none R IsKey HoldsAt (Some k) finds holds = absurd (finds.1 (holds k finds.0))

-- T holds of each row that isn't left
pub record IsSearched {K X : Type 0} (R : K → K → Ordering) (m : BTreeMap K X) (T : K → X → Type 0) (left : List (K × X)) : Type 0 where
  pub covered : (q : K) (r : X) → tree.get R m q ≡ Some r → (lookup (is_at (R q)) left ≡ Some r) ⊎ T q r
  pub within : (q : K) (r : X) → lookup (is_at (R q)) left ≡ Some r → tree.get R m q ≡ Some r
  pub sorted : IsStrictlySortedBy R (keys_of left)

-- a tie that a test found
equal : (r : Ordering) → is_eq r ≡ true → r ≡ Equal
equal Less p = cc
equal Equal p = refl
equal Greater p = cc

module _ {K X : Type 0} {R : K → K → Ordering} (o : IsExact R) where
  -- a key below all has no entry
  above : (k : K) (es : List (K × X)) → AllByRecursion (λ y. R k y ≡ Less) (keys_of es) → lookup (is_at (R k)) es ≡ None
  above k [] h = refl
  above k (e ∷ es) h = ap (λ r. cond (is_eq r) (Some e.1) (lookup (is_at (R k)) es)) h.0 ∙ above k es h.1

  lower : (j k : K) (es : List (K × X)) → R j k ≡ Less → AllByRecursion (λ y. R k y ≡ Less) (keys_of es) → AllByRecursion (λ y. R j y ≡ Less) (keys_of es)
  lower j k [] below h = tt
  lower j k (e ∷ es) below h = (o.total.trans j k e.0 below h.0, lower j k es below h.1)

  module _ (m : BTreeMap K X) (T : K → X → Type 0) where
    pub searched_none : tree.IsOrdered R m → IsSearched R m T m.entries
    searched_none ordered = record { covered = λ q r e. inl e; within = λ q r e. e; sorted = ordered }

    pub searched_more : (left rest : List (K × X)) (k : K) (r : X) → left ≡ (k, r) ∷ rest → IsSearched R m T left → T k r → IsSearched R m T rest
    searched_more left rest k r next before holds = record {
      covered = λ q x e. ⊎_elim (λ l. ahead q x l) (λ t. inr t) (h.covered q x e);
      within = λ q x e. h.within q x (ap (λ b. cond b (Some r) (lookup (is_at (R q)) rest)) (apart q x e) ∙ e);
      sorted = sorted_tail R k (keys_of rest) h.sorted;
    }
      where
        h : IsSearched R m T ((k, r) ∷ rest)
        h = subst (IsSearched R m T) next before

        same : (x y : X) → Some x ≡ Some y → x ≡ y
        same x y e = cc

        ahead : (q : K) (x : X) → lookup (is_at (R q)) ((k, r) ∷ rest) ≡ Some x → (lookup (is_at (R q)) rest ≡ Some x) ⊎ T q x
        ahead q x l = elim (is_eq (R q k)) as (λ b. is_eq (R q k) ≡ b → cond b (Some r) (lookup (is_at (R q)) rest) ≡ Some x
            → (lookup (is_at (R q)) rest ≡ Some x) ⊎ T q x) [
              | true ↦ λ t e. inr (subst (λ y. T q y) (same r x e) (subst (λ j. T j r) (sym (o.same q k (equal _ t))) holds))
              | false ↦ λ t e. inl e
            ] refl l

        none : (x : X) → lookup (is_at (R k)) rest ≡ Some x → true ≡ false
        none x e = let missing = above k rest (sorted_head R k (keys_of rest) h.sorted) in cc

        apart : (q : K) (x : X) → lookup (is_at (R q)) rest ≡ Some x → is_eq (R q k) ≡ false
        apart q x e = elim (is_eq (R q k)) as (λ b. is_eq (R q k) ≡ b → b ≡ false) [
          | true ↦ λ t. none x (sym (ap (λ j. lookup (is_at (R j)) rest) (o.same q k (equal _ t))) ∙ e)
          | false ↦ λ t. refl
        ] refl

    -- nothing is left
    pub searched_all : (left : List (K × X)) → left ≡ [] → IsSearched R m T left → (k : K) → IsSome (tree.get R m k) → ForSome (tree.get R m k) (T k)
    searched_all left none h k some r e = ⊎_elim (λ l. missing (ap (λ es. lookup (is_at (R k)) es) (sym none) ∙ l)) (λ t. t) (h.covered k r e)
      where
        missing : None ≡ Some r → T k r
        missing e = cc

    -- the first that is left fails
    pub searched_first : (left rest : List (K × X)) (k : K) (r : X) → left ≡ (k, r) ∷ rest → IsSearched R m T left → (T k r → ⊥)
        → FindsLeast R (λ q. IsSome (tree.get R m q)) (λ q. ForSome (tree.get R m q) (T q)) (Some k)
    searched_first left rest k r next before fails = (subst (λ (w : Option X). IsSome w) (sym at) refl, λ holds. fails (holds r at), earlier)
      where
        h : IsSearched R m T ((k, r) ∷ rest)
        h = subst (IsSearched R m T) next before

        at : tree.get R m k ≡ Some r
        at = h.within k r (ap (λ t. cond (is_eq t) (Some r) (lookup (is_at (R k)) rest)) (tied_itself o.total k))

        earlier : (j : K) → IsSome (tree.get R m j) → R j k ≡ Less → ForSome (tree.get R m j) (T j)
        earlier j some below x e =
            ⊎_elim (λ l. missing (sym (above j ((k, r) ∷ rest) (below, lower j k rest below (sorted_head R k (keys_of rest) h.sorted))) ∙ l)) (λ t. t)
            (h.covered j x e)
          where
            missing : None ≡ Some x → T j x
            missing e = cc

  -- from `BTreeMap` to the finite map
  finds-view : (m : BTreeMap K X) (T : K → X → Type 0) (found : Option K)
      → FindsLeast R (λ k. IsSome (tree.get R m k)) (λ k. ForSome (tree.get R m k) (T k)) found
      → FindsLeast R (λ k. IsSome (get (from_entries {R = R} m.entries) k)) (λ k. ForSome (get (from_entries {R = R} m.entries) k) (T k)) found
  finds-view m T found = subst (λ (row : K → Option X). FindsLeast R (λ k. IsSome (row k)) (λ k. ForSome (row k) (T k)) found) (λ i k. sym (get-view o m k) i)

  -- so where what each row is held against is told otherwise
  pub finds_told : {A : Type 0} (m : BTreeMap K X) (T : A → K → X → Type 0) (a b : A) → a ≡ b → (found : Option K)
      → FindsLeast R (λ k. IsSome (tree.get R m k)) (λ k. ForSome (tree.get R m k) (T a k)) found
      → FindsLeast R (λ k. IsSome (get (from_entries {R = R} m.entries) k)) (λ k. ForSome (get (from_entries {R = R} m.entries) k) (T b k)) found
  finds_told {A} m T a b same found finds = finds-view m (T b) found
      (subst (λ (s : A). FindsLeast R (λ k. IsSome (tree.get R m k)) (λ k. ForSome (tree.get R m k) (T s k)) found) same finds)

  -- nothing is found exactly where the condition holds of each row
  pub each_told : {A : Type 0} (m : BTreeMap K X) (T : A → K → X → Type 0) (a b : A) → a ≡ b → (found : Option K) (none : Bool) → is_some found ≡ not none
      → FindsLeast R (λ k. IsSome (tree.get R m k)) (λ k. ForSome (tree.get R m k) (T a k)) found
      → (none ≡ true) ↔ EachRow (T b) (from_entries {R = R} m.entries)
  each_told {A} m T a b same found none test finds = answer found none test (finds_told m T a b same found finds)
    where
      rows : FinMap R X
      rows = from_entries {R = R} m.entries

      answer : (found : Option K) (none : Bool) → is_some found ≡ not none
          → FindsLeast R (λ k. IsSome (get rows k)) (λ k. ForSome (get rows k) (T b k)) found
          → (none ≡ true) ↔ EachRow (T b) rows
      answer None true test finds = (λ t k r e. finds k (subst (λ (row : Option X). IsSome row) (sym e) refl) r e, λ each. refl)
      answer None false test finds = absurd (true≢false (sym test))
      answer (Some k) true test finds = absurd (true≢false test)
      answer (Some k) false test finds = (λ t. absurd (true≢false (sym t)), λ each. absurd (finds.1 (λ r e. each k r e)))
