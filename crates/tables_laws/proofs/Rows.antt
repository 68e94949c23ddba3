-- Rows of tables: which are there, and what holds of each after an insert or an update.
use Rattle.std.proofs.Common.{◌≡◌, true, false, cond, true≢false, Option, Some, None, IsSome, refl, sym, ap, ◌∙◌, subst}
use Rattle.std.proofs.lemmas.Option.{same_Some}
use Rattle.std.specs.Ordering.{eq_by_cmp, is_eq}
use Rattle.std.specs.Cmp.{tied_itself}
use Rattle.std.specs.FinMap.{FinMap, get, get-insert, insert}
use Rattle.std.specs.declared.cmp.Ordering.{Ordering}
use Rattle.tables.specs.Maps.{map_rows, RowsAt, RowsWithin, EachRow}
use Rattle.tables.proofs.Orders.{IsExact}
use Rattle.tables.proofs.Entries.{tied}
use Rattle.tables_laws.proofs.Updates.{is_some-map_rows, row_before}

-- the row at a key of the scale
pub there : {K X : Type 0} {R : K → K → Ordering} (IsKey : K → Type 0) (m : FinMap R X) → RowsAt IsKey m → (k : K) → IsKey k → (r : X) × (get m k ≡ Some r)
there {X = X} IsKey m at k is = found (get m k) refl ((at k).1 is)
  where
    found : (w : Option X) → get m k ≡ w → IsSome w → (r : X) × (get m k ≡ Some r)
    found None e some = absurd (true≢false (sym some))
    found (Some r) e some = (r, e)

-- rows whose keys are all of this kind
pub within_each : {K X : Type 0} {R : K → K → Ordering} (IsKey : K → Type 0) (m : FinMap R X) → EachRow (λ k r. IsKey k) m → RowsWithin IsKey m
within_each {X = X} IsKey m each k = at (get m k) refl
  where
    at : (w : Option X) → get m k ≡ w → IsSome w → IsKey k
    at None e some = absurd (true≢false (sym some))
    at (Some r) e some = each k r e

-- a row that can't be there isn't
pub absent : {K X : Type 0} {R : K → K → Ordering} (m : FinMap R X) (k : K) → ((r : X) → get m k ≡ Some r → ⊥) → get m k ≡ None
absent {X = X} m k never = none (get m k) refl
  where
    none : (w : Option X) → get m k ≡ w → get m k ≡ None
    none None e = e
    none (Some r) e = absurd (never r e)

module _ {K X : Type 0} {R : K → K → Ordering} (o : IsExact R) where
  -- an update keeps at which keys rows stand
  pub updated_rows : (IsKey : K → Type 0) (g : K → X → X) (m : FinMap R X) → RowsAt IsKey m → RowsAt IsKey (map_rows g m)
  updated_rows IsKey g m at k =
      let same = is_some-map_rows o g m k in
      ((λ some. (at k).0 (subst (λ b. b ≡ true) same some)), (λ is. subst (λ b. b ≡ true) (sym same) ((at k).1 is)))

  -- what holds of each row before the update and is kept by it holds of each row after it
  pub each_updated : (P Q : K → X → Type 0) (g : K → X → X) (m : FinMap R X) → EachRow P m → ((k : K) (r : X) → P k r → Q k (g k r)) → EachRow Q (map_rows g m)
  each_updated P Q g m each kept k s found =
      let before = row_before o g m k s found in
      subst (Q k) (sym before.2) (kept k before.0 (each k before.0 before.1))

  -- what holds of each row and of an inserted one holds of each row after the insert
  pub each_inserted : (P : K → X → Type 0) (m : FinMap R X) (k : K) (v : X) → EachRow P m → P k v → EachRow P (insert m k v)
  each_inserted P m k v each new q r found =
      elim (eq_by_cmp R q k) as (λ b. eq_by_cmp R q k ≡ b → cond b (Some v) (get m q) ≡ Some r → P q r) [
        | true ↦ λ t e. subst (λ j. P j r) (sym (o.same q k (tied _ t))) (subst (P k) (same_Some _ _ e) new)
        | false ↦ λ t e. each q r e
      ] refl (sym (get-insert o.total m k v q) ∙ found)

  -- what stands at the key of an insert, and at any other key
  pub get-inserted : (m : FinMap R X) (k : K) (v : X) → get (insert m k v) k ≡ Some v
  get-inserted m k v = get-insert o.total m k v k ∙ ap (λ r. cond (is_eq r) (Some v) (get m k)) (tied_itself o.total k)

  pub get-insert_other : (m : FinMap R X) (k : K) (v : X) (q : K) → eq_by_cmp R q k ≡ false → get (insert m k v) q ≡ get m q
  get-insert_other m k v q other = get-insert o.total m k v q ∙ ap (λ b. cond b (Some v) (get m q)) other

  -- an insert adds its key to those at which rows stand
  pub within_inserted : (IsKey : K → Type 0) (m : FinMap R X) (k : K) (v : X) → RowsWithin IsKey m → IsKey k → RowsWithin IsKey (insert m k v)
  within_inserted IsKey m k v within new q some =
      elim (eq_by_cmp R q k) as (λ b. eq_by_cmp R q k ≡ b → IsSome (cond b (Some v) (get m q)) → IsKey q) [
        | true ↦ λ t _. subst IsKey (sym (o.same q k (tied _ t))) new
        | false ↦ λ t is. within q is
      ] refl (subst IsSome (get-insert o.total m k v q) some)

  -- and takes none away
  pub still_there : (m : FinMap R X) (k : K) (v : X) (q : K) → IsSome (get m q) → IsSome (get (insert m k v) q)
  still_there m k v q some =
      subst IsSome (sym (get-insert o.total m k v q)) (elim (eq_by_cmp R q k) as (λ b. IsSome (cond b (Some v) (get m q))) [ true ↦ refl | false ↦ some ])
