-- From the contracts of `BTreeMap` to finite maps.
use Rattle.std.proofs.Common.{◌≡◌, cond, List, [], ◌∷◌, Some, refl, sym, ap, ◌∙◌}
use Rattle.std.specs.Map.{lookup}
use Rattle.std.specs.BTreeMap as tree
use Rattle.std.specs.BTreeMap.{BTreeMap, is_at}
use Rattle.std.specs.Cmp.{eq_by_cmp_equiv}
use Rattle.std.specs.FinMap.{find, get, get-from_entries, get-insert, insert, from_entries, same_map}
use Rattle.std.specs.declared.cmp.Ordering.{Ordering}
use Rattle.tables.proofs.Orders.{IsExact}

find-lookup : {K X : Type 0} (R : K → K → Ordering) (es : List (K × X)) (q : K) → find R q es ≡ lookup (is_at (R q)) es
find-lookup R [] q = refl
find-lookup R (e ∷ es) q = ap (cond (is_at (R q) e.0) (Some e.1)) (find-lookup R es q)

module _ {K X : Type 0} {R : K → K → Ordering} (o : IsExact R) where
  -- a look-up
  pub get-view : (m : BTreeMap K X) (q : K) → get (from_entries {R = R} m.entries) q ≡ tree.get R m q
  get-view m q = get-from_entries o.total m.entries q ∙ find-lookup R m.entries q

  -- what `insert` leaves
  pub insert-view : (m n : BTreeMap K X) (k : K) (v : X) → tree.Updates R m n k (Some v) → from_entries {R = R} n.entries ≡ insert (from_entries m.entries) k v
  insert-view m n k v h = same_map o.total o.same _ _ (λ q.
      get-view n q ∙ h.0 q ∙ ap (λ b. cond b (Some v) (tree.get R m q)) ((eq_by_cmp_equiv o.total).symm k q)
      ∙ sym (get-insert o.total (from_entries m.entries) k v q ∙ ap (cond (is_at (R q) k) (Some v)) (get-view m q)))
