-- DELETE .. WHERE: the rows whose keys stay.
use Rattle.std.proofs.Common.{◌≡◌, Bool, cond, Option, None, sym, ap, ◌∙◌}
use Rattle.std.specs.FinMap.{FinMap, entries, entries_sorted, entries-from_sorted, from_sorted, get, get-entries, get-from_sorted, get-retain_keys, retain_keys}
use Rattle.std.specs.FinMap.{same_map}
use Rattle.std.specs.FinMap.Entries.{where_key, find-where_key, is_sorted-where_key}
use Rattle.std.specs.declared.cmp.Ordering.{Ordering}
use Rattle.tables.proofs.Orders.{IsExact}

module _ {K X : Type 0} {R : K → K → Ordering} (o : IsExact R) where
  -- what stands at a key
  pub get-retained : (m : FinMap R X) (p : K → Bool) (q : K) → get (retain_keys m p) q ≡ cond (p q) (get m q) None
  get-retained m p q = get-retain_keys m p q (λ j tie. ap p (sym (o.same q j tie)))

  pub entries-retained : (m : FinMap R X) (p : K → Bool) → entries (retain_keys m p) ≡ where_key R p (entries m)
  entries-retained m p =
      let kept = is_sorted-where_key R p (entries m) (entries_sorted m) in
      ap entries (same_map o.total o.same (retain_keys m p) (from_sorted (where_key R p (entries m))) (λ q.
      get-retained m p q
      ∙ ap (λ (w : Option X). cond (p q) w None) (get-entries m q)
      ∙ sym (find-where_key R p q (λ j tie. ap p (sym (o.same q j tie))) (entries m))
      ∙ sym (get-from_sorted R (where_key R p (entries m)) q kept)))
      ∙ entries-from_sorted R (where_key R p (entries m)) kept
