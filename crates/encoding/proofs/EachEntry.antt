-- The entries of a `BTreeMap` are the rows of its finite map.
use Rattle.std.proofs.Common.{◌≡◌, true, false, cond, List, [], ◌∷◌, Some, None, refl, sym, ap, ◌∙◌}
use Rattle.std.specs.List.{AllByRecursion}
use Rattle.std.specs.List.Sorted.{IsStrictlySortedBy}
use Rattle.std.specs.Map.{keys_of}
use Rattle.std.specs.Ordering.{eq_by_cmp, is_eq}
use Rattle.std.specs.Cmp.{IsTotalOrder, tied_itself}
use Rattle.std.specs.BTreeMap as tree
use Rattle.std.specs.BTreeMap.{BTreeMap}
use Rattle.std.specs.FinMap.{find, from_entries, get-from_entries}
use Rattle.std.specs.FinMap.Entries.{find_tied}
use Rattle.std.specs.declared.cmp.Ordering.{Ordering}
use Rattle.std.specs.declared.cmp.Ordering.TheVariants.{Less}
use Rattle.tables.specs.Maps.{EachRow}
use Rattle.tables.proofs.Entries.{tied}

module _ {K X : Type 0} {R : K → K → Ordering} (o : IsTotalOrder R) where
  -- a key below all others isn't among them
  above : (k : K) (es : List (K × X)) → AllByRecursion (λ y. R k y ≡ Less) (keys_of es) → find R k es ≡ None
  above k [] h = refl
  above k (e ∷ es) h = ap (λ r. cond (is_eq r) (Some e.1) (find R k es)) h.0 ∙ above k es h.1

  -- a key occurs once
  pub no_other : (k : K) (e : K × X) (es : List (K × X)) → IsStrictlySortedBy R (keys_of (e ∷ es)) → eq_by_cmp R k e.0 ≡ true → find R k es ≡ None
  unfolding IsStrictlySortedBy
  no_other k e es h t = sym (find_tied R o k e.0 (tied _ t) es) ∙ above e.0 es h.0

  found_later : (k : K) (r : X) (e : K × X) (es : List (K × X)) → IsStrictlySortedBy R (keys_of (e ∷ es)) → find R k es ≡ Some r → find R k (e ∷ es) ≡ Some r
  found_later k r e es h found =
      elim (eq_by_cmp R k e.0) as (λ b. eq_by_cmp R k e.0 ≡ b → cond b (Some e.1) (find R k es) ≡ Some r) [
        | true ↦ λ t. let none : find R k es ≡ None = no_other k e es h t in cc
        | false ↦ λ t. found
      ] refl

  module _ (P : K → X → Type 0) where
    each : (es : List (K × X)) → IsStrictlySortedBy R (keys_of es) → ((k : K) (r : X) → find R k es ≡ Some r → P k r) → AllByRecursion (λ e. P e.0 e.1) es
    unfolding IsStrictlySortedBy
    each [] h holds = tt
    each (e ∷ es) h holds = (
      holds e.0 e.1 (ap (λ r. cond (is_eq r) (Some e.1) (find R e.0 es)) (tied_itself o e.0)),
      each es h.1
          (λ k r found. holds k r (found_later k r e es h found)),
    )

    pub each_entry : (m : BTreeMap K X) → tree.IsOrdered R m → EachRow P (from_entries {R = R} m.entries) → AllByRecursion (λ e. P e.0 e.1) m.entries
    each_entry m ordered holds = each m.entries ordered (λ k r found. holds k r (get-from_entries o m.entries k ∙ found))
