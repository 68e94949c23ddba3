-- Entries by record number, in the order of the numbers.
use Rattle.std.proofs.Common.{◌≡◌, ℕ, List, [], Some, All, slice_index_or}
use Rattle.std.specs.Ordering.{nat_cmp}
use Rattle.std.specs.Map.{keys_of, lookup}
use Rattle.std.specs.BTreeMap.{is_at}
use Rattle.std.specs.List.Sorted.{IsStrictlySortedBy}
use Rattle.std.proofs.lemmas.Cmp.{eq_by_cmp_equiv, nat_cmp_total}
use Rattle.std.proofs.lemmas.Option.{slice_get-get_or}
use Rattle.std.proofs.lemmas.Map.Keys.{IsDistinct-from_sorted}
use Rattle.std.proofs.lemmas.Map.Entries.{lookup_from_place}

-- none at first
pub none_ordered : (X : Type 0) → IsStrictlySortedBy nat_cmp (keys_of {X = X} [])
unfolding IsStrictlySortedBy
none_ordered X = tt

-- a look-up finds each of them
pub each_found : {X : Type 0} (es : List (ℕ × X)) → IsStrictlySortedBy nat_cmp (keys_of es) → All (λ e. lookup (is_at (nat_cmp e.0)) es ≡ Some e.1) es
each_found es sorted k d inside =
    let e = slice_index_or es k d in
    lookup_from_place (eq_by_cmp_equiv nat_cmp_total) es k e.0 e.1 (IsDistinct-from_sorted nat_cmp (keys_of es) sorted) (slice_get-get_or es k d inside)
