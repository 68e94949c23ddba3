-- The row and the columns that a look-up finds.
use Rattle.std.proofs.Common.{◌≡◌, ℤ, pos, Option, Some, None, sym, ap, ◌∙◌}
use Rattle.std.specs.Option.{option_map_or}
use Rattle.std.specs.BTreeMap as tree
use Rattle.std.specs.BTreeMap.{BTreeMap}
use Rattle.std.specs.FinMap.{get, from_entries}
use Rattle.std.specs.declared.cmp.Ordering.{Ordering}
use Rattle.tables.specs.Maps.{column}
use Rattle.tables.proofs.Orders.{IsExact}
use Rattle.tables.proofs.Views.{get-view}

module _ {K X : Type 0} {R : K → K → Ordering} (o : IsExact R) where
  -- the row that was found is the row of the table
  pub found : (m : BTreeMap K X) (k : K) (r : X) → Some r ≡ tree.get R m k → get (from_entries {R = R} m.entries) k ≡ Some r
  found m k r e = get-view o m k ∙ sym e

  -- a column of the row that was found, or of a missing one
  pub column-found : (f : X → ℤ) (m : BTreeMap K X) (k : K) (r : X) → Some r ≡ tree.get R m k → f r ≡ column f (from_entries {R = R} m.entries) k
  column-found f m k r e = ap (λ (w : Option X). option_map_or f w (pos 0)) (sym (found m k r e))

  pub column-missing : (f : X → ℤ) (m : BTreeMap K X) (k : K) → None ≡ tree.get R m k → pos 0 ≡ column f (from_entries {R = R} m.entries) k
  column-missing f m k e = ap (λ (w : Option X). option_map_or f w (pos 0)) (sym (get-view o m k ∙ sym e))
