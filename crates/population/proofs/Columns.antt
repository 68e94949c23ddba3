-- A column of the row that a look-up in a table finds.
use Rattle.std.proofs.Common.{◌≡◌, Option, Some, None, sym, ap, ◌∙◌}
use Rattle.std.specs.Option.{option_map_or}
use Rattle.std.specs.BTreeMap as tree
use Rattle.std.specs.BTreeMap.{BTreeMap}
use Rattle.std.specs.FinMap.{FinMap, get, from_entries}
use Rattle.std.specs.declared.cmp.Ordering.{Ordering}
use Rattle.tables.proofs.Orders.{IsExact}
use Rattle.tables.proofs.LookUps.{found}
use Rattle.tables.proofs.Views.{get-view}

module _ {K X V : Type 0} {R : K → K → Ordering} (o : IsExact R) (f : X → V) (missing : V) (m : BTreeMap K X) (n : FinMap R X) (is : from_entries {R = R} m.entries ≡ n)
    (k : K) where
  pub column_some : (r : X) → Some r ≡ tree.get R m k → f r ≡ option_map_or f (get n k) missing
  column_some r e = sym (ap (λ (w : Option X). option_map_or f w missing) (ap (λ (q : FinMap R X). get q k) (sym is) ∙ found o m k r e))

  -- where there is none, the column counts as this
  pub column_none : (z : V) → z ≡ missing → None ≡ tree.get R m k → z ≡ option_map_or f (get n k) missing
  column_none z same e = same ∙ sym (ap (λ (w : Option X). option_map_or f w missing) (ap (λ (q : FinMap R X). get q k) (sym is) ∙ get-view o m k ∙ sym e))
