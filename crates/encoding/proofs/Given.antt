-- What is given to put a record's words into a table: the row of these words, and the population's row at the key.
use Rattle.std.proofs.Common.{◌≡◌, ℕ, List, Option, Some, None, refl, sym, ap, ◌∙◌, subst, true≢false, IsSome, Bor}
use Rattle.std.specs.Option.{ForSome, option_map, option_copied}
use Rattle.std.specs.FinMap.{get, from_entries}
use Rattle.std.specs.BTreeMap as tree
use Rattle.std.specs.BTreeMap.{BTreeMap}
use Rattle.std.specs.declared.cmp.Ordering.{Ordering}
use Rattle.std.proofs.lemmas.Option.{none-some}
use Rattle.tables.proofs.Orders.{IsExact}
use Rattle.tables.proofs.Views.{get-view}
use Rattle.encoding.specs.Puts.{IsRow, MayBeRow}

-- where a value is there, what may be a row is one
pub is_row : {X : Type 0} (words : X → List ℕ) (IsIn : X → Type 0) (ws : List ℕ) → MayBeRow words IsIn (Some ws) → IsRow words IsIn (Some ws)
is_row {X} words IsIn ws h = at h.0 h.1 h.2
  where
    at : (row : Option X) → Some ws ≡ option_map words row → ForSome row IsIn → IsRow words IsIn (Some ws)
    at None e is = absurd (none-some ws (sym e))
    at (Some r) e is = (r, e, is r refl)

-- the population's row at a key of the scale
module _ {K X : Type 0} {R : K → K → Ordering} (o : IsExact R) (m : BTreeMap K X) (k : K) where
  pub is_there : (row : Option (Bor X)) → option_copied row ≡ tree.get R m k → IsSome (get (from_entries {R = R} m.entries) k) → IsSome row
  is_there None e some = absurd (true≢false (sym (subst IsSome (get-view o m k ∙ sym e) some)))
  is_there (Some b) e some = refl

  pub row_there : (row : Option (Bor X)) (b : Bor X) → option_copied row ≡ tree.get R m k → row ≡ Some b → get (from_entries {R = R} m.entries) k ≡ Some b.now
  row_there row b e is = get-view o m k ∙ (sym e ∙ ap option_copied is)
