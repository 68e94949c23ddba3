-- What is known of a table of whose rows something holds.
use Rattle.std.proofs.Common.{◌≡◌, ℤ, pos, Option, Some, None, IsSome, refl, sym, ap, ◌∙◌, subst}
use Rattle.std.specs.Option.{option_map_or}
use Rattle.std.specs.FinMap.{FinMap, get}
use Rattle.std.specs.declared.cmp.Ordering.{Ordering}
use Rattle.tables.specs.Maps.{column, RowsAt, RowsWithin, EachRow}
use Rattle.population_tables.specs.Plain.{IsTable}
use Rattle.population_tables.specs.First.{HasRowsAt}

module _ {K X : Type 0} {R : K → K → Ordering} {IsKey : K → Type 0} {P : K → X → Type 0} {m : FinMap R X} (table : HasRowsAt IsKey P m) where
  pub found : (k : K) → IsKey k → IsSome (get m k)
  found k is_key = subst IsSome (sym (table.rows k is_key).1) refl

  pub at : RowsAt IsKey m
  at k = (table.only k, found k)

  pub within : (IsWider : K → Type 0) → ((k : K) → IsKey k → IsWider k) → RowsWithin IsWider m
  within IsWider wider k some = wider k (table.only k some)

  -- what follows from P holds of each row
  pub each : (Q : K → X → Type 0) → ((k : K) (r : X) → IsKey k → P k r → Q k r) → EachRow Q m
  each Q holds k r is_row =
      let is_key : IsKey k = table.only k (subst IsSome (sym is_row) refl) in
      let row = table.rows k is_key in
      let some_same : Some row.0 ≡ Some r = sym row.1 ∙ is_row in
      let same : row.0 ≡ r = cc some_same in
      subst (Q k) same (holds k row.0 is_key row.2)

  -- a column that P says
  pub column_of : (f : X → ℤ) (k : K) (x : ℤ) → IsKey k → ((r : X) → P k r → f r ≡ x) → column f m k ≡ x
  column_of f k x is_key says = ap (λ (o : Option X). option_map_or f o (pos 0)) (table.rows k is_key).1 ∙ says _ (table.rows k is_key).2

  pub missing : (k : K) → (IsKey k → ⊥) → get m k ≡ None
  missing k is_none = go (get m k) (table.only k)
    where
      go : (o : Option X) → (IsSome o → IsKey k) → o ≡ None
      go None only = refl
      go (Some r) only = absurd (is_none (only refl))

  pub weaker : (Q : K → X → Type 0) → ((k : K) (r : X) → IsKey k → P k r → Q k r) → HasRowsAt IsKey Q m
  weaker Q holds = record {
    rows = λ k is_key. let row = table.rows k is_key in (row.0, row.1, holds k row.0 is_key row.2);
    only = table.only;
  }

-- where P says the row, the table is known
pub is_table : {K X : Type 0} {R : K → K → Ordering} {IsKey : K → Type 0} {row : K → X} {m : FinMap R X} → HasRowsAt IsKey (λ k r. r ≡ row k) m
    → IsTable IsKey row m
is_table table = record { rows = λ k is_key. (table.rows k is_key).1 ∙ ap Some (table.rows k is_key).2; only = table.only }
