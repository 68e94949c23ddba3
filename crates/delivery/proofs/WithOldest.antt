-- The rows of a database with those of OLDEST as another has them.
use Rattle.std.proofs.Common.{◌≡◌, refl}
use Rattle.tables.specs.Database.{Database}
use Rattle.tables.specs.Rows.{row_at}
use Rattle.tables.specs.declared.records.RecordKey.{RecordKey}
use Rattle.tables.specs.declared.records.RecordKey.TheVariants as key
use Rattle.delivery.specs.Steps.{with_oldest}

-- where the other is the same
pub of_one : (t : Database) (j : RecordKey) → with_oldest t t j ≡ row_at t j
of_one t (key.Warehouse w) = refl
of_one t (key.District k) = refl
of_one t (key.Customer k) = refl
of_one t (key.NewOrder k) = refl
of_one t (key.Order k) = refl
of_one t (key.OrderLine k) = refl
of_one t (key.Stock k) = refl
of_one t (key.Oldest k) = refl
of_one t (key.Last k) = refl
of_one t (key.CustomerData k) = refl

module _ (other some more : Database) where
  -- where a row is the same in both, and OLDEST is the other's
  pub of_other : (j : RecordKey) → row_at some j ≡ row_at more j → with_oldest other some j ≡ with_oldest other more j
  of_other (key.Warehouse w) same = same
  of_other (key.District k) same = same
  of_other (key.Customer k) same = same
  of_other (key.NewOrder k) same = same
  of_other (key.Order k) same = same
  of_other (key.OrderLine k) same = same
  of_other (key.Stock k) same = same
  of_other (key.Oldest k) same = refl
  of_other (key.Last k) same = same
  of_other (key.CustomerData k) same = same

  -- and where OLDEST is the same
  pub of_same : (j : RecordKey) → row_at some j ≡ row_at more j → with_oldest some other j ≡ with_oldest more other j
  of_same (key.Warehouse w) same = refl
  of_same (key.District k) same = refl
  of_same (key.Customer k) same = refl
  of_same (key.NewOrder k) same = refl
  of_same (key.Order k) same = refl
  of_same (key.OrderLine k) same = refl
  of_same (key.Stock k) same = refl
  of_same (key.Oldest k) same = same
  of_same (key.Last k) same = refl
  of_same (key.CustomerData k) same = refl
