use Rattle.std.proofs.Common.{◌≡◌, List, ℕ, Option, Some, None, sym, ap, ◌∙◌}
use Rattle.std.specs.Prelude.{IfSome, IfNone}
use Rattle.cells.specs.Records.{IsNarrow, IsWide}
use Rattle.readset.specs.Arrived.{arrived}
use Rattle.readset.specs.Listed.{texts_of}
use Rattle.readset.specs.Writes.{WriteSetView, value_for}
use Rattle.readset.proofs.Sets.{low_found, high_of}
use Rattle.readset.proofs.TwoKinds.{find}
use Rattle.readset.proofs.writes.WriteSet.value.Goals as goal

pub returns-clause-some : goal.returns-clause-some
returns-clause-some c = told c.copied.result (c.copied.ensures ∙ c.value_at.ensures)
  where
    told : (r : Option (Option (List ℕ))) → r ≡ find c.args.number (arrived c.self.inside.values) → IfSome r (λ value. value_for c.args.self.now c.args.number ≡ Some value)
    told None e = tt
    told (Some value) e = low_found (λ (words : List ℕ). Some words) IsNarrow IsWide (arrived c.self.inside.values) (texts_of c.self.inside.beside) c.args.self.now.values
        (ap (λ (w : WriteSetView). w.values) c.self.view_is) c.args.number value (sym e)

pub returns-clause-none : goal.returns-clause-none
returns-clause-none c = told c.copied.result (c.copied.ensures ∙ c.value_at.ensures)
  where
    told : (r : Option (Option (List ℕ))) → r ≡ find c.args.number (arrived c.self.inside.values)
        → IfNone r ((value : Option (List ℕ)) → value_for c.args.self.now c.args.number ≡ Some value → IsWide value)
    told None e = high_of (λ (words : List ℕ). Some words) IsNarrow IsWide (arrived c.self.inside.values) (texts_of c.self.inside.beside) c.args.self.now.values
        (ap (λ (w : WriteSetView). w.values) c.self.view_is) c.args.number c.self.invariant (sym e)
    told (Some value) e = tt
