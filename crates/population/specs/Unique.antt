-- That there is at most one proof of what a ghost field says.
use Rattle.std.specs.Prelude.{◌≡◌, ℕ, ◌≤◌, Option, Some}
use Rattle.std.proofs.Common.{sym, ◌∙◌}
use Rattle.std.proofs.Props.{props}
use mathlib.Core.HLevel.{Σ_prop_path}
use Rattle.tables.specs.declared.rows.Order.{Order}

-- the order of a line is the one that stands at its key
pub line_order-prop : (found : Option Order) (line : ℕ)
    → IsProp ((order : Order) × (found ≡ Some order) × (line ≤ order.line_count))
line_order-prop found line x y =
    let once : (order : Order) → IsProp ((found ≡ Some order) × (line ≤ order.line_count)) = λ order. hlevel props in
    let same : Some x.0 ≡ Some y.0 = sym x.1 ∙ y.1 in
    let order_same : x.0 ≡ y.0 = cc same in
    let Nested : Type 0 = (order : Order) × ((found ≡ Some order) × (line ≤ order.line_count)) in
    let whole : ◌≡◌ {A = Nested} (x.0, (x.1, x.2)) (y.0, (y.1, y.2)) = Σ_prop_path once order_same in
    λ i. ((whole i).0, (whole i).1.0, (whole i).1.1)
