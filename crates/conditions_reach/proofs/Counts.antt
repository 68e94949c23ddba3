-- A condition of each row, where what it looks into is told otherwise.
use Rattle.std.proofs.Common.{◌≡◌, ◌↔◌, ℕ, ◌≤◌, true, Option, Some, None, refl, subst}
use Rattle.std.proofs.lemmas.Bool.{leb-true, le-leb}
use Rattle.std.specs.FinMap.{FinMap}
use Rattle.std.specs.declared.cmp.Ordering.{Ordering}
use Rattle.tables.specs.Maps.{EachRow}
use Rattle.tables.specs.declared.rows.Order.{Order}
use Rattle.conditions_reach.specs.Counted.{is_counted}

pub each_along : {K X A : Type 0} {R : K → K → Ordering} {P : Type 0} (m : FinMap R X) (T : A → K → X → Type 0) (a b : A) → a ≡ b
    → P ↔ EachRow (T a) m → P ↔ EachRow (T b) m
each_along {A = A} {P = P} m T a b same = subst (λ (s : A). P ↔ EachRow (T s) m) same

-- the test of a line's number tells of its order
pub counted : (n : ℕ) (row : Option Order) → (is_counted n row ≡ true) ↔ ((order : Order) × (row ≡ Some order) × (n ≤ order.line_count))
counted n None = (λ t. cc, λ h. cc)
counted n (Some order) = (
  λ t. (order, refl, leb-true n order.line_count t),
  λ h. le-leb n order.line_count (subst (λ (o : Order). n ≤ o.line_count) (same order h.0 h.1) h.2),
)
  where
    same : (a b : Order) → Some a ≡ Some b → b ≡ a
    same a b e = cc
