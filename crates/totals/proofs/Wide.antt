-- Writes of wide records move no sum.
use Rattle.std.proofs.Common.{◌≡◌, ℕ, ◌<◌, ◌≤◌, ℤ, pos, ◌+ℤ◌, All, List, [], ◌∷◌, ◌++◌, Option, ap, ◌∙◌, subst, arith}
use Rattle.std.proofs.lemmas.Int.{ints}
use Rattle.std.proofs.lemmas.List.Elements.{All-head, All-tail}
use Rattle.tables.specs.Sizes.{Sizes}
use Rattle.tables.specs.Records.{key_of, narrow_count, record_count}
use Rattle.tables.specs.declared.keys.OrderKey.{OrderKey}
use Rattle.totals.specs.Totals.{SumsView}
use Rattle.totals.specs.Worth.{Worth}
use Rattle.totals.specs.Moves.{MovesSums, step, moved, no_history}
use Rattle.totals.proofs.Moving.{other_moves, none_moves, then_moves}
use Rattle.totals.proofs.Uncounted.{wide_other}

abbrev Writes : Type 0
Writes = List (ℕ × Option (List ℕ))

module _ (s : Sizes) (order : OrderKey → Option (List ℕ)) (held : ℕ → Option (List ℕ)) where
  wide_moves : (wide : Writes) (v : SumsView) → All (λ e. narrow_count s ≤ e.0) wide → All (λ e. e.0 < record_count s) wide
      → MovesSums s order (moved s held wide) no_history v v
  wide_moves [] v behind below = none_moves s order v
  wide_moves (w ∷ wide) v behind below =
      let other = wide_other s w.0 (All-head (λ (e : ℕ × Option (List ℕ)). narrow_count s ≤ e.0) w wide behind)
      (All-head (λ (e : ℕ × Option (List ℕ)). e.0 < record_count s) w wide below) in
      then_moves s order (step (key_of s w.0) (held w.0) w.1) (moved s held wide) no_history no_history v v v
      (other_moves s order v (key_of s w.0) (held w.0) w.1 other)
      (wide_moves wide v (All-tail (λ (e : ℕ × Option (List ℕ)). narrow_count s ≤ e.0) w wide behind)
      (All-tail (λ (e : ℕ × Option (List ℕ)). e.0 < record_count s) w wide below))

  moved-append : (xs ys : Writes) (f : Worth) → moved s held xs f +ℤ moved s held ys f ≡ moved s held (xs ++ ys) f
  moved-append [] ys f = none_before (moved s held ys f)
    where
      none_before : (a : ℤ) → pos 0 +ℤ a ≡ a
      none_before a = omega (arith, ints)
  moved-append (x ∷ xs) ys f =
      regrouped (step (key_of s x.0) (held x.0) x.1 f) (moved s held xs f) (moved s held ys f)
      ∙ ap (λ a. step (key_of s x.0) (held x.0) x.1 f +ℤ a) (moved-append xs ys f)
    where
      regrouped : (a b c : ℤ) → (a +ℤ b) +ℤ c ≡ a +ℤ (b +ℤ c)
      regrouped a b c = omega (arith, ints)

  pub with_wide : (narrow wide : Writes) (v next : SumsView) → All (λ e. narrow_count s ≤ e.0) wide → All (λ e. e.0 < record_count s) wide
      → MovesSums s order (moved s held narrow) no_history v next → MovesSums s order (moved s held (narrow ++ wide)) no_history v next
  with_wide narrow wide v next behind below moves =
      subst (λ (f : Worth → ℤ). MovesSums s order f no_history v next) (λ i f. moved-append narrow wide f i)
      (then_moves s order (moved s held narrow) (moved s held wide) no_history no_history v next next moves (wide_moves wide next behind below))
