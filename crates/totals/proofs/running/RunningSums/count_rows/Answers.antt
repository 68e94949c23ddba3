use Rattle.std.proofs.Common.{◌≡◌, ℤ, pos, ◌+ℤ◌, ◌+◌, ◌∷◌, [], List, Some, drop, refl, sym, ap, ◌∙◌, subst, arith}
use Rattle.std.proofs.lemmas.Int.{ints}
use Rattle.std.proofs.lemmas.List.{drop_more, drop_all}
use Rattle.std.specs.List.{fold}
use Rattle.tables.specs.Maps.{sum_of}
use Rattle.tables.specs.WellFormed.{IsHistoryRow}
use Rattle.tables.specs.declared.rows.History.{History}
use Rattle.totals.specs.Totals.{SumsView}
use Rattle.totals.specs.Moves.{MovesSums, no_record, row_moves}
use Rattle.totals.proofs.Moving.{history_moves, none_moves, then_moves}
use Rattle.totals.proofs.running.RunningSums.count_rows.Goals as goal

-- a sum that began with an amount
sum_from : (f : History → ℤ) (rows : List History) (a b : ℤ) → fold (λ z r. z +ℤ f r) (a +ℤ b) rows ≡ a +ℤ fold (λ z r. z +ℤ f r) b rows
sum_from f [] a b = refl
sum_from f (r ∷ rows) a b = ap (λ z. fold (λ z r. z +ℤ f r) z rows) (regrouped a b (f r)) ∙ sum_from f rows a (b +ℤ f r)
  where
    regrouped : (x y z : ℤ) → (x +ℤ y) +ℤ z ≡ x +ℤ (y +ℤ z)
    regrouped x y z = omega (arith, ints)

sum_first : (f : History → ℤ) (row : History) (rows : List History) → f row +ℤ sum_of f rows ≡ sum_of f (row ∷ rows)
sum_first f row rows = sym (ap (λ z. fold (λ z r. z +ℤ f r) z rows) (turned (f row)) ∙ sum_from f rows (f row) (pos 0))
  where
    turned : (x : ℤ) → pos 0 +ℤ x ≡ x +ℤ pos 0
    turned x = omega (arith, ints)

pub loop-row-preserved : goal.loop-row-preserved
loop-row-preserved c =
    let s = c.args.self.now.scale in
    let rows = c.args.rows.now in
    let i = c.loop-row.row-index in
    let row = c.row-item.result in
    let left = drop (i + 1) rows in
    let same = c.loop-row.invariant.scale in
    let first : drop i rows ≡ row ∷ left = drop_more rows i row c.loop-row-test.true ∙ ap (λ r. r ∷ left) (sym c.row-item.is) in
    let of_scale : IsHistoryRow c.loop-row.self.scale row =
    subst (λ z. IsHistoryRow z row) (sym same) (subst (λ r. IsHistoryRow s r) (sym c.row-item.is) (c.requires i row c.loop-row-test.true)) in
    record {
      scale = ap (λ (w : SumsView). w.scale) c.follow_row.ensures.paid ∙ same;
      rest = λ order v moves.
          let this : MovesSums s order no_record (row_moves (Some row)) c.loop-row.self c.follow_row.new.self =
          subst (λ z. MovesSums z order no_record (row_moves (Some row)) c.loop-row.self c.follow_row.new.self) same
          (subst (λ a. MovesSums c.loop-row.self.scale order no_record (row_moves (Some row)) c.loop-row.self a) (sym c.follow_row.ensures.paid)
          (history_moves c.loop-row.self order c.follow_row.ensures.places row of_scale)) in
          c.loop-row.invariant.rest order v
          (subst (λ rs. MovesSums s order no_record (λ f. sum_of f rs) c.loop-row.self v) (sym first)
          (subst (λ h. MovesSums s order no_record h c.loop-row.self v) (λ j f. sum_first f row left j)
          (then_moves s order no_record no_record (row_moves (Some row)) (λ f. sum_of f left) c.loop-row.self c.follow_row.new.self v this moves)));
    }

pub returns-clause-moves : goal.returns-clause-moves
returns-clause-moves c = λ order.
    let s = c.args.self.now.scale in
    let none : drop c.loop-row.row-index c.args.rows.now ≡ [] = drop_all c.loop-row.row-index c.args.rows.now c.loop-row-test.false in
    c.loop-row.invariant.rest order c.loop-row.self
    (subst (λ rs. MovesSums s order no_record (λ f. sum_of f rs) c.loop-row.self c.loop-row.self) (sym none) (none_moves s order c.loop-row.self))
