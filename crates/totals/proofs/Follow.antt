-- The sums after a commit.
use Rattle.std.proofs.Common.{◌≡◌, ℕ, ◌<◌, ℤ, pos, ◌+ℤ◌, List, [], ◌∷◌, ◌++◌, Option, Some, None, All, append-nil, refl, sym, ap, ◌∙◌}
use Rattle.std.proofs.Common.{subst, arith}
use Rattle.std.proofs.lemmas.Int.{ints, int_wrap_fits}
use Rattle.std.proofs.lemmas.List.Sums.{fold-append}
use Rattle.std.proofs.lemmas.List.Elements.{All-head, All-tail}
use Rattle.std.specs.Int.{Width, int_wrap}
use Rattle.std.specs.Int.RustNames.{FitsSigned}
use Rattle.tables.specs.Sizes.{Sizes, IsScale}
use Rattle.tables.specs.Inputs.{IsInput}
use Rattle.tables.specs.Apply.{after}
use Rattle.tables.specs.Keys.{IsOrderKey}
use Rattle.tables.specs.Maps.{sum_of}
use Rattle.tables.specs.Records.{key_of, number_of_key, record_count}
use Rattle.tables.specs.Rows.{rows, row_at}
use Rattle.tables.specs.Conditions.{IsConsistent, Condition7At}
use Rattle.tables.specs.WellFormed.{IsWellFormed}
use Rattle.tables.specs.Database.{Database}
use Rattle.tables.specs.declared.keys.OrderKey.{OrderKey}
use Rattle.tables.specs.declared.keys.LineKey.{LineKey}
use Rattle.tables.specs.declared.rows.History.{History}
use Rattle.tables.specs.declared.input.Input.{Input}
use Rattle.tables.specs.declared.reply.Reply.{Reply}
use Rattle.tables.specs.declared.records.RecordKey.TheVariants as key
use Rattle.tables.proofs.Numbers.{named, narrow_among, narrow_named}
use Rattle.tables_laws.proofs.Kept.{after-IsConsistent, after-scale}
use Rattle.readset.specs.Writes.{WriteSetView, added}
use Rattle.readset.specs.Commit.{IsCommitOf}
use Rattle.totals.specs.Totals.{SumsView, AreSums}
use Rattle.totals.specs.Worth.{Worth, one_in}
use Rattle.totals.specs.Moves.{step, moved, row_moves, IsMoved, MovesSums, SumsFollow, order_before}
use Rattle.totals.specs.Small.{SumsFit}
use Rattle.totals.specs.Written.{AreWrites, AreWritten, OrdersKeepCustomers, NewOrdersWait}
use Rattle.totals.proofs.Sums.{year_to_date_after, line_counts_after, district_lines_after, order_lines_after, waiting_after}
use Rattle.totals.proofs.Bought.{delivered_after}
use Rattle.totals.proofs.Counted.{counted}
use Rattle.totals.proofs.OrdersKept.{orders_keep_customers, new_orders_wait}
use Rattle.totals.proofs.Fits.{sums_fit}

-- an amount that is exact before is exact after
pub exact : (w : Width) (a b z x y : ℤ) → a ≡ x → IsMoved w a b z → y ≡ x +ℤ z → FitsSigned w x → FitsSigned w y → b ≡ y
exact w a b z x y is moves after fits_before fits_after =
    moves (subst (FitsSigned w) (sym is) fits_before) ∙ ap (int_wrap w) (ap (λ c. c +ℤ z) is ∙ sym after) ∙ int_wrap_fits w y fits_after

-- what is moved goes by what the written records hold before
moved-alike : (s : Sizes) (held before : ℕ → Option (List ℕ)) (ws : List (ℕ × Option (List ℕ))) (f : Worth) → All (λ e. held e.0 ≡ before e.0) ws
    → moved s held ws f ≡ moved s before ws f
moved-alike s held before [] f same = refl
moved-alike s held before (w ∷ ws) f same =
    let here = All-head (λ e. held e.0 ≡ before e.0) w ws same in
    let rest = moved-alike s held before ws f (All-tail (λ e. held e.0 ≡ before e.0) w ws same) in
    λ i. step (key_of s w.0) (here i) w.1 f +ℤ rest i

-- HISTORY with a row more
sum-added : (f : History → ℤ) (rows : List History) (row : Option History) → sum_of f (rows ++ added row) ≡ sum_of f rows +ℤ row_moves row f
sum-added f rows None = ap (sum_of f) (append-nil rows) ∙ nothing (sum_of f rows)
  where
    nothing : (a : ℤ) → a ≡ a +ℤ pos 0
    nothing a = omega (arith, ints)
sum-added f rows (Some r) = fold-append (λ a h. a +ℤ f h) (pos 0) rows (r ∷ [])

module _ (t u : Database) (writes : List (ℕ × Option (List ℕ))) (row : Option History) (h : AreWritten t u writes) (history : u.history ≡ t.history ++ added row)
    (wf_t : IsWellFormed t) (wf_u : IsWellFormed u) (kept : OrdersKeepCustomers t u) (fit_t : SumsFit t.scale t) (fit_u : SumsFit t.scale u)
    (wait : NewOrdersWait t u) (condition_7 : (j : LineKey) → Condition7At u j) (order : OrderKey → Option (List ℕ))
    (ordered : (j : OrderKey) → IsOrderKey t.scale j → order j ≡ row_at t (key.Order j)) (v v' : SumsView) where
  paid_after : (f : History → ℤ) → sum_of f u.history ≡ sum_of f t.history +ℤ row_moves row f
  paid_after f = ap (sum_of f) history ∙ sum-added f t.history row

  pub sums_after : AreSums t.scale t v → MovesSums t.scale order (moved t.scale (rows t) writes) (row_moves row) v v' → AreSums t.scale u v'
  sums_after was moves = record {
    year_to_date = λ w is.
        exact _ _ _ _ _ _ (was.year_to_date w is) (moves.year_to_date w is) (year_to_date_after t u writes h wf_t wf_u w)
        (fit_t.year_to_date w is) (fit_u.year_to_date w is);
    paid_at_warehouse = λ w is.
        exact _ _ _ _ _ _ (was.paid_at_warehouse w is) (moves.paid_at_warehouse w is) (paid_after _) (fit_t.paid_at_warehouse w is)
        (fit_u.paid_at_warehouse w is);
    paid_at_district = λ k is.
        exact _ _ _ _ _ _ (was.paid_at_district k is) (moves.paid_at_district k is) (paid_after _) (fit_t.paid_at_district k is) (fit_u.paid_at_district k is);
    paid_by_customer = λ k is.
        exact _ _ _ _ _ _ (was.paid_by_customer k is) (moves.paid_by_customer k is) (paid_after _) (fit_t.paid_by_customer k is) (fit_u.paid_by_customer k is);
    delivered = λ k is.
        exact _ _ _ _ _ _ (was.delivered k is) (moves.delivered k is) (delivered_after t u writes h wf_t wf_u kept wait condition_7 order ordered k) (fit_t.delivered k is)
        (fit_u.delivered k is);
    line_counts = λ k is.
        exact _ _ _ _ _ _ (was.line_counts k is) (moves.line_counts k is) (line_counts_after t u writes h wf_t wf_u k) (fit_t.line_counts k is)
        (fit_u.line_counts k is);
    district_lines = λ k is.
        exact _ _ _ _ _ _ (was.district_lines k is) (moves.district_lines k is) (district_lines_after t u writes h wf_t wf_u k) (fit_t.district_lines k is)
        (fit_u.district_lines k is);
    order_lines = λ k is.
        exact _ _ _ _ _ _ (was.order_lines k is) (moves.order_lines k is) (order_lines_after t u writes h wf_t wf_u k) (fit_t.order_lines k is)
        (fit_u.order_lines k is);
    waiting = λ k is.
        exact _ _ _ _ _ _ (was.waiting k is) (moves.waiting k is)
        (counted k u.new_orders ∙ waiting_after t u writes h wf_t wf_u k ∙ ap (λ a. a +ℤ moved t.scale (rows t) writes (one_in k)) (sym (counted k t.new_orders)))
        (fit_t.waiting k is) (fit_u.waiting k is);
  }

module _ (t : Database) (x : Input) (writes : WriteSetView) (reply : Reply) (held : ℕ → Option (List ℕ)) (scale : IsScale t.scale) (ok : IsInput t.scale x)
    (wf : IsWellFormed t) (con : IsConsistent t) (wf_after : IsWellFormed (after t x)) (commit : IsCommitOf t x writes reply) (are : AreWrites t.scale writes)
    (latest : (n : ℕ) → n < record_count t.scale → held n ≡ rows t n) where
  written : AreWritten t (after t x) writes.values
  written = record { scale = after-scale t x; ascend = are.ascend; found = are.found; below = are.below; rows = commit.rows }

  ordered : (j : OrderKey) → IsOrderKey t.scale j → order_before t.scale held j ≡ row_at t (key.Order j)
  ordered j is =
      latest (number_of_key t.scale (key.Order j)) (narrow_among t.scale _ (narrow_named t.scale (key.Order j) is)) ∙ ap (row_at t) (named t.scale (key.Order j) is).1

  pub sums_follow_commit : (v v' : SumsView) → AreSums t.scale t v → SumsFollow t.scale held writes v v' → AreSums (after t x).scale (after t x) v'
  sums_follow_commit v v' was follow =
      let same : moved t.scale held writes.values ≡ moved t.scale (rows t) writes.values =
      λ i f. moved-alike t.scale held (rows t) writes.values f (λ j d inside. latest _ (are.below j d inside)) i in
      let con_after = after-IsConsistent t x ok wf con in
      let fit_after : SumsFit t.scale (after t x) =
      subst (λ s. SumsFit s (after t x)) (after-scale t x)
      (sums_fit (after t x) (subst IsScale (sym (after-scale t x)) scale) wf_after con_after) in
      subst (λ s. AreSums s (after t x) v') (sym (after-scale t x))
      (sums_after t (after t x) writes.values writes.history_row written commit.history wf wf_after (orders_keep_customers t x ok wf con)
      (sums_fit t scale wf con) fit_after (new_orders_wait t x) con_after.condition_7 (order_before t.scale held) ordered v v' was
      (subst (λ z. MovesSums t.scale (order_before t.scale held) z (row_moves writes.history_row) v v') same follow))
