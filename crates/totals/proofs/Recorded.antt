-- What the records of well-formed tables give the totals.
use Rattle.std.proofs.Common.{◌≡◌, ℕ, ◌++◌, ◌∷◌, [], Option, Some, None, is_some, List, All, true≢false, slice_index, refl, sym, ap, ◌∙◌, subst}
use Rattle.std.proofs.lemmas.Option.{same_Some}
use Rattle.std.proofs.lemmas.List.Elements.{All-head, All-tail}
use Rattle.std.specs.Option.{option_map, ForSome}
use Rattle.std.specs.FinMap.{get}
use Rattle.tables.specs.Sizes.{IsNumber}
use Rattle.tables.specs.Records.{number_of_key}
use Rattle.tables.specs.Rows.{row_at, order_words}
use Rattle.tables.specs.WellFormed.{orderer}
use Rattle.tables.specs.Database.{Database}
use Rattle.tables.specs.declared.rows.History.{History}
use Rattle.tables.specs.declared.rows.Order.{Order}
use Rattle.tables.specs.declared.records.RecordKey.TheVariants as key
use Rattle.tables.proofs.Numbers.{named, narrow_named, narrow_among}
use Rattle.readset.specs.Writes.{added}
use Rattle.cells.specs.Records.{PenView, held_by}
use Rattle.totals.specs.Moves.{HasBuyers}
use Rattle.totals.specs.Counts.{AreRecords}

-- each order names a customer of the scale
pub buyers_named : (pen : PenView) (t : Database) → AreRecords pen t → HasBuyers t.scale (held_by pen)
buyers_named pen t are k is words at =
    row (get t.orders k) refl
    (sym (ap (row_at t) (named t.scale (key.Order k) is).1) ∙ sym (are.held (number_of_key t.scale (key.Order k)) (narrow_among t.scale _ (narrow_named t.scale (key.Order k) is))) ∙ at)
  where
    row : (w : Option Order) → get t.orders k ≡ w → option_map order_words w ≡ Some words → IsNumber t.scale.customers (slice_index words 0)
    row None e same = absurd (true≢false (sym (ap is_some same)))
    row (Some r) e same =
        subst (λ (ws : List ℕ). IsNumber t.scale.customers (slice_index ws 0)) (same_Some (order_words r) words same)
        ((are.well_formed.customers (orderer k r)).0 (are.well_formed.order_customers k r e)).2

-- a row behind others
pub row_behind : (P : History → Type 0) (rows : List History) (row : History) → All P (rows ++ row ∷ []) → P row
row_behind P [] row all = All-head P row [] all
row_behind P (r ∷ rows) row all = row_behind P rows row (All-tail P r (rows ++ row ∷ []) all)

-- the HISTORY row of a commit
pub row_added : (P : History → Type 0) (rows later : List History) (row : Option History) → later ≡ rows ++ added row → All P later → ForSome row P
row_added P rows later None same all = λ r e. absurd (true≢false (sym (ap is_some e)))
row_added P rows later (Some h) same all = λ r e. subst P (same_Some h r e) (row_behind P rows h (subst (All P) same all))
