-- The rows stay those of the tables with the writes put in: when an order is opened, at each line's row, and
-- at what each draws.
use Rattle.std.proofs.Common.{◌≡◌, ◌+◌, List, [], ◌∷◌, ◌++◌, length, Some, refl, ap, arith}
use Rattle.std.specs.Option.{option_map}
use Rattle.std.specs.FinMap.{get}
use Rattle.tables.specs.Sizes.{IsNumber}
use Rattle.tables.specs.Keys.{IsDistrictKey, IsCustomerKey, IsOrderKey, IsStockKey}
use Rattle.tables.specs.OrderNumbers.{greatest, numbers_in, next_order}
use Rattle.tables.specs.Database.{Database}
use Rattle.tables.specs.NewOrder.{HasNumber, home, buyer, new_key, line_key, line_row, stock_key, drawn}
use Rattle.tables.specs.Conditions.{Condition2At}
use Rattle.tables.specs.WellFormed.{IsWellFormed}
use Rattle.tables.specs.Records.{number_of_key}
use Rattle.tables.specs.Rows.{row_at, line_words, stock_words}
use Rattle.tables.specs.declared.keys.StockKey.{StockKey}
use Rattle.tables.specs.declared.records.RecordKey.TheVariants as key
use Rattle.tables.specs.declared.limits.TheConstants.{MAX_ORDER_LINES}
use Rattle.tables.specs.declared.rows.District.{District}
use Rattle.tables.specs.declared.rows.Stock.{Stock}
use Rattle.tables.specs.declared.new_order.RequestedLine.{RequestedLine}
use Rattle.tables.specs.declared.new_order.NewOrderInput.{NewOrderInput}
use Rattle.readset.specs.Writes.{WriteSetView, puts}
use Rattle.readset.specs.Changes.{Holds, puts_all}
use Rattle.readset.proofs.HoldsChanges.{holds-changes, not_taken}
use Rattle.rows.specs.Columns.{district_columns}
use Rattle.neworder.specs.Steps.{after_lines, numbered_columns}
use Rattle.neworder.proofs.Opened.{all_changes, opened, opened_others}
use Rattle.neworder.proofs.Lined.{lined, lined_others}

module _ (t : Database) (x : NewOrderInput) where
  -- the new order's key is of the scale
  pub new_key_there : IsDistrictKey t.scale (home x) → Condition2At t (home x) → HasNumber t x → IsOrderKey t.scale (new_key t x)
  new_key_there at_home second number =
      let next : greatest (numbers_in (home x) t.orders) + 1 ≡ next_order t (home x) = second.0 in
      (at_home.0, at_home.1, (omega arith, number))

  -- once the order is opened
  pub holds_opened : (writes : WriteSetView) (r : District) → IsWellFormed t → Condition2At t (home x) → HasNumber t x → IsDistrictKey t.scale (home x)
      → IsCustomerKey t.scale (buyer x)
      → get t.districts (home x) ≡ Some r → Holds t writes (row_at t)
      → Holds t (puts_all t.scale writes (all_changes x (new_key t x) (numbered_columns (district_columns r)))) (row_at (after_lines t x [] []))
  holds_opened writes r wf second number at_home at_buyer found h =
      let at_key : IsOrderKey t.scale (new_key t x) = new_key_there at_home second number in
      holds-changes t (all_changes x (new_key t x) (numbered_columns (district_columns r))) writes (row_at t) (row_at (after_lines t x [] [])) h
      (at_home, (at_key, (at_key, (at_buyer, tt))))
      (not_taken _ _, (not_taken _ _, (not_taken _ _, (not_taken _ _, tt))))
      (opened t x wf second r found)
      (λ j _ apart. opened_others t x wf second r j apart)

  -- once one line more has its row
  pub holds_lined : (writes : WriteSetView) (rows draws : List RequestedLine) (l : RequestedLine)
      → IsOrderKey t.scale (new_key t x) → IsNumber MAX_ORDER_LINES (length rows + 1) → Holds t writes (row_at (after_lines t x rows draws))
      → Holds t (puts writes (number_of_key t.scale (key.OrderLine (line_key (new_key t x) (length rows + 1)))) (Some (line_words (line_row t l))))
      (row_at (after_lines t x (rows ++ l ∷ []) draws))
  holds_lined writes rows draws l at_key at_line h =
      holds-changes t ((key.OrderLine (line_key (new_key t x) (length rows + 1)), Some (line_words (line_row t l))) ∷ []) writes
      (row_at (after_lines t x rows draws)) (row_at (after_lines t x (rows ++ l ∷ []) draws)) h
      ((at_key.0, at_key.1, at_key.2, at_line), tt)
      (not_taken _ _, tt)
      (lined t x rows draws l, tt)
      (λ j _ apart. lined_others t x rows draws l j apart.0)
