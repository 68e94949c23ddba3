-- The sums of the tables that a database begins with.
use Rattle.std.proofs.Common.{◌≡◌, ℕ, ◌<◌, ◌*◌, ℤ, pos, ◌+ℤ◌, List, Option, replicate, refl, ap, ◌∙◌, arith}
use Rattle.std.proofs.lemmas.Int.{ints, fits_signed_from_abs}
use Rattle.std.proofs.lemmas.List.{get_or-replicate}
use Rattle.std.specs.Int.{Width, w8, w64}
use Rattle.std.specs.Int.RustNames.{FitsSigned}
use Rattle.tables.specs.Sizes.{IsScale}
use Rattle.tables.specs.Keys.{IsOrderKey}
use Rattle.tables.specs.Records.{number_of_key, narrow_count}
use Rattle.tables.specs.Rows.{rows, row_at, district_words, order_words, new_order_words, line_words}
use Rattle.tables.specs.Conditions.{IsConsistent}
use Rattle.tables.specs.WellFormed.{IsWellFormed}
use Rattle.tables.specs.Database.{Database}
use Rattle.tables.specs.declared.keys.OrderKey.{OrderKey}
use Rattle.tables.specs.declared.records.RecordKey.TheVariants as key
use Rattle.tables.proofs.Numbers.{named, narrow_named, warehouse_there, district_there, customer_there, order_there}
use Rattle.tables.proofs.Orders.{exact_district, exact_order, exact_line}
use Rattle.totals.specs.Totals.{SumsView, AreSums, amount_in}
use Rattle.totals.specs.Worth.{year_to_date_of, line_count_in, line_in, line_of, one_in, delivered_to}
use Rattle.totals.specs.Moves.{IsMoved, order_before}
use Rattle.totals.specs.Opening.{SumsOpen}
use Rattle.totals.proofs.Keyed as kind
use Rattle.totals.proofs.Sums.{off_district, off_order, off_line, off_order_line, off_new_order, year_to_date_in_words, line_counts_in_words}
use Rattle.totals.proofs.Bought.{off_line as off_delivered, delivered_in_words}
use Rattle.totals.proofs.Counted.{counted}
use Rattle.totals.proofs.Fits.{sums_fit}
use Rattle.totals.proofs.Follow.{exact}
use Rattle.totals.proofs.Opened.{total-opened}

none_fits : FitsSigned w64 (pos 0)
none_fits = fits_signed_from_abs w64 (pos 0) (omega arith)

none_fits_small : FitsSigned w8 (pos 0)
none_fits_small = fits_signed_from_abs w8 (pos 0) (omega arith)

-- an amount that began with nothing
begun : (w : Width) → FitsSigned w (pos 0) → (n p : ℕ) (b z y : ℤ) → p < n → IsMoved w (amount_in (replicate n (pos 0)) p) b z → y ≡ z → FitsSigned w y → b ≡ y
begun w fits_none n p b z y inside moves is fits =
    exact w (amount_in (replicate n (pos 0)) p) b z (pos 0) y (get_or-replicate n p (pos 0) (pos 0) inside) moves (is ∙ none_before z) fits_none fits
  where
    none_before : (a : ℤ) → a ≡ pos 0 +ℤ a
    none_before a = omega (arith, ints)

module _ (t : Database) (scale : IsScale t.scale) (wf : IsWellFormed t) (con : IsConsistent t) (held : ℕ → Option (List ℕ))
    (latest : (n : ℕ) → n < narrow_count t.scale → held n ≡ rows t n) where
  ordered : (j : OrderKey) → IsOrderKey t.scale j → order_before t.scale held j ≡ row_at t (key.Order j)
  ordered j is =
      latest (number_of_key t.scale (key.Order j)) (narrow_named t.scale (key.Order j) is) ∙ ap (row_at t) (named t.scale (key.Order j) is).1

  pub sums_begin : (v : SumsView) → SumsOpen t.scale held t.history v → AreSums t.scale t v
  sums_begin v opened =
      let fit = sums_fit t scale wf con in
      let s = t.scale in
      record {
        year_to_date = λ w is.
            begun w64 none_fits s.warehouses _ _ _ _ (warehouse_there s w is).0 (opened.year_to_date w is)
            (year_to_date_in_words t wf w
            ∙ total-opened exact_district kind.districts t held latest (year_to_date_of w) (off_district w) district_words t.districts (λ j. refl) (λ k some. (wf.districts k).0 some))
            (fit.year_to_date w is);
        paid_at_warehouse = λ w is. begun w64 none_fits s.warehouses _ _ _ _ (warehouse_there s w is).0 (opened.paid_at_warehouse w is) refl (fit.paid_at_warehouse w is);
        paid_at_district = λ k is.
            begun w64 none_fits (s.warehouses * s.districts) _ _ _ _ (district_there s k is).0 (opened.paid_at_district k is) refl (fit.paid_at_district k is);
        paid_by_customer = λ k is.
            begun w64 none_fits (s.warehouses * s.districts * s.customers) _ _ _ _ (customer_there s k is).0 (opened.paid_by_customer k is) refl (fit.paid_by_customer k is);
        delivered = λ k is.
            begun w64 none_fits (s.warehouses * s.districts * s.customers) _ _ _ _ (customer_there s k is).0 (opened.delivered k is)
            (delivered_in_words t wf (order_before s held) ordered k
            ∙ total-opened exact_line kind.lines t held latest (delivered_to (order_before s held) k) (off_delivered (order_before s held) k) line_words t.lines (λ j. refl) wf.lines)
            (fit.delivered k is);
        line_counts = λ k is.
            begun w64 none_fits (s.warehouses * s.districts) _ _ _ _ (district_there s k is).0 (opened.line_counts k is)
            (line_counts_in_words t wf k
            ∙ total-opened exact_order kind.orders t held latest (line_count_in k) (off_order k) order_words t.orders (λ j. refl) wf.orders)
            (fit.line_counts k is);
        district_lines = λ k is.
            begun w64 none_fits (s.warehouses * s.districts) _ _ _ _ (district_there s k is).0 (opened.district_lines k is)
            (total-opened exact_line kind.lines t held latest (line_in k) (off_line k) line_words t.lines (λ j. refl) wf.lines)
            (fit.district_lines k is);
        order_lines = λ k is.
            begun w8 none_fits_small (s.warehouses * s.districts * s.orders) _ _ _ _ (order_there s k is).0 (opened.order_lines k is)
            (total-opened exact_line kind.lines t held latest (line_of k) (off_order_line k) line_words t.lines (λ j. refl) wf.lines)
            (fit.order_lines k is);
        waiting = λ k is.
            begun w64 none_fits (s.warehouses * s.districts) _ _ _ _ (district_there s k is).0 (opened.waiting k is)
            (counted k t.new_orders
            ∙ total-opened exact_order kind.new_orders t held latest (one_in k) (off_new_order k) new_order_words t.new_orders (λ j. refl) wf.new_orders)
            (fit.waiting k is);
      }
