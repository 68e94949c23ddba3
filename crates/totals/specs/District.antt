-- A district's totals.
use Rattle.std.specs.Prelude.{◌≡◌, pos, length, slice_index, unwrap_or}
use Rattle.tables.specs.Keys.{is_district}
use Rattle.tables.specs.Maps.{count}
use Rattle.tables.specs.OrderNumbers.{least, greatest, numbers_in}
use Rattle.tables.specs.Records.{district_place}
use Rattle.tables.specs.Conditions.{line_counts, paid_at_district}
use Rattle.tables.specs.Database.{Database}
use Rattle.tables.specs.declared.keys.DistrictKey.{DistrictKey}
use Rattle.totals.specs.Totals.{TotalsView, amount_in}
use Rattle.totals.specs.declared.district.DistrictTotals.{DistrictTotals}

-- they are those of its place
pub record AreOfDistrict (v : TotalsView) (k : DistrictKey) (r : DistrictTotals) : Type 0 where
  pub paid : r.paid ≡ amount_in v.sums.paid_at_district (district_place v.sums.scale k.warehouse k.district)
  pub line_counts : r.line_counts ≡ amount_in v.sums.line_counts (district_place v.sums.scale k.warehouse k.district)
  pub lines : r.lines ≡ amount_in v.sums.district_lines (district_place v.sums.scale k.warehouse k.district)
  pub waiting : r.waiting ≡ amount_in v.sums.waiting (district_place v.sums.scale k.warehouse k.district)
  pub greatest_order : r.greatest_order
      ≡ slice_index v.bounds.greatest_order (district_place v.bounds.scale k.warehouse k.district)
  pub least_waiting : r.least_waiting
      ≡ slice_index v.bounds.least_waiting (district_place v.bounds.scale k.warehouse k.district)
  pub greatest_waiting : r.greatest_waiting
      ≡ slice_index v.bounds.greatest_waiting (district_place v.bounds.scale k.warehouse k.district)

-- and they are its numbers over tables (TPC-C 3.3.2.2, 3.3.2.3, 3.3.2.4, 3.3.2.9)
pub record AreDistrictTotals (t : Database) (k : DistrictKey) (r : DistrictTotals) : Type 0 where
  pub paid : r.paid ≡ paid_at_district t k
  pub line_counts : r.line_counts ≡ line_counts t k
  pub lines : r.lines ≡ count (λ j line. is_district j.warehouse j.district k) t.lines
  pub waiting : r.waiting ≡ pos (length (numbers_in k t.new_orders))
  pub greatest_order : r.greatest_order ≡ greatest (numbers_in k t.orders)
  pub least_waiting : r.least_waiting ≡ unwrap_or (least (numbers_in k t.new_orders)) 0
  pub greatest_waiting : r.greatest_waiting ≡ greatest (numbers_in k t.new_orders)
