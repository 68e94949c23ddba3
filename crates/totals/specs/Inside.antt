-- What contracts see of the sums. No public clause cites it.
use Rattle.totals.specs.Totals.{SumsView}
use Rattle.totals.specs.declared.running.RunningSums.TheInside.{Inside}

abbrev pub sums_in : Inside → SumsView
sums_in a = record {
  scale = a.scale;
  year_to_date = a.year_to_date.items;
  paid_at_warehouse = a.paid_at_warehouse.items;
  paid_at_district = a.paid_at_district.items;
  paid_by_customer = a.paid_by_customer.items;
  delivered = a.delivered.items;
  line_counts = a.line_counts.items;
  district_lines = a.district_lines.items;
  order_lines = a.order_lines.items;
  waiting = a.waiting.items;
}
