use Rattle.std.proofs.Common.{map, slice_index, sym, ap, ◌∙◌, subst}
use Rattle.std.specs.Arc.{arc_value}
use Rattle.tables.specs.Sizes.{Sizes}
use Rattle.tables.specs.Keys.{IsDistrictKey}
use Rattle.tables.specs.Database.{Database}
use Rattle.tables.specs.declared.keys.DistrictKey.{DistrictKey}
use Rattle.tables.specs.Records.{district_place}
use Rattle.totals.specs.Totals.{TotalsView, AreTotals, amount_in}
use Rattle.totals.specs.District.{AreOfDistrict, AreDistrictTotals}
use Rattle.totals.specs.declared.district.DistrictTotals.{DistrictTotals}
use Rattle.book.specs.Book.{BookView}
use Rattle.book.specs.History.{replay}
use Rattle.book.proofs.book.Book.totals.Goals as goal

of_tables : (t : Database) (v : TotalsView) (k : DistrictKey) (r : DistrictTotals) → AreTotals t v → IsDistrictKey t.scale k → AreOfDistrict v k r
    → AreDistrictTotals t k r
of_tables t v k r are is of = record {
  paid = of.paid ∙ ap (λ (s : Sizes). amount_in v.sums.paid_at_district (district_place s k.warehouse k.district)) are.sums_scale ∙ are.sums.paid_at_district k is;
  line_counts = of.line_counts ∙ ap (λ (s : Sizes). amount_in v.sums.line_counts (district_place s k.warehouse k.district)) are.sums_scale ∙ are.sums.line_counts k is;
  lines = of.lines ∙ ap (λ (s : Sizes). amount_in v.sums.district_lines (district_place s k.warehouse k.district)) are.sums_scale ∙ are.sums.district_lines k is;
  waiting = of.waiting ∙ ap (λ (s : Sizes). amount_in v.sums.waiting (district_place s k.warehouse k.district)) are.sums_scale ∙ are.sums.waiting k is;
  greatest_order = of.greatest_order ∙ ap (λ (s : Sizes). slice_index v.bounds.greatest_order (district_place s k.warehouse k.district)) are.bounds_scale
      ∙ are.bounds.greatest_order k is;
  least_waiting = of.least_waiting ∙ ap (λ (s : Sizes). slice_index v.bounds.least_waiting (district_place s k.warehouse k.district)) are.bounds_scale
      ∙ are.bounds.least_waiting k is;
  greatest_waiting = of.greatest_waiting ∙ ap (λ (s : Sizes). slice_index v.bounds.greatest_waiting (district_place s k.warehouse k.district)) are.bounds_scale
      ∙ are.bounds.greatest_waiting k is;
}

pub of_district-requires-clause-sums : goal.of_district-requires-clause-sums
of_district-requires-clause-sums g c =
    subst (λ (s : Sizes). IsDistrictKey s c.args.key) (sym (c.self.invariant.0.totals.sums_scale ∙ c.self.invariant.0.ready.of_population.scale)) c.requires

pub of_district-requires-clause-bounds : goal.of_district-requires-clause-bounds
of_district-requires-clause-bounds g c =
    subst (λ (s : Sizes). IsDistrictKey s c.args.key) (sym (c.self.invariant.0.totals.bounds_scale ∙ c.self.invariant.0.ready.of_population.scale)) c.requires

pub returns : goal.returns
returns g c =
    let t = replay g.K.Run.run.first (map arc_value c.self.inside.history.items) in
    subst (λ (q : BookView). AreDistrictTotals (replay g.K.Run.run.first q.history) c.args.key c.of_district.result) c.self.view_is
    (of_tables t c.self.inside.totals c.args.key c.of_district.result c.self.invariant.0.totals
    (subst (λ (s : Sizes). IsDistrictKey s c.args.key) (sym c.self.invariant.0.ready.of_population.scale) c.requires) c.of_district.ensures)
