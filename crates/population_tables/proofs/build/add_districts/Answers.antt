use Rattle.std.proofs.Common.{◌+◌, ◌-◌, arith}
use Rattle.population_tables.proofs.DistrictsAdded.{district_more, others_both}
use Rattle.population_tables.proofs.build.add_districts.Goals as goal

pub loop-district-preserved : goal.loop-district-preserved
loop-district-preserved g c = (
  district_more c.args.warehouse c.loop-district.district _ (c.loop-district.district + 1 - 1) (omega arith) (omega arith) (omega arith)
      c.loop-district.invariant.0 c.in_ok-add_district.ensures.district,
  others_both c.loop-district.invariant.1 c.in_ok-add_district.ensures.others,
)

pub returns-in_ok-add_district-clause-districts : goal.returns-in_ok-add_district-clause-districts
returns-in_ok-add_district-clause-districts g c = district_more c.args.warehouse c.loop-district.district _ c.args.scale.districts (omega arith) (omega arith)
    (omega arith) c.loop-district.invariant.0 c.in_ok-add_district.ensures.district
