use Rattle.recover_laws.proofs.Recovered.{as_many, no_gap, is_replay}
use Rattle.recover_laws.proofs.rebuilt_tables_are_the_replay.Goals as goal

pub returns : goal.returns
returns c = λ t0 files history h holds some. record {
  as_many = as_many t0 files history h holds some;
  no_gap = no_gap t0 files history h holds some;
  is_replay = λ t rebuilt. is_replay t0 files history h holds some t rebuilt c.values_determine_tables.ensures.of_records
      c.values_determine_tables.ensures.one;
}
