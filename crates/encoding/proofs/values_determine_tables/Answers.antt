use Rattle.encoding.proofs.Held.{are_tables}
use Rattle.encoding.proofs.Determined.{determined}
use Rattle.encoding.proofs.values_determine_tables.Goals as goal

pub returns-clause-of_records : goal.returns-clause-of_records
returns-clause-of_records c = λ t0 t values of wf agree. are_tables t0 t of wf values agree

pub returns-clause-one : goal.returns-clause-one
returns-clause-one c = λ t0 t u values. determined t0 values t u
