use Rattle.population_tables.proofs.PlainRows.{are_plain, are_seeded}
use Rattle.population_tables.proofs.Sound.{has_reach, has_room, is_well_formed}
use Rattle.population_tables.proofs.Consistent.{is_consistent}
use Rattle.population_tables.proofs.populations.plain_tables.Goals as goal

pub returns-clause-rows : goal.returns-clause-rows
returns-clause-rows c = are_plain c.args.scale _ c.in_ok-tables.ensures.rows

pub returns-clause-well_formed : goal.returns-clause-well_formed
returns-clause-well_formed c = is_well_formed c.args.scale _ c.first_tables.ensures.fit
    (are_seeded c.args.scale _ c.in_ok-tables.ensures.rows c.first_tables.ensures.fit)

pub returns-clause-consistent : goal.returns-clause-consistent
returns-clause-consistent c = is_consistent c.args.scale _ c.first_tables.ensures.fit
    (are_seeded c.args.scale _ c.in_ok-tables.ensures.rows c.first_tables.ensures.fit)

pub returns-clause-room : goal.returns-clause-room
returns-clause-room c = has_room c.args.scale _ c.first_tables.ensures.fit
    (are_seeded c.args.scale _ c.in_ok-tables.ensures.rows c.first_tables.ensures.fit)

pub returns-clause-reach : goal.returns-clause-reach
returns-clause-reach c = has_reach c.args.scale _ c.first_tables.ensures.fit
    (are_seeded c.args.scale _ c.in_ok-tables.ensures.rows c.first_tables.ensures.fit)
