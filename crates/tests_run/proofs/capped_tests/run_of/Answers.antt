use Rattle.std.proofs.Common.{ap, sym, ◌∙◌}
use Rattle.tables.specs.Sizes.{Sizes}
use Rattle.lane_logger.specs.Found.{new_files}
use Rattle.lane_logger.proofs.Found.{found_as}
use Rattle.tests_run.proofs.capped_tests.run_of.Goals as goal

pub run-requires-clause-logs : goal.run-requires-clause-logs
run-requires-clause-logs g c κs within = λ k d h.
    found_as (c.requires.named ∙ ap (λ (s : Sizes). new_files 1 s 0) (sym c.population.ensures.scale)) c.board.ensures (c.in_ok-logs.ensures k d h)

pub run-requires-clause-decks : goal.run-requires-clause-decks
run-requires-clause-decks g c κs within =
    λ k d h. c.in_ok-stations.ensures.decks k d h ∙ (c.scale.ensures ∙ c.population-2.ensures.scale)
