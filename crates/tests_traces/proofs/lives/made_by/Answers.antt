use Rattle.std.proofs.Common.{◌∙◌, map, sym, subst}
use Rattle.std.specs.List.{All}
use Rattle.std.specs.Arc.{arc_value}
use Rattle.tables.specs.Sizes.{Sizes}
use Rattle.book.specs.Loggable.{IsLoggable}
use Rattle.tests_traces.proofs.lives.made_by.Goals as goal

pub invariant_of-result : goal.invariant_of-result
invariant_of-result g c =
    subst (λ (s : Sizes). All (IsLoggable s) (map arc_value c.in_ok-history.history.items)) (sym c.in_ok-outcome.ensures.scale)
    (subst (All (IsLoggable g.K.Run.run.first.scale)) (sym (c.in_ok-history.ensures ∙ c.history.ensures.history)) c.history.ensures.loggable.each)
