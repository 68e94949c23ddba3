use Rattle.std.proofs.Common.{map, sym, ap, ◌∙◌, subst}
use Rattle.std.specs.List.{All, slice_range}
use Rattle.std.specs.Arc.{arc_value}
use Rattle.book.specs.Loggable.{IsLoggable}
use Rattle.traces.specs.Told.{TraceView}
use Rattle.traces.proofs.Parts.{some_part, part_of_map, all_of_part}
use Rattle.traces.proofs.trace.Trace.entries.Goals as goal

pub returns-clause-entries : goal.returns-clause-entries
returns-clause-entries c = some_part _ _ _ c.get.result c.get.ensures.lookup.0 (λ part is.
    ap (map arc_value) is.2 ∙ part_of_map arc_value c.self.inside.history.now c.args.from c.args.to
    ∙ ap (λ (v : TraceView). slice_range v.history c.args.from c.args.to) c.self.view_is)

pub returns-clause-loggable : goal.returns-clause-loggable
returns-clause-loggable c = some_part _ _ _ c.get.result c.get.ensures.lookup.0 (λ part is.
    subst (λ (v : TraceView). All (IsLoggable v.scale) (map arc_value part.now)) c.self.view_is
    (subst (All (IsLoggable c.self.inside.scale)) (sym (ap (map arc_value) is.2 ∙ part_of_map arc_value c.self.inside.history.now c.args.from c.args.to))
    (all_of_part (IsLoggable c.self.inside.scale) (map arc_value c.self.inside.history.now) c.args.from c.args.to c.self.invariant)))
