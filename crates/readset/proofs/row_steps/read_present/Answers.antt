use Rattle.std.proofs.Common.{IsSome, true≢false, sym, ◌∙◌, subst}
use Rattle.tables.specs.Sizes.{Sizes}
use Rattle.tables.specs.Records.{IsNarrowKey}
use Rattle.tables.proofs.Numbers.{of_narrow}
use Rattle.readset.proofs.row_steps.read_present.Goals as goal

pub returns-in-None-clause-row : goal.returns-in-None-clause-row
returns-in-None-clause-row g c = λ t h.
    let there = g.met.T.Present.there t c.args.key h.well_formed
    (of_narrow t.scale (g.T.Keyed.record_of c.args.key) (subst (λ (q : Sizes). IsNarrowKey q (g.T.Keyed.record_of c.args.key)) (sym h.of_population.scale) c.requires)) in
    true≢false (sym (subst (λ o. IsSome o) (c.in_ok-row.ensures.row t h ∙ c.in-None.is) there))
