use Rattle.std.proofs.Common.{Some, None, length, refl, sym, ap, ◌∙◌, arith}
use Rattle.std.specs.Option.{option_map}
use Rattle.std.specs.List.{slice_get}
use Rattle.std.proofs.lemmas.Iterator.Consumers.{count_from_yields_List, nth_from_yields_List, YieldsList-from_rest}
use Rattle.tables.specs.Names.{named}
use Rattle.population.proofs.NameRange.{chosen}
use Rattle.population.proofs.name_index.NameIndex.customer.Goals as goal

pub returns-in_err-middle : goal.returns-in_err-middle
returns-in_err-middle c =
    let counted = count_from_yields_List c.named.result _ c.count-count.ensures.ran (YieldsList-from_rest c.named.result refl) in
    let found = nth_from_yields_List _ _ _ c.nth.ensures.ran (YieldsList-from_rest c.named-2.result refl) in
    c.from_residual.ensures
    ∙ chosen (named c.args.self.now c.args.district c.args.last_name) None c.count-count.result c.saturating_sub.result
    (counted ∙ ap length c.named.ensures.names) (omega (arith, c.saturating_sub.ensures, c.div_ceil.ensures))
    (ap (option_map (λ x. x.now)) (sym c.in_err-middle.was) ∙ found ∙ ap (λ l. slice_get l c.saturating_sub.result) c.named-2.ensures.names)

pub returns : goal.returns
returns c =
    let counted = count_from_yields_List c.named.result _ c.count-count.ensures.ran (YieldsList-from_rest c.named.result refl) in
    let found = nth_from_yields_List _ _ _ c.nth.ensures.ran (YieldsList-from_rest c.named-2.result refl) in
    chosen (named c.args.self.now c.args.district c.args.last_name) (Some c.in_ok-middle.middle.now) c.count-count.result c.saturating_sub.result
    (counted ∙ ap length c.named.ensures.names) (omega (arith, c.saturating_sub.ensures, c.div_ceil.ensures))
    (ap (option_map (λ x. x.now)) (sym c.in_ok-middle.was) ∙ found ∙ ap (λ l. slice_get l c.saturating_sub.result) c.named-2.ensures.names)
