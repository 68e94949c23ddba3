use Rattle.std.proofs.Common.{◌<◌, ◌++◌, [], ◌∷◌, take, ap, sym, subst, ◌∙◌}
use Rattle.std.proofs.lemmas.List.{take_more}
use Rattle.readset.specs.Arrived.{arrived}
use Rattle.readset.proofs.arrivals.Arrivals.ordered.Goals as goal

pub loop-place-preserved : goal.loop-place-preserved
loop-place-preserved g c =
    let list = arrived c.args.self.now in
    let d = c.entry_in.result in
    let there = subst (λ n. c.loop-place.place < n) c.count-count.ensures c.loop-place-test.true in
    c.in_ok-push.ensures.items ∙ ap (λ es. es ++ d ∷ []) c.loop-place.invariant
    ∙ sym (take_more list c.loop-place.place d there ∙ ap (λ e. take c.loop-place.place list ++ e ∷ []) (sym (c.entry_in.ensures d)))
