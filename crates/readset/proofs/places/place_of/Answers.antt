use Rattle.std.proofs.Common.{rules, sym, ap, ◌∙◌}
use Rattle.std.proofs.lemmas.List.Sorted.{answers_always}
use Rattle.std.specs.Option.{option_copied}
use Rattle.readset.proofs.Search.{searched, place_above, place_first}
use Rattle.readset.proofs.places.place_of.Goals as goal

pub returns-in-None : goal.returns-in-None
returns-in-None g c = sym (place_first c.args.number c.args.entries.now (sym c.last.ensures.value ∙ ap option_copied c.in-None.is))

pub returns-in-Some : goal.returns-in-Some
returns-in-Some g c =
    sym (place_above c.args.number c.args.entries.now c.in-Some.last.now c.requires (sym c.last.ensures.value ∙ ap option_copied c.in-Some.is) c.if-last-number.true)

pub returns-in-Some-2 : goal.returns-in-Some-2
returns-in-Some-2 g c = searched c.args.number c.args.entries.now c.binary_search_by_key.result c.requires c.binary_search_by_key.ensures.bound
    (c.binary_search_by_key.ensures.position (λ e. e.0) (answers_always _ _ _ (λ f a r g called. search rules)))
