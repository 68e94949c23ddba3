use Rattle.std.proofs.Common.{◌<◌, ◌/◌, List, length, set, sym, ap, ◌∙◌, subst}
use Rattle.cells.specs.declared.cells.Newest.{Newest}
use Rattle.std.proofs.lemmas.Result.{on_ok_weaker}
use Rattle.cells.proofs.FirstPaged.{page_within, place_within, paged_after, count_after, versions_set}
use Rattle.cells.proofs.first.FirstVersions.set.Goals as goal

pub index_mut-requires : goal.index_mut-requires
index_mut-requires c =
    let within = subst (λ (l : List Newest). c.args.number < length l) (sym c.self.view_is) c.requires in
    let pages = c.self.inside.pages in
    subst (λ k. c.args.number / 4096 < k) (sym pages.ok.0) (page_within pages.items c.self.invariant.0 c.args.number within)

pub set-requires : goal.set-requires
set-requires c =
    let within = subst (λ (l : List Newest). c.args.number < length l) (sym c.self.view_is) c.requires in
    place_within c.self.inside.pages.items c.self.invariant.0 c.args.number within c.index_mut.result.now c.index_mut.ensures.value

pub invariant_of-self : goal.invariant_of-self
invariant_of-self c =
    let within = subst (λ (l : List Newest). c.args.number < length l) (sym c.self.view_is) c.requires in
    let pages = c.self.inside.pages.items in
    let page = c.index_mut.result.now in
    let is = c.index_mut.ensures.value in (
      paged_after pages c.self.invariant.0 c.args.number within page is c.set.new.self c.set.ensures.count,
      c.self.invariant.1 ∙ sym (count_after pages c.self.invariant.0 c.args.number within page is c.set.new.self c.set.ensures.count),
    )

pub returns-clause-ok : goal.returns-clause-ok
returns-clause-ok c =
    let within = subst (λ (l : List Newest). c.args.number < length l) (sym c.self.view_is) c.requires in
    let pages = c.self.inside.pages.items in
    on_ok_weaker c.set.result
    (λ e. versions_set pages c.self.invariant.0 c.args.number within c.index_mut.result.now c.index_mut.ensures.value c.set.new.self c.args.version e
    ∙ ap (λ (l : List Newest). set l c.args.number c.args.version) c.self.view_is)
    c.set.ensures.ok
