use Rattle.std.proofs.Common.{◌<◌, ◌/◌, List, get_or, length, sym, ap, ◌∙◌, subst}
use Rattle.cells.specs.declared.cells.Newest.{Newest}
use Rattle.cells.proofs.FirstPaged.{page_within, place_within, version_is}
use Rattle.cells.proofs.first.FirstVersions.get.Goals as goal

pub index-requires : goal.index-requires
index-requires c =
    let within = subst (λ (l : List Newest). c.args.number < length l) (sym c.self.view_is) c.requires in
    let pages = c.self.inside.pages in
    subst (λ k. c.args.number / 4096 < k) (sym pages.ok.0) (page_within pages.items c.self.invariant.0 c.args.number within)

pub get-requires : goal.get-requires
get-requires c =
    let within = subst (λ (l : List Newest). c.args.number < length l) (sym c.self.view_is) c.requires in
    place_within c.self.inside.pages.items c.self.invariant.0 c.args.number within c.index.result.now c.index.ensures

pub returns : goal.returns
returns c =
    let within = subst (λ (l : List Newest). c.args.number < length l) (sym c.self.view_is) c.requires in
    version_is c.self.inside.pages.items c.self.invariant.0 c.args.number within c.index.result.now c.index.ensures c.get.result c.get.ensures
    ∙ ap (λ (l : List Newest). get_or l c.args.number c.get.result) c.self.view_is
