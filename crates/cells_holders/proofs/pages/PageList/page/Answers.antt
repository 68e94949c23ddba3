use Rattle.std.proofs.Common.{List, length, ◌<◌, ◌/◌, sym, ap, ◌∙◌, subst}
use Rattle.std.specs.Prelude.{slice_get}
use Rattle.atomic_table.specs.Seated.{TableId}
use Rattle.cells_holders.proofs.Paged.{has_page, page_is}
use Rattle.cells_holders.proofs.pages.PageList.page.Goals as goal

pub index-requires : goal.index-requires
index-requires g c =
    let pages = c.self.inside.pages in
    subst (λ k. c.args.number / 4096 < k) (sym pages.ok.0)
    (has_page (λ page. page.shared.table_id) g.row.N pages.items c.self.invariant c.args.number
    (subst (λ (ids : List TableId). c.args.number < length ids) (sym c.self.view_is) c.requires))

pub returns : goal.returns
returns g c =
    let within = subst (λ (ids : List TableId). c.args.number < length ids) (sym c.self.view_is) c.requires in
    ap (λ (ids : List TableId). slice_get ids c.args.number) (sym c.self.view_is)
    ∙ page_is (λ page. page.shared.table_id) g.row.N c.self.inside.pages.items c.self.invariant c.args.number within _ c.index.ensures
