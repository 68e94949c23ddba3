use Rattle.std.proofs.Common.{List, length, ◌%◌, map, sym, ap, ◌∙◌, subst}
use Rattle.atomic_table.specs.Seated.{TableId}
use Rattle.cells_holders.specs.Pages.{IsPaged, size_of}
use Rattle.cells_holders.proofs.Paged.{pages_push}
use Rattle.cells_holders.proofs.pages.PageList.push.Goals as goal

pub invariant_of-self-2 : goal.invariant_of-self-2
invariant_of-self-2 g c =
    let full = ap (λ (ids : List TableId). length ids % 4096) c.self.view_is ∙ c.requires.0 in
    subst (λ pages. IsPaged (map (λ page. size_of g.row.N page.shared.table_id) pages)) (sym c.in_ok-push.ensures.items)
    (pages_push (λ page. page.shared.table_id) g.row.N c.self.inside.pages.items c.args.page c.self.invariant full c.requires.1)
