use Rattle.std.proofs.Common.{ℕ, List, [], sym, subst}
use Rattle.atomic_table.specs.Table.{opening}
use Rattle.cells_pages.specs.Views.{pen_view}
use Rattle.cells_pages.specs.Rule.{KeepsPage, first_versions}
use Rattle.cells_pages.proofs.Starting.{begins_kept}
use Rattle.cells_pages.proofs.page.open.Goals as goal

pub of_words-requires : goal.of_words-requires
of_words-requires g c =
    let words = c.args.words.now.items in
    subst (λ (ws : List ℕ). KeepsPage g.row.N (opening ws [] (pen_view (first_versions g.row.N words)))) (sym c.deref.ensures.value)
    (begins_kept g.row.N c.requires.1.0 words c.requires.0 c.requires.1.1)
