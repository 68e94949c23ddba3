use Rattle.std.proofs.Common.{◌≡◌, [], replicate, rules, sym, ap, ◌∙◌}
use Rattle.cells.specs.First.{absent_version, page_versions}
use Rattle.cells.proofs.first.FirstPage.is_blank.Goals as goal

pub returns-then-is_empty : goal.returns-then-is_empty
returns-then-is_empty c whole =
    let none : c.self.inside.versions.items ≡ [] = search rules in
    let count : c.self.inside.count ≡ 4096 = search rules in
    sym c.self.view_is ∙ ap (page_versions c.self.inside.count) none ∙ ap (λ n. replicate n absent_version) count
