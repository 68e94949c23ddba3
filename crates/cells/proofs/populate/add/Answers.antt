use Rattle.std.proofs.Common.{◌≡◌, List, ℕ, IfOk, length, rules, sym, ap, ◌∙◌, subst}
use Rattle.atomic_table.specs.Seated.{TableId}
use Rattle.cells.specs.First.{firsts}
use Rattle.cells_holders.specs.Opening.{opened_with}
use Rattle.cells.proofs.populate.add.Goals as goal

pub returns-then-is_blank-clause-ok : goal.returns-then-is_blank-clause-ok
returns-then-is_blank-clause-ok c =
    let absent = c.is_blank.ensures (search rules) in
    subst (λ (vs : List (List (List ℕ))). IfOk c.add.result (λ made. (x : List TableId) × (length x ≡ length vs) × (made ≡ opened_with c.args.opening x vs)))
    (c.requires.blank ∙ ap firsts (sym absent)) c.add.ensures.ok
