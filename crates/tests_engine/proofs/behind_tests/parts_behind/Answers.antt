use Rattle.std.proofs.Common.{◌∙◌, subst}
use Rattle.tables.specs.Database.{Database, database}
use Rattle.tables.specs.Sizes.{sizes}
use Rattle.book.specs.Base.{MayBegin}
use Rattle.tests_engine.proofs.behind_tests.parts_behind.Goals as goal

pub behind-requires-clause-base : goal.behind-requires-clause-base
behind-requires-clause-base g c =
    let base = c.in_ok-base.base in
    subst (λ (t : Database). MayBegin t (database base.tables) base.rows.items base.commits)
    (c.in_ok-parts.ensures.parts.first_is
    ∙ c.plain_tables_are_one.ensures (sizes 1 2 10 20 30 5) _ _ c.in_ok-earlier.ensures c.in_ok-later.ensures)
    c.in_ok-base.ensures.base
