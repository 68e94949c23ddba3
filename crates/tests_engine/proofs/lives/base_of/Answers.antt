use Rattle.std.proofs.Common.{◌≡◌, length, ap, sym, ◌∙◌, arith, rules, refl}
use Rattle.tables.specs.Database.{Database, database}
use Rattle.tests_engine.proofs.Bases.{may_begin}
use Rattle.tests_engine.proofs.lives.base_of.Goals as goal

pub returns-clause-base : goal.returns-clause-base
returns-clause-base g c =
    let first : c.len-first.result ≡ length (database c.tables.result.now).history = search rules in
    may_begin c.in_ok-tables.ensures.sound
    (first ∙ ap (λ (t : Database). length t.history) (c.tables.ensures ∙ c.population.ensures.value ∙ sym c.requires.1))
    c.in_ok-rows.ensures
    (c.reach_leaves_room.ensures (database c.in_ok-tables.tables) c.commits-commits.result c.commits-commits.ensures.few
    (c.if-not-is_in_reach.ensures.0 refl))
    (omega (arith, c.commits-commits.ensures.cap, c.requires.0))
