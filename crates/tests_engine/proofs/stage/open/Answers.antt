use Rattle.std.proofs.Common.{◌≡◌, ◌<◌, ◌++◌, ℕ, List, [], ◌∷◌, Option, Some, None, length, refl, ap, ◌∙◌, subst}
use Rattle.tables.specs.Database.{Database}
use Rattle.tables.proofs.Numbers.{narrow_among}
use Rattle.population.specs.Initial.{initial}
use Rattle.cells.specs.Records.{PenView, at}
use Rattle.cells.specs.Versions.{last_tid}
use Rattle.cells.specs.First.{first_version, firsts, wide_firsts}
use Rattle.cells.specs.declared.wide.WideNewest.{WideNewest}
use Rattle.encoding.specs.Newest.{AreFirst, text_versions_of}
use Rattle.encoding.proofs.Positions.{at_begin, count_begin}
use Rattle.tests_engine.proofs.stage.open.Goals as goal

-- the first versions have the TID 0
first_tid : (w : Option (List ℕ)) → last_tid (first_version w ∷ []) ≡ 0
first_tid None = refl
first_tid (Some words) = refl

pub returns-clause-scale : goal.returns-clause-scale
returns-clause-scale g c =
    let population = c.in_ok-population.population in
    let t = initial population in
    let made = c.in_ok-cells.ensures.cells in
    let first = subst (λ (d : Database). AreFirst d c.in_ok-first.first) c.tables.ensures c.in_ok-first.ensures in
    let texts = c.in_ok-texts.ensures ∙ ap text_versions_of c.tables-2.ensures in
    record { narrow = made.0 ∙ first.count; wide = made.1 ∙ ap length texts ∙ count_begin t population.well_formed }

pub returns-clause-first : goal.returns-clause-first
returns-clause-first g c n h =
    let population = c.in_ok-population.population in
    let t = initial population in
    let first = subst (λ (d : Database). AreFirst d c.in_ok-first.first) c.tables.ensures c.in_ok-first.ensures in
    let texts = c.in_ok-texts.ensures ∙ ap text_versions_of c.tables-2.ensures in
    let small = subst (λ k. n < k) (c.in_ok-cells.ensures.cells.0 ∙ first.count) h in
    ap (λ (w : PenView). last_tid (at w.all n)) c.in_ok-cells.ensures.pen
    ∙ ap (λ (l : List WideNewest). last_tid (at (firsts c.in_ok-first.first ++ wide_firsts l) n)) texts
    ∙ ap last_tid (at_begin t population.well_formed c.in_ok-first.first first n (narrow_among t.scale n small))
    ∙ first_tid _
