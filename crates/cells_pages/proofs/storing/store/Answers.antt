use Rattle.std.proofs.Common.{◌≡◌, ℕ, List, [], ◌∷◌, ◌++◌, rules, sym, ap, ◌∙◌, subst, set}
use Rattle.cells_pages.specs.declared.rule.View.{View}
use Rattle.cells_pages.specs.Versions.{AreVersions}
use Rattle.cells_pages.specs.Versions.{at}
use Rattle.cells_pages.specs.Views.{pen_view}
use Rattle.cells_pages.proofs.Lists.{sound_push}
use Rattle.cells_pages.proofs.Words.{first_set}
use Rattle.cells_pages.proofs.storing.store.Goals as goal

-- between the mark and the first word the pen knows the versions that it knew
pub publish-requires : goal.publish-requires
publish-requires g c =
    let seen = c.args.pen.now.me.0.seen in
    let own = c.requires.own in
    let same : c.put_all.new.pen.me.0.seen ≡ seen = ap (λ (v : View). v.seen) c.put_all.ensures.written ∙ ap (λ (v : View). v.seen) c.mark.ensures.marked in
    let words = first_set _ c.put_all.new.pen.me.0.next c.args.version own.some c.put_all.ensures.wide (search rules) c.put_all.ensures.words in
    let sound = sound_push _ (at seen c.args.place) c.args.version own.some c.mark.ensures.sound c.requires.larger (search rules) in (
      search rules,
      (
        search rules,
        (
          search rules,
          subst (λ (x : List (List (List ℕ)) × List ℕ). AreVersions g.row.N (at x.0 c.args.place ++ x.1 ∷ [])) (λ i. (sym same i, sym words i)) sound,
        ),
      ),
    )

pub returns-clause-stored : goal.returns-clause-stored
returns-clause-stored g c =
    let seen = c.args.pen.now.me.0.seen in
    let place = c.args.place in
    let same : c.put_all.new.pen.me.0.seen ≡ seen = ap (λ (v : View). v.seen) c.put_all.ensures.written ∙ ap (λ (v : View). v.seen) c.mark.ensures.marked in
    let words = first_set _ c.put_all.new.pen.me.0.next c.args.version c.requires.own.some c.put_all.ensures.wide (search rules) c.put_all.ensures.words in
    c.publish.ensures.published ∙ (λ i. pen_view (set (same i) place (at (same i) place ++ words i ∷ [])))
