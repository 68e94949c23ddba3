use Rattle.std.proofs.Common.{◌≡◌, List, ◌++◌, length, map, rules, sym, ap, ◌∙◌, subst}
use Rattle.std.specs.Prelude.{All}
use Rattle.std.proofs.lemmas.List.{length-map, with_items_is}
use Rattle.cells_pages.specs.declared.rule.View.{View}
use Rattle.cells_holders.specs.Records.{PagesReader, PagesPen}
use Rattle.cells_pages.specs.Rule.{first_versions}
use Rattle.cells_holders.specs.Pages.{ids_of}
use Rattle.cells_holders.specs.Opening.{Opened, seen_all, opened_with, sights_with, AreFull, IsNext}
use Rattle.cells_holders.proofs.Told.{all_seen, all_full, new_words, new_next, new_ids, new_seat}
use Rattle.cells_holders.proofs.opening.OpeningOf.add.Goals as goal

pub tell-requires : goal.tell-requires
tell-requires g c =
    let words = c.requires.words in
    let made = c.in_ok-page.ensures in
    let full = subst (λ (o : Opened). AreFull o.written.cells) (sym c.self.view_is) c.requires.full in
    let seat = c.in_ok-page.seat in (
      search rules,
      (
        search rules,
        (
          (made.1, new_words g.row.N words.0 c.requires.size _ words.1 words.2 words.3 c.in_ok-page.page.shared.table_id made.0),
          (
            new_seat g.row.N words.0 c.requires.size _ words.1 words.2 words.3 c.in_ok-page.page.shared.table_id made.0 seat made.1 made.2,
            (
              subst (λ (l : List PagesReader). All (λ s. AreFull s.cells) l) (sym c.deref_mut.ensures.value)
                  (all_full c.self.inside.pen c.self.inside.readers.items full c.self.invariant.1),
              subst (IsNext g.row.N) (sym made.1) (new_next g.row.N words.0 c.requires.size _ words.1 words.2 words.3 c.in_ok-page.page.shared.table_id made.0),
            ),
          ),
        ),
      ),
    )

pub push-requires : goal.push-requires
push-requires g c =
    let words = c.requires.words in
    let made = c.in_ok-page.ensures in
    let kept = c.in_ok-tell.ensures.kept in
    let full = subst (λ (o : Opened). AreFull o.written.cells) (sym c.self.view_is) c.requires.full in (
      search rules,
      (
        new_seat g.row.N words.0 c.requires.size _ words.1 words.2 words.3 c.in_ok-page.page.shared.table_id made.0 c.tell.new.pen (kept.0 ∙ made.1) (kept.1 ∙ made.2),
        (full, subst (IsNext g.row.N) (sym (kept.0 ∙ made.1)) (new_next g.row.N words.0 c.requires.size _ words.1 words.2 words.3 c.in_ok-page.page.shared.table_id made.0)),
      ),
    )

pub invariant_of-result : goal.invariant_of-result
invariant_of-result g c =
    let made = c.in_ok-page.ensures in
    let t = c.in_ok-tell.ensures in
    let old = c.self.inside.readers in
    let first = c.in_ok-page.seat in
    let told : c.tell.new.readers ≡ map (λ s. sights_with s (ids_of g.row.N first.table_id) first.me.0.seen) old.items = t.ok
    ∙ ap (λ (l : List PagesReader). map (λ s. sights_with s (ids_of g.row.N first.table_id) first.me.0.seen) l) c.deref_mut.ensures.value in
    let count : length c.tell.new.readers ≡ old.len = ap length told ∙ length-map old.items (λ s. sights_with s (ids_of g.row.N first.table_id) first.me.0.seen)
    ∙ sym old.ok.0 in (
      c.in_ok-push-2.ensures.ok ∙ (λ i. c.self.invariant.0 i ++ ids_of g.row.N (sym (t.kept.0 ∙ made.1) i))
          ∙ sym (ap (λ (w : PagesPen). w.cells) c.in_ok-push.ensures.ok),
      subst (λ (l : List PagesReader). All (λ s. s ≡ seen_all c.push.new.self) l) (sym (with_items_is old c.tell.new.readers count))
          (all_seen g.row.N c.self.inside.pen c.push.new.self first c.tell.new.pen old.items c.tell.new.readers t.kept.0 t.kept.1 told c.in_ok-push.ensures.ok
          c.self.invariant.1),
    )

pub returns-clause-ok : goal.returns-clause-ok
returns-clause-ok g c =
    let words = c.requires.words in
    let made = c.in_ok-page.ensures in
    let t = c.in_ok-tell.ensures in
    let old = c.self.inside.readers in
    let first = c.in_ok-page.seat in
    let page = c.in_ok-page.page.shared.table_id in
    let told : c.tell.new.readers ≡ map (λ s. sights_with s (ids_of g.row.N first.table_id) first.me.0.seen) old.items = t.ok
    ∙ ap (λ (l : List PagesReader). map (λ s. sights_with s (ids_of g.row.N first.table_id) first.me.0.seen) l) c.deref_mut.ensures.value in
    let count : length c.tell.new.readers ≡ length old.items = ap length told
    ∙ length-map old.items (λ s. sights_with s (ids_of g.row.N first.table_id) first.me.0.seen) in
    let own = t.kept.0 ∙ made.1 in
    let seen = ap (λ (v : View). v.seen) (t.kept.1 ∙ made.2) in
    let written : c.push.new.self ≡ record { cells = c.self.inside.pen.cells ++ ids_of g.row.N page; all = c.self.inside.pen.all ++ first_versions g.row.N c.args.words.now.items } = c.in_ok-push.ensures.ok
    ∙ (λ i. record { cells = c.self.inside.pen.cells ++ ids_of g.row.N (own i); all = c.self.inside.pen.all ++ seen i }) in
    let readers = ap length (with_items_is old c.tell.new.readers (count ∙ sym old.ok.0)) ∙ count in (
      ids_of g.row.N page,
      new_ids g.row.N words.0 c.requires.size _ words.1 words.2 words.3 page made.0,
      (λ i. record { written = written i; readers = readers i })
          ∙ ap (λ (o : Opened). opened_with o (ids_of g.row.N page) (first_versions g.row.N c.args.words.now.items)) c.self.view_is,
    )
