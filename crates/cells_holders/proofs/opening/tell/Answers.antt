use Rattle.std.proofs.Common.{set, sym, ap, ◌∙◌, arith}
use Rattle.std.proofs.lemmas.List.Edits.{map_over_more}
use Rattle.cells_pages.specs.declared.rule.View.{View}
use Rattle.cells_holders.specs.Records.{PagesReader}
use Rattle.cells_pages.specs.Plays.{starting}
use Rattle.cells_holders.specs.Pages.{ids_of, sights_and}
use Rattle.cells_holders.specs.Opening.{sights_with}
use Rattle.cells_holders.proofs.Told.{sights_started}
use Rattle.cells_holders.proofs.opening.tell.Goals as goal

pub loop-reader-preserved : goal.loop-reader-preserved
loop-reader-preserved g c =
    let kept = c.start.ensures.kept in
    let given = c.start.ensures.started in
    let i = c.loop-reader.invariant in
    let n = c.loop-reader.reader-index in
    let items = c.loop-reader.reader-items in
    let pen = c.args.pen.now in
    let item = c.reader-item.result in
    let told = sights_started g.row.N item c.start.result pen.table_id pen.me.0 (given.0 ∙ i.own) (given.1 ∙ ap (λ (v : View). starting v) i.view) in
    record {
      own = kept.0 ∙ i.own;
      view = kept.1 ∙ i.view;
      readers =
          ap (set items n) (c.in_ok-push.ensures.ok ∙ ap (λ (s : PagesReader). sights_and g.row.N s c.start.result) (sym c.reader-item.is) ∙ told)
          ∙ map_over_more (λ (s : PagesReader). sights_with s (ids_of g.row.N pen.table_id) pen.me.0.seen) c.args.readers.now items n item (omega arith) i.readers
          c.reader-item.is;
    }
