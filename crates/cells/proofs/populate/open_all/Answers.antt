use Rattle.std.proofs.Common.{◌≡◌, ◌++◌, ◌+◌, List, length, sym, ap, ◌∙◌, subst, arith}
use Rattle.std.specs.Vec.Iter.{into_iter_items}
use Rattle.cells.specs.First.{firsts}
use Rattle.cells_holders.specs.Opening.{Opened, AreFull}
use Rattle.cells.specs.Records.{newest_words}
use Rattle.cells.specs.declared.cells.Newest.{Newest}
use Rattle.cells.proofs.FirstPaged.{joined}
use Rattle.cells.proofs.Spent.{some_left, paged_on, cells_on, versions_on, full_on}
use Rattle.cells.proofs.populate.open_all.Goals as goal

abbrev versions : List Newest → List Newest
versions page = page

pub loop-page-preserved : goal.loop-page-preserved
loop-page-preserved c =
    let i = c.loop-page.invariant in
    let page = c.in-Some.page in
    let rest = into_iter_items c.next.new.self in
    let left = into_iter_items c.loop-page.page-iterator in
    let is = c.in-Some.ensures.steps.0 in
    let w = c.loop-page.opening.written in
    let made = c.in_ok-opening-2.ensures.ok in
    let first = c.args.first in
    record {
      count = omega (arith, c.in-Some.ensures.steps.1, i.count, ap length is);
      cells = subst (λ (o : Opened). length o.written.cells + length (joined rest) ≡ length first) (sym made.2)
          (cells_on versions newest_words page rest left is i.paged w made.0 made.1 first i.cells);
      all = subst (λ (o : Opened). o.written.all ++ firsts (joined rest) ≡ firsts first) (sym made.2)
          (versions_on versions newest_words page rest left is i.paged w made.0 made.1 first i.all);
      readers = ap (λ (o : Opened). o.readers) made.2 ∙ i.readers;
      paged = paged_on versions newest_words page rest left is i.paged;
      full = λ some. subst (λ (o : Opened). AreFull o.written.cells) (sym made.2)
          (full_on versions newest_words page rest left is i.paged w made.0 made.1 (i.full (some_left versions newest_words page rest left is i.paged)) some);
    }
