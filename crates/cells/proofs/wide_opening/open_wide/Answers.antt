use Rattle.std.proofs.Common.{◌≡◌, ◌++◌, ◌+◌, List, Vec, Global, length, sym, ap, ◌∙◌, subst, arith}
use Rattle.std.specs.List.{flat_map}
use Rattle.std.specs.Vec.Iter.{into_iter_items}
use Rattle.cells.specs.declared.wide.WideNewest.{WideNewest}
use Rattle.cells.specs.Records.{wide_newest_words}
use Rattle.cells.specs.First.{wide_firsts}
use Rattle.cells_holders.specs.Opening.{Opened, AreFull, opened_with}
use Rattle.cells.proofs.Spent.{some_left, paged_on, cells_on, versions_on, full_on}
use Rattle.cells.proofs.wide_opening.open_wide.Goals as goal

abbrev versions : Vec WideNewest Global → List WideNewest
versions page = page.items

pub loop-page-preserved : goal.loop-page-preserved
loop-page-preserved c =
    let i = c.loop-page.invariant in
    let page = c.in-Some.page in
    let rest = into_iter_items c.next.new.self in
    let left = into_iter_items c.loop-page.page-iterator in
    let is = c.in-Some.ensures.steps.0 in
    let w = c.loop-page.opening.written in
    let laid = c.in_ok-lay_wide_page.ensures.ok in
    let made = c.in_ok-opening-2.ensures.ok in
    let count = made.1 ∙ ap length laid in
    let opened = made.2 ∙ ap (opened_with c.loop-page.opening made.0) laid in
    let wide = c.args.wide in
    record {
      count = omega (arith, c.in-Some.ensures.steps.1, i.count, ap length is);
      cells = subst (λ (o : Opened). length o.written.cells + length (flat_map versions rest) ≡ length wide) (sym opened)
          (cells_on versions wide_newest_words page rest left is i.paged w made.0 count wide i.cells);
      all = subst (λ (o : Opened). o.written.all ++ wide_firsts (flat_map versions rest) ≡ wide_firsts wide) (sym opened)
          (versions_on versions wide_newest_words page rest left is i.paged w made.0 count wide i.all);
      readers = ap (λ (o : Opened). o.readers) opened ∙ i.readers;
      paged = paged_on versions wide_newest_words page rest left is i.paged;
      full = λ some. subst (λ (o : Opened). AreFull o.written.cells) (sym opened)
          (full_on versions wide_newest_words page rest left is i.paged w made.0 count (i.full (some_left versions wide_newest_words page rest left is i.paged)) some);
    }
