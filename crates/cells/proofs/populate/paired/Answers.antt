use Rattle.std.proofs.Common.{◌≡◌, [], ◌∷◌, All, Some, length, length-append, sym, ap, ◌∙◌, subst, arith}
use Rattle.std.proofs.lemmas.List.Elements.{All-pop, All-push}
use Rattle.cells_holders.specs.Records.{PagesReader}
use Rattle.cells.specs.Records.{ReaderView, both_pens, both_readers, seen_all}
use Rattle.cells.proofs.Halves.{both_seen_all}
use Rattle.cells.proofs.populate.paired.Goals as goal

pub loop-reader-preserved : goal.loop-reader-preserved
loop-reader-preserved c =
    let was = c.loop-reader.invariant in
    let narrow = c.in-Some.ensures.items in
    let wide = c.in-Some-pop.ensures.items in
    let pushed = c.in_ok-push.ensures.items in
    let narrow_count = ap length narrow ∙ length-append c.pop.new.self.items (c.in-Some.reader ∷ []) in
    let wide_count = ap length wide ∙ length-append c.pop-in-Some.new.self.items (c.in-Some-pop.wide ∷ []) in
    let count = ap length pushed ∙ length-append c.loop-reader.readers.items (c.of.result ∷ []) in
    record {
      same = omega (arith, was.same, narrow_count, wide_count);
      count = omega (arith, was.count, narrow_count, count);
      seen = λ a b narrow_seen wide_seen.
          let seen = was.seen a b narrow_seen wide_seen in
          let last = All-pop (λ (r : PagesReader). r ≡ seen_all a) c.loop-reader.narrow.items c.pop.new.self.items (Some c.in-Some.reader) narrow seen.0 in
          let last_wide = All-pop (λ (r : PagesReader). r ≡ seen_all b) c.loop-reader.wide.items c.pop-in-Some.new.self.items (Some c.in-Some-pop.wide) wide seen.1 in (
            last.0,
            last_wide.0,
            subst (All (λ (r : ReaderView). r ≡ seen_all (both_pens a b))) (sym pushed)
                (All-push (λ (r : ReaderView). r ≡ seen_all (both_pens a b)) c.loop-reader.readers.items c.of.result seen.2
                (c.of.ensures ∙ (λ i. both_readers (last.1 i) (last_wide.1 i)) ∙ both_seen_all a b)),
          );
    }

pub returns-clause-seen : goal.returns-clause-seen
returns-clause-seen c = λ a b narrow_seen wide_seen. (c.loop-reader.invariant.seen a b narrow_seen wide_seen).2
