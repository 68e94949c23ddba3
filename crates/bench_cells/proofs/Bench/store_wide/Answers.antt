use Rattle.std.proofs.Common.{◌≡◌, List, ℕ, [], ap, ◌∙◌, arith}
use Rattle.std.proofs.lemmas.List.{get_or-set_other}
use Rattle.tidword.specs.TidWord.{tid_of}
use Rattle.cells.specs.Versions.{last_tid}
use Rattle.cells.specs.Records.{at}
use Rattle.cells.proofs.Records.{last_tid-writes}
use Rattle.bench_cells.proofs.Bench.store_wide.Goals as goal

pub invariant_of-self : goal.invariant_of-self
invariant_of-self g c =
    let self = c.args.self.now in
    let there = self.there.0 in
    let last : last_tid (at c.store_wide.new.pen.all self.count) ≡ tid_of c.new-word.result = last_tid-writes c.store_wide.ensures in
    let same : last_tid (at c.store_wide.new.pen.all 0) ≡ last_tid (at self.pen.all 0) =
    ap (λ (all : List (List (List ℕ))). last_tid (at all 0)) c.store_wide.ensures.others
    ∙ ap last_tid (get_or-set_other self.pen.all self.count 0 (at c.store_wide.new.pen.all self.count) [] (λ e. omega (arith, e, there))) in
    record {
      counted = self.counted;
      own = (c.store_wide.ensures.cells ∙ self.own.0, self.own.1);
      there = self.there;
      larger = omega (arith, same, self.larger);
      larger_wide = omega (arith, last, c.new-word.ensures);
    }
