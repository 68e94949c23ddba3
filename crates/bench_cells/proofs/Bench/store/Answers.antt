use Rattle.std.proofs.Common.{◌≡◌, List, ℕ, [], ap, ◌∙◌, arith}
use Rattle.std.proofs.lemmas.List.{get_or-set_other}
use Rattle.tidword.specs.TidWord.{tid_of}
use Rattle.cells.specs.Versions.{last_tid}
use Rattle.cells.specs.Records.{at}
use Rattle.cells.proofs.Records.{last_tid-writes}
use Rattle.bench_cells.proofs.Bench.store.Goals as goal

pub invariant_of-self-clause-larger : goal.invariant_of-self-clause-larger
invariant_of-self-clause-larger g c =
    let last : last_tid (at c.store.new.pen.all 0) ≡ tid_of c.new-word.result = last_tid-writes c.store.ensures in
    omega (arith, c.new-word.ensures)

pub invariant_of-self-clause-larger_wide : goal.invariant_of-self-clause-larger_wide
invariant_of-self-clause-larger_wide g c =
    let self = c.args.self.now in
    let there = self.there.0 in
    let same : last_tid (at c.store.new.pen.all self.count) ≡ last_tid (at self.pen.all self.count) =
    ap (λ (all : List (List (List ℕ))). last_tid (at all self.count)) c.store.ensures.others
    ∙ ap last_tid (get_or-set_other self.pen.all 0 self.count (at c.store.new.pen.all 0) [] (λ e. omega (arith, e, there))) in
    omega (arith, same, self.larger_wide)
