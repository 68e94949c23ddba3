use Rattle.std.proofs.Common.{◌≡◌, ◌≢◌, ◌+◌, ℕ, ap, ◌∙◌, arith}
use Rattle.tidword.specs.TidWord.{tid_of}
use Rattle.cells.specs.Versions.{last_tid}
use Rattle.cells.specs.Records.{at}
use Rattle.cells.proofs.Records.{last_tid-writes, other_stays}
use Rattle.tests_cells.proofs.page_tests.store_turns.Goals as goal

wide_is_other : (n : ℕ) → 4098 + n ≢ n
wide_is_other n e = omega (arith, e)

narrow_is_other : (n : ℕ) → n ≢ 4098 + n
narrow_is_other n e = omega (arith, e)

pub store_wide-requires-clause-larger : goal.store_wide-requires-clause-larger
store_wide-requires-clause-larger g c =
    let n = c.args.stored in
    let was : last_tid (at c.store.new.pen.all (4098 + n)) ≡ last_tid (at c.loop-turn.pen.all (4098 + n)) =
    ap last_tid (other_stays c.store.ensures (4098 + n) (wide_is_other n)) in
    omega (arith, was, c.loop-turn.invariant.2, c.wide_of-wide.ensures.word)

pub loop-turn-preserved : goal.loop-turn-preserved
loop-turn-preserved g c =
    let n = c.args.stored in
    let narrow : last_tid (at c.store_wide.new.pen.all n) ≡ last_tid (at c.store.new.pen.all n) =
    ap last_tid (other_stays c.store_wide.ensures n (narrow_is_other n)) in
    let last : last_tid (at c.store.new.pen.all n) ≡ tid_of c.version_of-version.result.word = last_tid-writes c.store.ensures in
    let wide : last_tid (at c.store_wide.new.pen.all (4098 + n)) ≡ tid_of c.wide_of-wide.result.word = last_tid-writes c.store_wide.ensures in (
      c.store_wide.ensures.cells ∙ c.store.ensures.cells ∙ c.loop-turn.invariant.0,
      omega (arith, narrow, last, c.version_of-version.ensures.word),
      omega (arith, wide, c.wide_of-wide.ensures.word),
    )
