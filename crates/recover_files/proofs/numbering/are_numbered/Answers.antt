use Rattle.std.proofs.Common.{◌≡◌, ◌+◌, subst, sym, ◌∙◌, arith}
use Rattle.recover_found.specs.Rebuilt.{AreNumbered}
use Rattle.recover_files.proofs.Ordering.{next_entry}
use Rattle.recover_files.proofs.numbering.are_numbered.Goals as goal

pub returns-then-commit-next : goal.returns-then-commit-next
returns-then-commit-next c = λ es same. (
  (λ never. absurd (Rattle.std.proofs.Common.true≢false (sym never))),
  (λ numbers.
      let at = next_entry es c.args.commits.now c.loop-commit.commit-index c.commit-item.result same c.loop-commit-test.true c.commit-item.is in
      let left = subst (AreNumbered c.loop-commit.next) at.1 (c.loop-commit.invariant.needed es same numbers) in
      absurd (c.if-commit-next.true (sym at.2 ∙ left.0))),
)

pub loop-commit-preserved : goal.loop-commit-preserved
loop-commit-preserved c = record {
  next = omega (arith, c.loop-commit.invariant.next);
  enough = λ es same left.
      let at = next_entry es c.args.commits.now c.loop-commit.commit-index c.commit-item.result same c.loop-commit-test.true c.commit-item.is in
      c.loop-commit.invariant.enough es same (subst (AreNumbered c.loop-commit.next) (sym at.1) (at.2 ∙ c.if-commit-next.false, left));
  needed = λ es same numbers.
      let at = next_entry es c.args.commits.now c.loop-commit.commit-index c.commit-item.result same c.loop-commit-test.true c.commit-item.is in
      (subst (AreNumbered c.loop-commit.next) at.1 (c.loop-commit.invariant.needed es same numbers)).1;
}
