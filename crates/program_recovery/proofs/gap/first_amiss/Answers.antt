use Rattle.std.proofs.Common.{◌≤◌, arith, subst, sym}
use Rattle.recover_files.specs.declared.numbering.Commit.{Commit}
use Rattle.program_recovery.proofs.Numbering.{missing_at, numbered_on, twice_at}
use Rattle.program_recovery.proofs.gap.first_amiss.Goals as goal

pub returns-then-commit-next : goal.returns-then-commit-next
returns-then-commit-next c = λ es same.
    missing_at es c.args.commits.now c.loop-commit.commit-index c.commit-item.result same c.loop-commit-test.true c.commit-item.is c.requires.sorted
    (c.loop-commit.invariant.numbers es same) c.loop-commit.next c.loop-commit.invariant.next c.if-commit-next.true

pub returns-then-commit-next-2 : goal.returns-then-commit-next-2
returns-then-commit-next-2 c = λ es same.
    let positive : 1 ≤ c.commit-item.result.number =
    subst (λ (e : Commit). 1 ≤ e.number) (sym c.commit-item.is) (c.requires.positive c.loop-commit.commit-index c.commit-item.result c.loop-commit-test.true) in
    twice_at es c.args.commits.now c.loop-commit.commit-index c.commit-item.result same c.loop-commit-test.true c.commit-item.is c.requires.sorted
    (c.loop-commit.invariant.numbers es same) positive (omega arith)

pub loop-commit-preserved : goal.loop-commit-preserved
loop-commit-preserved c = record {
  next = omega arith;
  numbers = λ es same.
      numbered_on es c.args.commits.now c.loop-commit.commit-index c.commit-item.result same c.loop-commit-test.true c.commit-item.is c.requires.sorted
      (c.loop-commit.invariant.numbers es same) (omega arith);
}
