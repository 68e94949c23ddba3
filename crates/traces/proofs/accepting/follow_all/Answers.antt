use Rattle.std.proofs.Common.{◌≡◌, [], drop, refl, subst, arith}
use Rattle.std.proofs.lemmas.List.{drop_all}
use Rattle.traces.proofs.Turns.{Leads, goes_on_at, stops_at, ends}
use Rattle.traces.proofs.accepting.follow_all.Goals as goal

pub returns-then-not-branch : goal.returns-then-not-branch
returns-then-not-branch c = λ life w of h.
    stops_at c.args.trace.now life w c.args.steps.now c.loop-step.follower c.follow.new.self _ c.loop-step.step-index _ c.in_ok-follow.field-0 of
    c.in_ok-follow.ensures c.if-not-branch.true c.loop-step-test.true refl (c.loop-step.invariant life w of h)

pub loop-step-preserved : goal.loop-step-preserved
loop-step-preserved c = λ life w of h.
    goes_on_at c.args.trace.now life w c.args.steps.now c.loop-step.follower c.follow.new.self _ c.loop-step.step-index _ c.in_ok-follow.field-0 of
    c.in_ok-follow.ensures c.if-not-branch.false c.loop-step-test.true refl (c.loop-step.invariant life w of h)

pub returns : goal.returns
returns c = λ life w of h.
    let none : drop c.loop-step.step-index c.args.steps.now ≡ [] = drop_all c.loop-step.step-index c.args.steps.now (omega (arith, c.loop-step-test.false)) in
    ends c.args.trace.now life w c.args.steps.now c.loop-step.follower
    (subst (Leads c.args.trace.now life w c.args.steps.now c.loop-step.follower) none (c.loop-step.invariant life w of h))
