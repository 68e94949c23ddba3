use Rattle.std.proofs.Common.{◌≡◌, max, drop}
use Rattle.commit.specs.Machine.{worker}
use Rattle.commit.specs.Events.{greatest_locked, seen_by}
use Rattle.commit.proofs.state.State.seen_by.Given as goal

abbrev pub invariant-loop-lock : goal.invariant-loop-lock
invariant-loop-lock l = max l.greatest (greatest_locked l.self (drop l.lock-index l.lock-items)) ≡ seen_by l.self (worker l.self l.at)
