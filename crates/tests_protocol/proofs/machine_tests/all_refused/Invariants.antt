use Rattle.std.proofs.Common.{◌≡◌, length}
use Rattle.tests_protocol.proofs.machine_tests.all_refused.Given as goal

abbrev pub invariant-loop-event : goal.invariant-loop-event
invariant-loop-event l = (length l.state.records ≡ 2) × (length l.state.workers ≡ 2)
