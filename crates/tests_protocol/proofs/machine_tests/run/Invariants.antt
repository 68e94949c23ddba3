use Rattle.std.proofs.Common.{◌≡◌, length}
use Rattle.tests_protocol.proofs.machine_tests.run.Given as goal

abbrev pub invariant-loop-event : goal.invariant-loop-event
invariant-loop-event l = (length l.state.records ≡ length l.fn.state.records) × (length l.state.workers ≡ length l.fn.state.workers)
