use Rattle.std.proofs.Common.{◌≡◌, ◌≤◌, ◌^◌, drop}
use Rattle.log_text.specs.Writes.{rise_from}
use Rattle.log_text.proofs.write_rules.do_rise.Given as goal

abbrev pub invariant-loop-write : goal.invariant-loop-write
invariant-loop-write l = (l.least ≤ 2 ^ 36) × (rise_from 0 l.writes ≡ rise_from l.least (drop l.write-index l.writes))
