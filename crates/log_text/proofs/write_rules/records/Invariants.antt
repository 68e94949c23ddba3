use Rattle.std.proofs.Common.{◌≡◌, ◌≤◌, ◌+◌, not, drop}
use Rattle.std.specs.List.{count_by}
use Rattle.log_text.specs.Writes.{is_history}
use Rattle.log_text.proofs.write_rules.records.Given as goal

abbrev pub invariant-loop-write : goal.invariant-loop-write
invariant-loop-write l = (l.records ≤ l.write-index)
    × (l.records + count_by (λ w. not (is_history w)) (drop l.write-index l.writes) ≡ count_by (λ w. not (is_history w)) l.writes)
