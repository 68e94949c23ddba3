use Rattle.std.proofs.Common.{◌≡◌, not, drop}
use Rattle.std.specs.List.{list_all}
use Rattle.log_text.specs.Columns.{has_text}
use Rattle.log_text.proofs.write_rules.have_no_text.Given as goal

abbrev pub invariant-loop-write : goal.invariant-loop-write
invariant-loop-write l = list_all (λ w. not (has_text w.table)) l.writes ≡ list_all (λ w. not (has_text w.table)) (drop l.write-index l.writes)
