use Rattle.std.proofs.Common.{◌≡◌, drop}
use Rattle.std.specs.List.{list_all}
use Rattle.log_text.specs.Writes.{is_write}
use Rattle.log_text.proofs.write_rules.are_each.Given as goal

abbrev pub invariant-loop-write : goal.invariant-loop-write
invariant-loop-write l = list_all (is_write l.scale) l.writes ≡ list_all (is_write l.scale) (drop l.write-index l.writes)
