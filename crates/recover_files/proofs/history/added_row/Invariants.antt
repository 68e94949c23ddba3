use Rattle.std.proofs.Common.{◌≡◌, take, []}
use Rattle.std.specs.Prelude.{flat_map}
use Rattle.recover_found.specs.Rebuilt.{rows_in}
use Rattle.recover_files.proofs.history.added_row.Given as goal

-- no write so far adds a row
abbrev pub invariant-loop-write : goal.invariant-loop-write
invariant-loop-write l = flat_map (λ w. rows_in w.table w.value) (take l.write-index l.writes) ≡ []
