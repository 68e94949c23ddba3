use Rattle.std.proofs.Common.{◌≡◌, ◌++◌, length, map}
use Rattle.std.specs.Vec.Iter.{into_iter_items, into_iter_len}
use Rattle.tests_recorded.proofs.opening.open_logs.Given as goal

-- each file so far has its logger's pace, and the others are to come
abbrev pub invariant-loop-file : goal.invariant-loop-file
invariant-loop-file g l =
    (into_iter_len l.file-iterator ≡ length (into_iter_items l.file-iterator))
    × (map (λ log. log.inner) l.logs.items ++ into_iter_items l.file-iterator ≡ l.fn.files.items)
