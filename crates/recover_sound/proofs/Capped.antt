-- How many commits without a gap there can be.
use Rattle.std.proofs.Common.{ℕ, ◌+◌, ◌≤◌, List, [], ◌∷◌, length, arith}
use Rattle.std.specs.List.{All}
use Rattle.std.proofs.lemmas.List.Elements.{All-head, All-tail}
use Rattle.std.proofs.lemmas.List.Sorted.{length_permutation, All-permutation}
use Rattle.tables.specs.Sizes.{Sizes}
use Rattle.log_text.specs.Bodies.{BodyView}
use Rattle.log_text.specs.Entries.{EntryView}
use Rattle.recover_found.specs.Found.{found}
use Rattle.recover_found.specs.Rebuilt.{AreNumbered, HaveNoGap}
use Rattle.recover_files.specs.Files.{AreFiles}
use Rattle.recover_files.proofs.LawfulEntries.{IsWithinCap}
use Rattle.recover_files.proofs.Found.{found_within_cap}

-- entries with the numbers from n on, none of them above the cap
numbered_within : (cap n : ℕ) (es : List EntryView) → n ≤ cap + 1 → AreNumbered n es → All (IsWithinCap cap) es
    → n + length es ≤ cap + 1
numbered_within cap n [] low numbers all = omega (arith, low)
numbered_within cap n (e ∷ es) low numbers all =
    let capped : e.number ≤ cap = All-head (IsWithinCap cap) e es all in
    let others : All (IsWithinCap cap) es = All-tail (IsWithinCap cap) e es all in
    let rest : n + 1 + length es ≤ cap + 1
    = numbered_within cap (n + 1) es (omega (arith, capped, numbers.0)) numbers.1 others in
    omega (arith, rest)

pub commits_within_cap : (s : Sizes) (seed : ℕ) (strings : List (List ℕ)) (files : List (List BodyView))
    → AreFiles s seed strings files → HaveNoGap (found files) → length (found files) ≤ s.commits
commits_within_cap s seed strings files are (commits, order) =
    let each : All (IsWithinCap s.commits) (found files) = found_within_cap s seed strings files are in
    let all : All (IsWithinCap s.commits) commits
    = All-permutation (IsWithinCap s.commits) (found files) commits order.same each in
    let within : 1 + length commits ≤ s.commits + 1
    = numbered_within s.commits 1 commits (omega arith) order.numbers all in
    omega (arith, within, length_permutation (found files) commits order.same)
