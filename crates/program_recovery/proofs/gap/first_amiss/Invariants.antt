use Rattle.std.proofs.Common.{◌≡◌, ◌+◌, List, map, take}
use Rattle.log_text.specs.Entries.{EntryView}
use Rattle.recover_found.specs.Rebuilt.{AreNumbered}
use Rattle.recover_files.specs.Parts.{commit_of}
use Rattle.program_recovery.proofs.gap.first_amiss.Given as goal

-- so far the commits have the numbers 1, 2, 3 and so on
abbrev pub invariant-loop-commit : goal.invariant-loop-commit
invariant-loop-commit l = record {
  next : l.next ≡ l.commit-index + 1;
  numbers : (es : List EntryView) → l.commits ≡ map commit_of es → AreNumbered 1 (take l.commit-index es);
}
