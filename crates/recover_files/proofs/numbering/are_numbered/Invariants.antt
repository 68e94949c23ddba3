use Rattle.std.proofs.Common.{◌≡◌, ◌+◌, List, drop, map}
use Rattle.log_text.specs.Entries.{EntryView}
use Rattle.recover_found.specs.Rebuilt.{AreNumbered}
use Rattle.recover_files.specs.Parts.{commit_of}
use Rattle.recover_files.proofs.numbering.are_numbered.Given as goal

-- all are numbered where what is left is
abbrev pub invariant-loop-commit : goal.invariant-loop-commit
invariant-loop-commit l = record {
  next : l.next ≡ l.commit-index + 1;
  enough : (es : List EntryView) → l.commits ≡ map commit_of es → AreNumbered l.next (drop l.commit-index es) → AreNumbered 1 es;
  needed : (es : List EntryView) → l.commits ≡ map commit_of es → AreNumbered 1 es → AreNumbered l.next (drop l.commit-index es);
}
