use Rattle.std.proofs.Common.{◌≡◌, ℕ, ◌<◌, length}
use Rattle.std.specs.List.{AllByRecursion, fold}
use Rattle.tables.specs.Records.{IsNarrowKey}
use Rattle.encoding.specs.Newest.{words_at}
use Rattle.encoding.specs.Begun.{begun_by}
use Rattle.encoding.proofs.first.begin.Given as goal

-- what the entries that are left make of each version is what all make of the first
abbrev pub invariant-loop-key : goal.invariant-loop-key
invariant-loop-key g l = record {
  count : length l.first ≡ length l.initial.first;
  keys : AllByRecursion (λ (e : g.row.K.Denot × g.row.X.Denot). IsNarrowKey l.scale (g.B.Begins.record_of e.0 e.1)) l.key-iterator;
  words : (n : ℕ) → n < length l.first → fold (begun_by l.scale g.B.Begins.record_of g.B.Begins.words_of n) (words_at l.first n) l.key-iterator ≡ fold
      (begun_by l.scale g.B.Begins.record_of g.B.Begins.words_of n) (words_at l.initial.first n) l.rows.entries;
}
