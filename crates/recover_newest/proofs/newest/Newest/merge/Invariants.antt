use Rattle.std.proofs.Common.{◌≡◌, ◌<◌, ◌≤◌, ℕ, length}
use Rattle.recover_newest.specs.Latest.{joined}
use Rattle.recover_newest.specs.Known.{known}
use Rattle.recover_newest.proofs.newest.Newest.merge.Given as goal

-- the records below this one are merged, and the others as they were
abbrev pub invariant-loop-number : goal.invariant-loop-number
invariant-loop-number l = record {
  records : length l.self.places ≡ length l.fn.self.places;
  merged : (n : ℕ) → n < l.number → known l.self n ≡ joined (known l.fn.self n) (known l.fn.other n);
  left : (n : ℕ) → l.number ≤ n → known l.self n ≡ known l.fn.self n;
  others : length l.rest.places ≡ length l.fn.other.places;
  untaken : (n : ℕ) → l.number ≤ n → known l.rest n ≡ known l.fn.other n;
}
