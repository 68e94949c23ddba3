-- How far a history may have taken tables.
use Rattle.std.proofs.Common.{ℕ, suc, ◌+◌, ◌-◌, ◌<◌, ◌≤◌, ◌≡◌, List, [], ◌∷◌, length, subst, arith}
use Rattle.tables.specs.Apply.{after}
use Rattle.tables.specs.Database.{Database}
use Rattle.tables.specs.WellFormed.{HasRoom}
use Rattle.tables.specs.declared.limits.TheConstants.{MAX_COMMITS}
use Rattle.tables_laws.proofs.Kept.{after-IsWellFormed, after-IsConsistent}
use Rattle.tables_laws.proofs.Reaching.{room_left, after-IsInReach}
use Rattle.book.specs.Base.{AreReached}
use Rattle.book.specs.History.{Replays, replay}
use Rattle.book.specs.declared.entry.Entry.{Entry}

one_more : (n m : ℕ) → n + 1 + m ≡ n + suc m
one_more n m = omega arith

none_more : (n : ℕ) → n ≡ n + 0
none_more n = omega arith

pub replay-AreReached : (n : ℕ) (t : Database) (es : List Entry) → n + length es ≤ MAX_COMMITS → AreReached n t → Replays (n + 1) t es
    → AreReached (n + length es) (replay t es)
replay-AreReached n t [] few here h = subst (λ k. AreReached k t) (none_more n) here
replay-AreReached n t (e ∷ es) few here h =
    let less : n < MAX_COMMITS = omega (arith, few) in
    let room : HasRoom (MAX_COMMITS - (n + 1) + 1) t = subst (λ k. HasRoom k t) (rest n less) (room_left n t (omega (arith, less)) here.reach) in
    subst (λ k. AreReached k (replay (after t e.input) es)) (one_more n (length es))
    (replay-AreReached (n + 1) (after t e.input) es (omega (arith, few)) (record {
      well_formed = after-IsWellFormed t e.input (MAX_COMMITS - (n + 1)) h.1.input h.1.commit.numbered here.well_formed here.consistent room;
      consistent = after-IsConsistent t e.input h.1.input here.well_formed here.consistent;
      reach = after-IsInReach t e.input n less h.1.input here.well_formed here.reach;
    }) h.2)
  where
    rest : (k : ℕ) → k < MAX_COMMITS → MAX_COMMITS - k ≡ MAX_COMMITS - (k + 1) + 1
    rest k q = omega (arith, q)
