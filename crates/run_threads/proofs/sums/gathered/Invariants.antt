use Rattle.std.proofs.Common.{◌≡◌, length, map, sum_by, vec_capacity}
use Rattle.book.specs.Share.{parts_of, share_commits}
use Rattle.run_threads.specs.Tally.{commits_in}
use Rattle.run_threads.proofs.sums.gathered.Given as goal

-- what came of the terminals so far, in their order, their decks, and their shares, which have as many commits; and the
-- room is as before
abbrev pub invariant-loop-worker : goal.invariant-loop-worker
invariant-loop-worker g l = record {
  tallies : l.tallies.items ≡ map (λ worker. worker.tally) l.yielded;
  decks : l.decks.items ≡ map (λ worker. worker.terminal.deck) l.yielded;
  shares : length l.shares.items ≡ length l.yielded;
  parts : sum_by parts_of l.shares.items ≡ length l.yielded;
  commits : sum_by share_commits l.shares.items ≡ sum_by commits_in l.tallies.items;
  room_for_tallies : vec_capacity l.tallies ≡ vec_capacity l.fn.tallies;
  room_for_shares : vec_capacity l.shares ≡ vec_capacity l.fn.shares;
  room_for_decks : vec_capacity l.decks ≡ vec_capacity l.fn.decks;
}
