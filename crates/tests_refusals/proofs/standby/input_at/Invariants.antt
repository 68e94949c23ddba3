use Rattle.std.proofs.Common.{◌≡◌}
use Rattle.tests_refusals.proofs.standby.input_at.Given as goal

-- the deck's inputs are of this scale
abbrev pub invariant-loop : goal.invariant-loop
invariant-loop l = l.deck.scale ≡ l.fn.scale
