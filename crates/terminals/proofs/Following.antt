-- What comes of an input behind tries that came to nothing.
use Rattle.std.proofs.Common.{ℕ, Result, Ok, Err, OnErr, ◌∙◌, arith}
use Rattle.money.specs.declared.refusal.Refusal.{Refusal}
use Rattle.terminals.specs.Terminal.{TerminalView, HasRefused}
use Rattle.terminals.specs.Tries.{IsAgain}

-- nothing more
refused_behind : (old between new : TerminalView) → HasRefused old between → HasRefused between new → HasRefused old new
refused_behind old between new before last = record {
  share = last.share ∙ before.share;
  outbox = record {
    seat = last.outbox.seat ∙ before.outbox.seat;
    released = last.outbox.released ∙ before.outbox.released;
    waiting = last.outbox.waiting ∙ before.outbox.waiting;
    room = omega (arith, last.outbox.room, before.outbox.room);
  };
}

pub refused_again : (old between new : TerminalView) (r : Result ℕ Refusal) → IsAgain r → HasRefused old between → OnErr r (HasRefused between new)
    → HasRefused old new
refused_again old between new (Ok number) again before last = absurd again
refused_again old between new (Err refusal) again before last = refused_behind old between new before last
