-- Where a restart gives up epochs, their void body may follow in every file.
use Rattle.std.proofs.Common.{◌≡◌, ℕ, ◌+◌, ◌<◌, ◌≤◌, Some, List, arith}
use Rattle.std.proofs.lemmas.List.Elements.{All-weaker}
use Rattle.board.specs.Words.{last_epoch}
use Rattle.log_header.specs.Header.{HeaderView}
use Rattle.log_text.specs.Bodies.{BodyView, Void, marked, body_after, bodies_after, start}
use Rattle.log_text.specs.declared.last.Last.{Last}
use Rattle.recover_found.specs.Found.{entries_of}
use Rattle.recover_crashes.specs.Recovering.{IsDurable}
use Rattle.recover_lives.specs.Events.{IsTop}
use Rattle.recover_lives.proofs.Voids.{last_bound, void_follows}
use Rattle.recover_opening.proofs.Falls.{IsUpToEpoch}

-- the durable epoch is one of the marks
pub durable_low : (loggers : ℕ) (files : ℕ → List BodyView) (durable top : ℕ) → IsDurable loggers files durable → IsTop loggers files top
    → durable ≤ top
durable_low loggers files durable top is_durable is_top =
    omega (arith, is_durable.among.2, is_top.marks is_durable.among.0 is_durable.among.1)

-- where a file stands, epochs are no later than the top, where that is at least 1
pub epoch_low : (h : HeaderView) (loggers : ℕ) (files : ℕ → List BodyView) (top l : ℕ) (last : Last) → IsTop loggers files top → l < loggers
    → bodies_after h start (files l) ≡ Some last → 0 < top → last.epoch ≤ top
epoch_low h loggers files top l last is_top within lawful some =
    last_bound h start (files l) last top lawful (omega (arith, some)) (is_top.entries l within)

pub epoch_near : (h : HeaderView) (loggers : ℕ) (files : ℕ → List BodyView) (top l : ℕ) (last : Last) → IsTop loggers files top → l < loggers
    → bodies_after h start (files l) ≡ Some last → last.epoch ≤ top + 1
epoch_near h loggers files top l last is_top within lawful =
    last_bound h start (files l) last (top + 1) lawful (omega arith)
    (All-weaker (IsUpToEpoch top) (IsUpToEpoch (top + 1)) (λ e low. omega (arith, low)) (entries_of (files l)) (is_top.entries l within))

-- all epochs between the durable one and the top may be declared void where a file stands
pub void_may_follow : (h : HeaderView) (loggers : ℕ) (files : ℕ → List BodyView) (durable top l : ℕ) (last : Last) → IsTop loggers files top
    → durable < top → top < last_epoch → l < loggers → bodies_after h start (files l) ≡ Some last
    → (body_after h last (Void (durable + 1) top) ≡ Some (marked top last)) × (last.epoch ≤ top + 1)
void_may_follow h loggers files durable top l last is_top more room within lawful = (
  void_follows h (files l) last durable top lawful more room (is_top.marks l within)
      (epoch_low h loggers files top l last is_top within lawful (omega (arith, more))),
  epoch_near h loggers files top l last is_top within lawful,
)
