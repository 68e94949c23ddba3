-- Replies in one list, of which the released ones are in front.
use Rattle.std.proofs.Common.{◌≡◌, ℕ, ◌+◌, ◌≤◌, List, ◌++◌, take, drop, sym, ap, ◌∙◌}
use Rattle.std.specs.List.{prefix_len}
use Rattle.std.proofs.Math.Seq.{take-add}
use Rattle.std.proofs.lemmas.List.{take-append-drop, drop-drop}
use Rattle.std.proofs.lemmas.List.Folds.{length-prefix_len}
use Rattle.board.specs.declared.rule.WordStep.TheVariants.{LoadDurable}
use Rattle.board.specs.Seats.{SeatView, noted}
use Rattle.board.specs.Steps.{seen_durable}
use Rattle.book.specs.Done.{Done}
use Rattle.terminals.specs.Outbox.{OutboxView, Acknowledges, is_up_to, front}

-- an outbox of which so many are released
abbrev pub outbox_of : SeatView → List Done → ℕ → ℕ → OutboxView
outbox_of seat held released room = record {
  seat = seat;
  released = take released held;
  waiting = drop released held;
  room = room;
}

-- once those of the front behind them are released too
pub front_released : (seat now : SeatView) (durable : ℕ) (held : List Done) (released room count : ℕ)
    → now ≡ noted seat (LoadDurable durable)
    → seen_durable seat.board.plan.base seat.steps ≤ durable
    → prefix_len (is_up_to durable) (drop released held) ≡ count
    → Acknowledges (outbox_of seat held released room) count (outbox_of now held (released + count) room)
front_released seat now durable held released room count load later counted =
    let waiting : List Done = drop released held in
    let fronts : front durable waiting ≡ take count waiting = ap (λ (n : ℕ). take n waiting) counted in
    record {
      durable = durable;
      load = load;
      later = later;
      count_is = sym (length-prefix_len (is_up_to durable) waiting ∙ counted);
      released = take-add released count held ∙ ap (λ (some : List Done). take released held ++ some) (sym fronts);
      rest =
          sym (take-append-drop count waiting)
          ∙ ap (λ (rest : List Done). take count waiting ++ rest) (drop-drop count released held)
          ∙ ap (λ (some : List Done). some ++ drop (released + count) held) (sym fronts);
      room = λ _. room;
    }
