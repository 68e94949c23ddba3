use Rattle.std.proofs.Common.{◌≡◌, ℕ, ◌+◌, ◌-◌, ◌≤◌, List, length, take, drop, length-drop}
use Rattle.std.proofs.Common.{sym, ap, subst, ◌∙◌}
use Rattle.std.specs.List.{prefix_len}
use Rattle.std.specs.Vec.{vec_capacity}
use Rattle.std.proofs.Math.Seq.{take-length}
use Rattle.board.specs.Seats.{BoardView, SeatView}
use Rattle.board.specs.Steps.{seen_durable}
use Rattle.book.specs.Done.{Done}
use Rattle.terminals.specs.Outbox.{OutboxView, Acknowledges, is_up_to}
use Rattle.terminals.proofs.Releasing.{front_released, outbox_of}
use Rattle.terminals.proofs.outbox.Outbox.acknowledge.Goals as goal

-- what a range to the end has
to_end : (place : ℕ) (held : List Done) → take (length held - place) (drop place held) ≡ drop place held
to_end place held =
    ap (λ (n : ℕ). take n (drop place held)) (sym (length-drop place held)) ∙ take-length (drop place held)

pub returns : goal.returns
returns c =
    let released = c.self.inside.released in
    let held = c.self.inside.held in
    let durable = c.durable-durable.result in
    let room : ℕ = vec_capacity held - length held.items in
    let slice : List Done = c.deref.result.now in
    let waiting : take (length slice - released) (drop released slice) ≡ drop released held.items
    = to_end released slice ∙ ap (λ (some : List Done). drop released some) c.deref.ensures.value in
    let seat : SeatView = c.self.inside.seat in
    let now : SeatView = c.durable-durable.new.seat in
    let board : seat.board ≡ c.args.board.now
    = ap (λ (o : OutboxView). o.seat.board) c.self.view_is ∙ c.requires in
    let later : seen_durable seat.board.plan.base seat.steps ≤ durable
    = subst (λ (b : BoardView). seen_durable b.plan.base seat.steps ≤ durable) (sym board)
    c.durable-durable.ensures.later in
    let count : ℕ = c.front-count.result in
    subst (λ (old : OutboxView). Acknowledges old count (outbox_of now held.items (released + count) room))
    c.self.view_is
    (front_released seat now durable held.items released room count c.durable-durable.ensures.step later
    (sym (c.front-count.ensures.count ∙ ap (λ (some : List Done). prefix_len (is_up_to durable) some) waiting)))
