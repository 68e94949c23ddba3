use Rattle.std.proofs.Common.{sym, ap, ◌∙◌}
use Rattle.board.specs.Seats.{SeatView, BoardView}
use Rattle.board.specs.Opening.{EndsWithDurable}
use Rattle.board.proofs.Loads.{ends, ends_kept, ends_seen}
use Rattle.board.proofs.board.Board.close.Goals as goal

ended : (c : goal.After-free) → EndsWithDurable c.args.self c.args.seat c.word-durable.result
ended c =
    let last = c.close_with-closed.ensures.values.2 in
    ends _ _ c.args.self c.args.seat c.word-durable.result _ last.0.words last.0.views _ _ (c.self.invariant.planned ∙ ap (λ (b : BoardView). b.plan) c.self.view_is)
    last.1.0 last.1.1 last.2 c.word-durable.ensures c.seat.view_is c.requires

pub returns-clause-kept : goal.returns-clause-kept
returns-clause-kept c = ends_kept c.args.self c.args.seat c.word-durable.result c.seat.inside.number (ended c)
    (ap (λ (s : SeatView). s.role) (sym c.seat.view_is) ∙ c.seat.invariant.0)

pub returns-clause-seen : goal.returns-clause-seen
returns-clause-seen c = ends_seen c.args.self c.args.seat c.word-durable.result (ended c)

pub returns-clause-rule : goal.returns-clause-rule
returns-clause-rule c = ended c
