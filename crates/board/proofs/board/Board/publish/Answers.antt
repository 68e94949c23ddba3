use Rattle.std.proofs.Common.{◌≡◌, ℕ, ◌<◌, List, sym, ap, ◌∙◌, subst}
use Rattle.board.specs.declared.rule.Plan.{Plan}
use Rattle.board.specs.declared.rule.View.{View}
use Rattle.board.specs.declared.rule.WordStep.{WordStep}
use Rattle.board.specs.Steps.{AllStand, stored_mark}
use Rattle.board.specs.Seats.{SeatView, BoardView}
use Rattle.board.specs.Publishing.{with_loads}
use Rattle.board.proofs.Loads.{up_to_marks, still_stored}
use Rattle.board.proofs.board.Board.publish.Goals as goal

pub raise_durable-requires-clause-below : goal.raise_durable-requires-clause-below
raise_durable-requires-clause-below c words stand l within =
    let loads = c.least_mark-least.ensures.loads in
    let steps : c.seat.inside.seat.me.0.steps ≡ with_loads loads.0 c.args.seat.now.steps = ap (λ (s : SeatView). s.steps) c.seat.view_is ∙ loads.3 in
    let all = subst (λ (l : List WordStep). AllStand words l) steps stand in
    let plan : c.seat.inside.seat.me.0.plan ≡ c.args.self.now.plan
    = ap (λ (s : SeatView). s.board.plan) c.seat.view_is ∙ ap (λ (b : BoardView). b.plan) (c.least_mark-least.ensures.same.0 ∙ c.requires) in
    up_to_marks words c.least_mark-least.result loads.0 c.args.seat.now.steps all loads.2.below l
    (subst (λ (n : ℕ). l < n) (ap (λ (p : Plan). p.loggers) plan ∙ sym loads.1) within)

pub returns-clause-local : goal.returns-clause-local
returns-clause-local c =
    let loads = c.least_mark-least.ensures.loads in
    let steps : c.seat.inside.seat.me.0.steps ≡ with_loads loads.0 c.args.seat.now.steps = ap (λ (s : SeatView). s.steps) c.seat.view_is ∙ loads.3 in
    ap (λ (v : View). stored_mark c.args.self.now.plan.base v.steps) c.raise_durable.ensures.told
    ∙ (ap (stored_mark c.args.self.now.plan.base) steps ∙ still_stored c.args.self.now.plan.base loads.0 c.args.seat.now.steps)
