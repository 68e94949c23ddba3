-- A logger's seat once it has stored a mark and published.
use Rattle.std.proofs.Common.{◌≡◌, ℕ, ◌≤◌, sym, ap, subst, ◌∙◌}
use Rattle.std.proofs.Math.Nat.{le_refl}
use Rattle.board.specs.declared.rule.Role.{Role}
use Rattle.board.specs.declared.rule.WordStep.TheVariants.{StoreMark}
use Rattle.board.specs.Seats.{BoardView, SeatView, noted, logger_number}
use Rattle.board.specs.Steps.{stored_mark}
use Rattle.board.specs.Publishing.{Publishes}
use Rattle.log_header.specs.Header.{HeaderView}
use Rattle.logger.specs.Logger.{IsLoggerOf, MarksAndPublishes, local_mark}

-- it has marked and published for the file whose logger it is
pub marks_and_publishes : (h : HeaderView) (board : BoardView) (seat marked now : SeatView) (before mark least : ℕ)
    → IsLoggerOf h before seat → seat.board ≡ board → marked ≡ noted seat (StoreMark (logger_number seat.role) mark)
    → Publishes board.plan.loggers marked least now → MarksAndPublishes h mark seat least now
marks_and_publishes h board seat marked now before mark least is own stored published =
    let named : noted seat (StoreMark (logger_number seat.role) mark) ≡ noted seat (StoreMark h.logger mark)
    = ap (λ (role : Role). noted seat (StoreMark (logger_number role) mark)) is.role in
    let loggers : board.plan.loggers ≡ h.loggers
    = sym (ap (λ (b : BoardView). b.plan.loggers) own) ∙ is.loggers in
    subst (λ (n : ℕ). Publishes n (noted seat (StoreMark h.logger mark)) least now) loggers
    (subst (λ (s : SeatView). Publishes board.plan.loggers s least now) (stored ∙ named) published)

-- and is that logger's again
pub is_logger_again : (h : HeaderView) (board : BoardView) (seat marked now : SeatView) (before mark least : ℕ)
    → IsLoggerOf h before seat → seat.board ≡ board → marked ≡ noted seat (StoreMark (logger_number seat.role) mark)
    → Publishes board.plan.loggers marked least now
    → stored_mark board.plan.base now.steps ≡ stored_mark board.plan.base marked.steps
    → IsLoggerOf h mark now
is_logger_again h board seat marked now before mark least is own stored published local =
    let same : now.board ≡ seat.board = published.same.0 ∙ ap (λ (s : SeatView). s.board) stored in
    let is_mark : local_mark now ≡ mark
    = ap (λ (b : BoardView). stored_mark b.plan.base now.steps) (same ∙ own)
    ∙ (local ∙ ap (λ (s : SeatView). stored_mark board.plan.base s.steps) stored) in
    record {
      role = published.same.1 ∙ ap (λ (s : SeatView). s.role) stored ∙ is.role;
      loggers = ap (λ (b : BoardView). b.plan.loggers) same ∙ is.loggers;
      local = subst (λ (n : ℕ). n ≤ mark) (sym is_mark) (le_refl mark);
    }
