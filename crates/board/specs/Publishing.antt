-- A publication (Silo, section 4.10): the local mark of each logger is loaded, and D is raised to the least of them.
use Rattle.std.specs.Prelude.{◌≡◌, ℕ, ◌≤◌, List, [], ◌∷◌, length}
use Rattle.std.specs.List.{All, Contains}
use Rattle.board.specs.declared.rule.WordStep.{WordStep}
use Rattle.board.specs.declared.rule.WordStep.TheVariants.{LoadMark, RaiseDurable}
use Rattle.board.specs.Seats.{SeatView}

-- these steps, and then a load of each logger's local mark, from logger 0 on, which found these marks, newest first
abbrev pub with_loads : List ℕ → List WordStep → List WordStep
with_loads [] steps = steps
with_loads (mark ∷ marks) steps = LoadMark (length marks) mark ∷ with_loads marks steps

-- the least of these
pub record IsLeastMark (least : ℕ) (marks : List ℕ) : Type 0 where
  pub among : Contains marks least
  pub below : All (λ mark. least ≤ mark) marks

-- all of it, for this many loggers
pub record Publishes (loggers : ℕ) (old : SeatView) (least : ℕ) (new : SeatView) : Type 0 where
  pub marks : List ℕ
  pub each : length marks ≡ loggers
  pub least_mark : IsLeastMark least marks
  pub same : (new.board ≡ old.board) × (new.role ≡ old.role)
  pub steps : new.steps ≡ RaiseDurable least ∷ with_loads marks old.steps
