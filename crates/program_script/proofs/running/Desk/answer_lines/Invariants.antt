use Rattle.std.proofs.Common.{◌≡◌, ℕ, List, ◌++◌, length}
use Rattle.program_script.specs.Answered.{standing_of, HasAnswered}
use Rattle.program_script.specs.Hints.{TellsMore}
use Rattle.program_script.proofs.running.Desk.answer_lines.Given as goal

-- each turn takes a line from what is left of the piece
abbrev pub decreases-loop-after : goal.decreases-loop-after
decreases-loop-after g l = length l.rest

-- the lines that are taken are answered, and some text was told
abbrev pub invariant-loop-after : goal.invariant-loop-after
invariant-loop-after g l = ((text written : List ℕ) → HasAnswered g.K.Run.run.first text written (standing_of l.fn.self) → (taken : List ℕ)
    × (l.piece ≡ taken ++ l.rest) × HasAnswered g.K.Run.run.first (text ++ taken) written (standing_of l.self))
    × TellsMore (g.H.Hints.told l.fn.hints) (g.H.Hints.told l.hints)
