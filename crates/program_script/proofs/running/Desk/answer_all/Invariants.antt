use Rattle.std.proofs.Common.{◌≡◌, ℕ, Some, List, []}
use Rattle.program_script.specs.Answered.{standing_of, HasAnswered}
use Rattle.program_script.specs.Hints.{TellsMore}
use Rattle.program_script.proofs.Progress.{HasReached}
use Rattle.program_script.proofs.running.Desk.answer_all.Given as goal

-- what is read is answered, and some text was told
abbrev pub invariant-loop : goal.invariant-loop
invariant-loop g l = ((bytes : List ℕ) → g.R.Read.remaining l.fn.reader ≡ Some bytes → HasAnswered g.K.Run.run.first [] [] (standing_of l.fn.self)
    → HasReached g.K.Run.run.first bytes (g.R.Read.remaining l.reader) (g.W.Write.contents l.fn.writer) (g.W.Write.contents l.writer) (standing_of l.self))
    × TellsMore (g.H.Hints.told l.fn.hints) (g.H.Hints.told l.hints)
