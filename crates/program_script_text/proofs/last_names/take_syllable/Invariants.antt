use Rattle.std.proofs.Common.{◌≢◌, ℕ, ◌<◌, List, ◌++◌}
use Rattle.program_script_text.specs.LastNames.{syllable}
use Rattle.program_script_text.proofs.last_names.take_syllable.Given as goal

-- the text begins with no syllable of the digits so far
abbrev pub invariant-loop-digit : goal.invariant-loop-digit
invariant-loop-digit l = (d : ℕ) → d < l.digit → (rest : List ℕ) → l.text ≢ syllable d ++ rest
