use Rattle.std.proofs.Common.{replicate}
use Rattle.std.specs.Fmt.{HasWritten, IsPlainFormatter}
use Rattle.customer_data.proofs.text.LettersDisplay.fmt.Given as goal

-- so many letters are written
abbrev pub invariant-loop-i : goal.invariant-loop-i
invariant-loop-i g l = IsPlainFormatter l.initial.f → HasWritten g.W.Write.write_str_gives l.initial.f (replicate l._i 120) l.f
