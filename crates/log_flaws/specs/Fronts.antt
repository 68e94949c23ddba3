-- A flaw of the bytes in front of a file that hold its text, as the file's.
use Rattle.std.specs.Prelude.{ℕ}
use Rattle.log_flaws.specs.declared.flaw.FileFlaw.{FileFlaw}
use Rattle.log_flaws.specs.declared.flaw.FileFlaw.TheVariants.{NewerVersion, TooShort, NoHeader, OtherHeader, NoGate, EndsInside, NoBody, NoVoid}

-- that the bytes end inside of a body is told of the file, by its size
abbrev pub flaw_in : ℕ → FileFlaw → FileFlaw
flaw_in size (NewerVersion n) = NewerVersion n
flaw_in size (TooShort n) = TooShort n
flaw_in size NoHeader = NoHeader
flaw_in size (OtherHeader field found asked) = OtherHeader field found asked
flaw_in size (NoGate at) = NoGate at
flaw_in size (EndsInside length at end) = EndsInside size at end
flaw_in size (NoBody at) = NoBody at
flaw_in size (NoVoid at why) = NoVoid at why
