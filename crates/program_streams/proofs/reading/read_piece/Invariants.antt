use Rattle.std.specs.Io.KnownBytes.{Keeps}
use Rattle.program_streams.proofs.reading.read_piece.Given as goal

-- nothing is taken yet
abbrev pub invariant-loop : goal.invariant-loop
invariant-loop g l = Keeps (g.R.Read.remaining l.fn.reader) (g.R.Read.remaining l.reader)
