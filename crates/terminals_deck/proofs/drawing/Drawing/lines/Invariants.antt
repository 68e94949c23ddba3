use Rattle.std.proofs.Common.{◌≡◌, All, length}
use Rattle.tables.specs.NewOrder.{IsRequestedLine}
use Rattle.terminals_deck.specs.Drawing.{OnlyDraws}
use Rattle.terminals_deck.proofs.drawing.Drawing.lines.Given as goal

abbrev pub invariant-loop-place : goal.invariant-loop-place
invariant-loop-place l = OnlyDraws l.fn.self l.self × (length l.lines ≡ 15) × All (IsRequestedLine l.fn.self.scale) l.lines
