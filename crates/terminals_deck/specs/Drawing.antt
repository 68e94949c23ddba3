-- Drawing inputs.
use Rattle.std.specs.Prelude.{◌≡◌}
use Rattle.terminals_deck.specs.declared.drawing.Drawing.{Drawing}

-- scale and home stay, while numbers are drawn
pub record OnlyDraws (old new : Drawing) : Type 0 where
  pub scale : new.scale ≡ old.scale
  pub home : new.home ≡ old.home
