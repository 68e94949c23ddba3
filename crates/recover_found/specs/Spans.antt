-- Ranges of epochs in the order in which one is looked up.
use Rattle.std.specs.Prelude.{List}
use Rattle.std.specs.List.Sorted.{IsNonDecreasingBy}
use Rattle.recover_found.specs.declared.spans.Span.{Span}

-- neither their lows fall nor their highs
pub record AreReaching (spans : List Span) : Type 0 where
  pub lows : IsNonDecreasingBy (λ s. s.low) spans
  pub highs : IsNonDecreasingBy (λ s. s.high) spans
