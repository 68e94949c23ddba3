-- What passes of the run's annals claim of the book's history.
use Rattle.std.specs.Prelude.{◌≡◌, ℕ, ◌+◌, ◌<◌, ◌≤◌, List, length, drop}
use Rattle.std.specs.List.{All}
use Rattle.tidword.specs.TidWord.{epoch_of}
use Rattle.annals.specs.declared.claims.Claim.{Claim}
use Rattle.annals.specs.Claims.{IsSoOf}
use Rattle.book.specs.declared.entry.Entry.{Entry}
use Rattle.book.specs.Batches.{BatchView}
use Rattle.book.specs.Streams.{stream}

-- the date of an entry is the epoch of its TID
abbrev pub date_of : Entry → ℕ
date_of e = epoch_of e.tid

-- up to some mark all of a history, which began behind a base, is known, and this claim is so of it
pub record Bears (base : ℕ) (history : List Entry) (claim : Claim Entry) : Type 0 where
  pub mark : ℕ
  pub known : IsSoOf date_of history mark claim
  pub begun : base ≤ mark
  pub new : All (λ e. base < date_of e) history
  pub found : All (λ e. date_of e ≤ mark + 1) history

-- what contracts see of a batch with its pass
pub record TakenView : Type 0 where
  pub batch : BatchView
  pub claim : Claim Entry

-- a batch is what a logger's stream of the claimed front has behind what was taken before, at its mark
pub record IsTakenOf (batch : BatchView) (claim : Claim Entry) : Type 0 where
  pub mark : batch.mark ≡ claim.mark
  pub within : batch.first ≤ length (stream batch.loggers batch.logger claim.front)
  pub entries : batch.entries ≡ drop batch.first (stream batch.loggers batch.logger claim.front)
