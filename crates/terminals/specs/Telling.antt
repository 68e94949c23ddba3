-- What a terminal's type keeps of its replies.
use Rattle.std.specs.Prelude.{◌≡◌, ◌≤◌, List}
use Rattle.std.specs.List.{All, Contains}
use Rattle.annals.specs.Passes.{AnnalsView, PassView}
use Rattle.tidword.specs.TidWord.{epoch_of}
use Rattle.board.specs.Steps.{seen_durable}
use Rattle.book.specs.Done.{Done}
use Rattle.book.specs.declared.entry.Entry.{Entry}
use Rattle.terminals.specs.Outbox.{OutboxView}

-- a reply tells of one of these entries
pub record TellsOf (entries : List Entry) (done : Done) : Type 0 where
  pub entry : Entry
  pub among : Contains entries entry
  pub told : done ≡ record { number = entry.number; tid = entry.tid; reply = entry.reply }

-- a pass of these annals has the entry that a reply tells of
pub record IsCited (annals : AnnalsView) (done : Done) (pass : PassView Entry) : Type 0 where
  pub own : pass.table ≡ annals.table
  pub tells : TellsOf pass.claim.has done

-- a reply that was released tells of one of these entries, and the seat has seen D at its epoch or above
pub record IsReleased (entries : List Entry) (outbox : OutboxView) (done : Done) : Type 0 where
  pub tells : TellsOf entries done
  pub durable : epoch_of done.tid ≤ seen_durable outbox.seat.board.plan.base outbox.seat.steps

-- and so each reply of an outbox that waits, and each that was released
pub record KeepsReplies (entries : List Entry) (outbox : OutboxView) : Type 0 where
  pub waiting : All (TellsOf entries) outbox.waiting
  pub released : All (IsReleased entries outbox) outbox.released
