-- How the execution of a New-Order ends.
use Rattle.std.specs.Prelude.{◌≡◌, ◌⊎◌, Result, Ok, Err}
use Rattle.money.specs.declared.refusal.Refusal.{Refusal}
use Rattle.money.specs.declared.refusal.Refusal.TheVariants.{OutOfMemory}
use Rattle.tables.specs.Database.{Database}
use Rattle.tables.specs.declared.new_order.NewOrderInput.{NewOrderInput}
use Rattle.tables.specs.declared.input.Input.TheVariants as inputs
use Rattle.tables.specs.declared.reply.Reply.{Reply}
use Rattle.readset.specs.Reads.{ReadSetView}
use Rattle.readset.specs.Writes.{WriteSetView}
use Rattle.readset.specs.Commit.{IsCommitOf}
use Rattle.readset.specs.Refused.{IsAboveCap}
use Rattle.readset.specs.Transaction.{TransactionView, AtAll}
use Rattle.readset.specs.declared.work.Work.{Work}

-- its reply, at all tables at which it may have read, of a number that as read isn't above the order cap
pub record IsReplyOf (t0 : Database) (x : NewOrderInput) (under_way : TransactionView) (reply : Reply) : Type 0 where
  pub commits : AtAll t0 under_way (λ t. IsCommitOf t (inputs.NewOrder x) under_way.writes reply)
  pub within_cap : ¬ IsAboveCap t0.scale (inputs.NewOrder x) under_way.reads

-- its work, where it has a reply and there is memory for it
abbrev pub IsOrderWork : NewOrderInput → ReadSetView → WriteSetView → Result Reply Refusal → Result Work Refusal
    → Type 0
IsOrderWork x reads writes reply (Ok work) = (reply ≡ Ok work.reply) × (work.input ≡ inputs.NewOrder x)
    × (work.reads ≡ reads) × (work.writes ≡ writes)
IsOrderWork x reads writes reply (Err refusal) = (reply ≡ Err refusal) ⊎ (refusal ≡ OutOfMemory)
