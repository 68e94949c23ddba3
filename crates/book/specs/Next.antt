-- What an input comes to at the committed tables: it is the next commit, or it is refused there.
use Rattle.std.specs.Prelude.{◌≡◌, ℕ, ◌+◌, ◌<◌, ◌≤◌, List, [], ◌∷◌, ◌++◌, length}
use Rattle.money.specs.declared.refusal.Refusal.{Refusal}
use Rattle.money.specs.declared.refusal.Refusal.TheVariants.{ItemNotValid, OrdersFull, CommitsFull}
use Rattle.tables.specs.Database.{Database}
use Rattle.tables.specs.Apply.{apply, Committed, RolledBack, HasOrderNumber}
use Rattle.tables.specs.declared.input.Input.{Input}
use Rattle.readset.specs.Commit.{IsCommitted}
use Rattle.book.specs.History.{replay}
use Rattle.book.specs.declared.entry.Entry.{Entry}
use Rattle.book.specs.Done.{Done}

-- an input is the next commit, below the cap: its tables and its reply are those of the transaction at the tables
-- before, and this is what its terminal is told: the number, behind those of past commits, the TID and the reply of its
-- entry
pub record IsNextCommit (past : ℕ) (t0 : Database) (old new : List Entry) (x : Input) (done : Done) : Type 0 where
  pub below : past + length old < t0.scale.commits
  pub numbered : HasOrderNumber (replay t0 old) x
  pub commits : apply (replay t0 old) x ≡ Committed (replay t0 new) done.reply
  pub number : done.number ≡ past + length new
  pub entry : (e : Entry) × (new ≡ old ++ e ∷ []) × (e.tid ≡ done.tid)

-- an input has this refusal at the committed tables t, when so many transactions have committed: the first of its
-- items that isn't in ITEM, else an order number above the order cap, else the commit cap
abbrev pub IsRefusedAt : Database → ℕ → Input → Refusal → Type 0
IsRefusedAt t count x (ItemNotValid item) = apply t x ≡ RolledBack item
IsRefusedAt t count x OrdersFull = IsCommitted (apply t x) × ¬ HasOrderNumber t x
IsRefusedAt t count x CommitsFull = IsCommitted (apply t x) × HasOrderNumber t x × (t.scale.commits ≤ count)
IsRefusedAt t count x _ = ⊥
