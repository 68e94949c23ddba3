-- What contracts see of what a terminal is told.
use Rattle.std.specs.Prelude.{ℕ}
use Rattle.tables.specs.declared.reply.Reply.{Reply}

-- a commit's number, its TID and its reply
pub record Done : Type 0 where
  pub number : ℕ
  pub tid : ℕ
  pub reply : Reply
