-- What contracts see of a terminal's share.
use Rattle.std.specs.Prelude.{ℕ}

-- the terminal's number, how many parts of the ledger it has, and how many of the commits are its own
pub record ShareView : Type 0 where
  pub terminal : ℕ
  pub parts : ℕ
  pub commits : ℕ

-- the parts and the commits of a share
abbrev pub parts_of : ShareView → ℕ
parts_of share = share.parts

abbrev pub share_commits : ShareView → ℕ
share_commits share = share.commits
