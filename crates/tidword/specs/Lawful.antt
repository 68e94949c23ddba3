-- Which TIDs a commit may take, and the one that it takes (Silo, sections 4.2 and 4.4).
use Rattle.std.specs.Prelude.{◌≡◌, ℕ, ◌+◌, ◌*◌, ◌%◌, ◌^◌, ◌<◌, ◌==◌, Option, Some, None, nat_lt, max}
use Rattle.std.specs.Prelude.{if◌then◌else◌}
use Rattle.tidword.specs.TidWord.{epoch_of, tid_of}

-- a lawful TID: no status bits, of this epoch, larger than the greatest TID that the commit has seen and than its
-- worker's last
pub record IsLawful (seen last epoch tid : ℕ) : Type 0 where
  pub bits : tid % 8 ≡ 0
  pub in_epoch : epoch_of tid ≡ epoch
  pub above_seen : tid_of seen < tid
  pub above_last : tid_of last < tid

-- the least TID of this epoch that is larger than a TID: the epoch's first, or else the next sequence, where the epoch
-- has one
abbrev pub next_after : ℕ → ℕ → Option ℕ
next_after greatest epoch =
    if nat_lt greatest (epoch * 2 ^ 32) then Some (epoch * 2 ^ 32) else if epoch_of (greatest + 8) == epoch then Some
    (greatest + 8) else None

-- the TID that a commit takes, of the greatest TID that it has seen and its worker's last, where it may take one
abbrev pub next : ℕ → ℕ → ℕ → Option ℕ
next seen last epoch = next_after (max seen last) epoch
