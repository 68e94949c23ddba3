-- When a claim is so of a history.
use Rattle.std.specs.Prelude.{◌≡◌, ℕ, ◌<◌, ◌≤◌, List, ◌++◌}
use Rattle.std.specs.List.{All, Contains}
use Rattle.annals.specs.declared.claims.Claim.{Claim}

-- the history begins with its front, all behind that is of epochs above its mark, which is at most this one, and what
-- it names is there
pub record IsSoOf {S : Type 0} (date : S → ℕ) (history : List S) (mark : ℕ) (c : Claim S) : Type 0 where
  pub rest : List S
  pub beginning : history ≡ c.front ++ rest
  pub later : All (λ e. c.mark < date e) rest
  pub within : c.mark ≤ mark
  pub there : All (Contains history) c.has

-- both are so of one history
pub record AreOfOne {S : Type 0} (date : S → ℕ) (a b : Claim S) : Type 0 where
  pub history : List S
  pub mark : ℕ
  pub one : IsSoOf date history mark a
  pub other : IsSoOf date history mark b
