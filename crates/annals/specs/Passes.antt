-- What contracts see of annals and of their passes.
use Rattle.std.specs.Prelude.{◌≡◌, ℕ, ◌+◌, ◌<◌, ◌≤◌, List}
use Rattle.std.specs.List.{All}
use Rattle.atomic_table.specs.Seated.{TableId}
use Rattle.annals.specs.declared.claims.Claim.{Claim}
use Rattle.annals.specs.Claims.{IsSoOf}

-- which annals they are, and behind which epoch they began
pub record AnnalsView : Type 0 where
  pub table : TableId
  pub base : ℕ

-- of whom the keeper is, and the history, of which nothing more comes of epochs up to the mark
pub record AnnalistView (S : Type 0) : Type 0 where
  pub annals : AnnalsView
  pub history : List S
  pub mark : ℕ

-- of which annals a pass is, and what it claims
pub record PassView (S : Type 0) : Type 0 where
  pub table : TableId
  pub claim : Claim S

-- what a keeper knows of its history, and of a claim on it
pub record Hears {S : Type 0} (date : S → ℕ) (keeper : AnnalistView S) (claim : Claim S) : Type 0 where
  pub known : IsSoOf date keeper.history keeper.mark claim
  pub begun : keeper.annals.base ≤ keeper.mark
  pub new : All (λ e. keeper.annals.base < date e) keeper.history
  pub found : All (λ e. date e ≤ keeper.mark + 1) keeper.history
