-- The rule of annals: what holds of all passes between any two steps.
use Rattle.std.specs.Prelude.{◌≡◌, ℕ, ◌+◌, ◌<◌, ◌≤◌, true, false, List, [], ◌∷◌, ◌++◌}
use Rattle.std.specs.List.{All}
use mathlib.Core.Option.{some}
use lib.ListN.{get_elem?}
use Rattle.annals.specs.declared.claims.Claim.{Claim}
use Rattle.annals.specs.declared.claims.Known.{Known}
use Rattle.annals.specs.Claims.{IsSoOf}

-- what one pass knows is so: the keeper's claims all of the history, up to the mark, and every other a part
pub record FitsAnnals {S : Type 0} (date : S → ℕ) (base : ℕ) (history : List S) (mark keeper pass : ℕ) (v : Known S)
    : Type 0 where
  pub alone : v.keeps ≡ true → pass ≡ keeper
  pub whole : v.keeps ≡ true → (v.own.front ≡ history) × (v.own.mark ≡ mark) × (v.base ≡ base)
  pub own : IsSoOf date history mark v.own
  pub heard : IsSoOf date history mark v.heard

-- the rule, of annals that began behind an epoch: there is one history, of later epochs, and up to one behind the mark,
-- of which all passes know
pub record AreAnnals {S : Type 0} (date : S → ℕ) (base : ℕ) (passes : List (Known S)) : Type 0 where
  pub history : List S
  pub mark : ℕ
  pub keeper : ℕ
  pub begun : base ≤ mark
  pub new : All (λ e. base < date e) history
  pub found : All (λ e. date e ≤ mark + 1) history
  pub fits : (pass : ℕ) (v : Known S) → get_elem? passes pass ≡ some v → FitsAnnals date base history mark keeper pass v

-- what annals claim as they begin behind an epoch, and a claim of nothing
abbrev pub begun_claim : {S : Type 0} → ℕ → Claim S
begun_claim base = record { front = []; mark = base; has = [] }

abbrev pub no_claim : {S : Type 0} → Claim S
no_claim = record { front = []; mark = 0; has = [] }

-- the keeper's pass as annals begin, a new pass then, and one that is used up
abbrev pub first_known : {S : Type 0} → ℕ → Known S
first_known base = record { keeps = true; base = base; own = begun_claim base; heard = no_claim }

abbrev pub begun_pass : {S : Type 0} → ℕ → Known S
begun_pass base = record { keeps = false; base = 0; own = begun_claim base; heard = no_claim }

abbrev pub spent_pass : {S : Type 0} → Known S
spent_pass = record { keeps = false; base = 0; own = no_claim; heard = no_claim }

-- a pass with the same claim as this one
abbrev pub shared_pass : {S : Type 0} → Known S → Known S
shared_pass v = record { keeps = false; base = 0; own = v.own; heard = no_claim }

-- the last of these entries alone
abbrev pub last_alone : {S : Type 0} → List S → List S
last_alone [] = []
last_alone (e ∷ []) = e ∷ []
last_alone (e ∷ f ∷ es) = last_alone (f ∷ es)

-- a pass which says that the last entry of a front is there
abbrev pub cited_pass : {S : Type 0} → Known S → Known S
cited_pass v = record { keeps = false; base = 0; own = record { front = []; mark = 0; has = last_alone v.own.front }; heard = no_claim }

-- a pass that has taken in what another one says is there
abbrev pub gathered : {S : Type 0} → Known S → Known S → Known S
gathered v w = record v { own = record v.own { has = v.own.has ++ w.own.has } }

-- a pass that has heard another one's claim
abbrev pub hearing : {S : Type 0} → Known S → Known S → Known S
hearing v w = record v { heard = w.own }
