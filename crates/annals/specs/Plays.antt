-- What each step of a pass tells it.
use Rattle.std.specs.Prelude.{◌≡◌, ℕ, ◌+◌, ◌<◌, ◌≤◌, true, List, [], ◌∷◌, ◌++◌}
use Rattle.std.specs.List.{All}
use mathlib.Core.Option.{Option, some}
use Rattle.atomic_table.specs.Seated.{TableId}
use Rattle.atomic_table.specs.Table.{Me}
use Rattle.annals.specs.declared.claims.Known.{Known}
use Rattle.annals.specs.Claims.{IsSoOf, AreOfOne}

-- a pass of the annals with this table, which has one word
abbrev pub HasPassAt : TableId → TableId → Type 0
HasPassAt table pass = (pass ≡ table) × (table.words ≡ 1)

-- what the keeper knows once it has added an entry at this mark, and once it has raised the mark
abbrev pub with_entry : {S : Type 0} → Known S → ℕ → S → Known S
with_entry v mark e = record v { own = record v.own { front = v.own.front ++ e ∷ []; mark = mark } }

abbrev pub with_raised_mark : {S : Type 0} → Known S → ℕ → Known S
with_raised_mark v mark = record v { own = record v.own { mark = mark } }

abbrev pub Adding : {S : Type 0} → Option S → ℕ → Me S (Known S) → Me S (Known S) → Type 0
Adding {S} said mark v w = (e : S) → said ≡ some e → w ≡ (with_entry v.0 mark e, v.1)

abbrev pub Marking : {S : Type 0} → ℕ → Me S (Known S) → Me S (Known S) → Type 0
Marking mark v w = w ≡ (with_raised_mark v.0 mark, v.1)

-- what a keeper that hears a claim knows of it: it is so of its own history, which has epochs from behind the base to
-- one behind its mark
pub record KnowsOf {S : Type 0} (date : S → ℕ) (v : Known S) : Type 0 where
  pub heard : IsSoOf date v.own.front v.own.mark v.heard
  pub begun : v.base ≤ v.own.mark
  pub new : All (λ e. v.base < date e) v.own.front
  pub found : All (λ e. date e ≤ v.own.mark + 1) v.own.front

-- nothing changes; the claims are of one history, which is the keeper's own if it is the keeper that compares
pub record Comparing {S : Type 0} (date : S → ℕ) (v w : Me S (Known S)) : Type 0 where
  pub same : w ≡ v
  pub agree : AreOfOne date v.0.own v.0.heard
  pub keeper : v.0.keeps ≡ true → KnowsOf date v.0
