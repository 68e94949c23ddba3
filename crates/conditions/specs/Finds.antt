-- What the check of one condition finds.
use Rattle.std.specs.Prelude.{◌≡◌, Option, None, Some}
use Rattle.std.specs.declared.cmp.Ordering.{Ordering}
use Rattle.std.specs.declared.cmp.Ordering.TheVariants.{Less}

-- nothing where the condition holds at each key, else the least key that breaks it
abbrev pub FindsLeast : {K : Type 0} → (K → K → Ordering) → (K → Type 0) → (K → Type 0) → Option K → Type 0
FindsLeast R IsKey HoldsAt None = (k : _) → IsKey k → HoldsAt k
FindsLeast R IsKey HoldsAt (Some k) = IsKey k × (HoldsAt k → ⊥) × ((j : _) → IsKey j → R j k ≡ Less → HoldsAt j)
