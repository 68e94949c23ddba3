-- How a walk along a map stands. No public clause cites it.
use Rattle.std.specs.Prelude.{◌≡◌, Option, None, Some, List, [], ◌∷◌}
use Rattle.std.specs.Option.{IfSome}
use Rattle.std.specs.List.Sorted.{IsStrictlySortedBy}
use Rattle.std.specs.Map.{keys_of, lookup}
use Rattle.std.specs.BTreeMap.{is_at}
use Rattle.std.specs.declared.cmp.Ordering.{Ordering}
use Rattle.std.specs.declared.cmp.Ordering.TheVariants.{Less}

-- the entries left: the next one, and those behind it
abbrev pub left : {A : Type 0} → Option A → List A → List A
left None es = []
left (Some e) es = e ∷ es

module _ {K : Type 0} (R : K → K → Ordering) where
  -- a key is above the last that was passed
  abbrev pub IsPast : Option K → K → Type 0
  IsPast passed q = IfSome passed (λ p. R p q ≡ Less)

  -- so is the first of these entries
  abbrev pub IsAfter : {X : Type 0} → Option K → List (K × X) → Type 0
  IsAfter passed [] = Unit {0}
  IsAfter passed (e ∷ es) = IsPast passed e.0

  -- where a walk along these entries stands: what is above the last key passed is among those left
  pub record IsAlong {X : Type 0} (all : List (K × X)) (passed : Option K) (es : List (K × X)) : Type 0 where
    pub ahead : (q : K) → IsPast passed q → lookup (is_at (R q)) all ≡ lookup (is_at (R q)) es
    pub within : (q : K) (x : X) → lookup (is_at (R q)) es ≡ Some x → lookup (is_at (R q)) all ≡ Some x
    pub after : IsAfter passed es
    pub sorted : IsStrictlySortedBy R (keys_of es)
