-- A walk along a map: how it goes on, and what it finds.
use Rattle.std.proofs.Common.{◌≡◌, false, cond, Option, Some, None, List, [], ◌∷◌, refl, ap, ◌∙◌}
use Rattle.std.specs.List.{AllByRecursion}
use Rattle.std.specs.Map.{keys_of, lookup}
use Rattle.std.specs.Map.Iter.{TakesFirst}
use Rattle.std.specs.Option.{option_map}
use Rattle.std.specs.Ordering.{is_eq, ordering_reverse}
use Rattle.std.specs.Cmp.{IsTotalOrder}
use Rattle.std.specs.BTreeMap.{is_at}
use Rattle.std.specs.declared.cmp.Ordering.{Ordering}
use Rattle.std.specs.declared.cmp.Ordering.TheVariants.{Less, Equal, Greater}
use Rattle.std.proofs.lemmas.Map.Keys.{sorted_head, sorted_tail}
use Rattle.conditions_walks.specs.Walk.{IsPast, IsAfter, IsAlong, left}

-- what an iterator's step takes is the first of what is left
pub left_next : {A X : Type 0} (shows : A → X) (s t : List X) (r : Option A) → TakesFirst shows s r t → s ≡ left (option_map shows r) t
left_next shows s t None h = h.0
left_next shows s t (Some x) h = h

module _ {K : Type 0} {R : K → K → Ordering} (o : IsTotalOrder R) where
  -- what is above a key isn't at it
  apart : (k q : K) → R k q ≡ Less → is_eq (R q k) ≡ false
  apart k q below = ap is_eq (o.antisymm q k ∙ ap ordering_reverse below)

  past : (passed : Option K) (k q : K) → IsPast R passed k → R k q ≡ Less → IsPast R passed q
  past None k q before below = tt
  past (Some p) k q before below = o.trans p k q before below

module _ {K X : Type 0} {R : K → K → Ordering} (o : IsTotalOrder R) where
  -- a key below all has no entry
  pub above : (k : K) (es : List (K × X)) → AllByRecursion (λ y. R k y ≡ Less) (keys_of es) → lookup (is_at (R k)) es ≡ None
  above k [] h = refl
  above k (e ∷ es) h = ap (λ r. cond (is_eq r) (Some e.1) (lookup (is_at (R k)) es)) h.0 ∙ above k es h.1

  pub lower : (j k : K) (es : List (K × X)) → R j k ≡ Less → AllByRecursion (λ y. R k y ≡ Less) (keys_of es) → AllByRecursion (λ y. R j y ≡ Less) (keys_of es)
  lower j k [] below h = tt
  lower j k (e ∷ es) below h = (o.trans j k e.0 below h.0, lower j k es below h.1)

  module _ (all : List (K × X)) where
    -- one entry is passed
    pub along_next : (passed : Option K) (k : K) (x : X) (es : List (K × X)) → IsAlong R all passed ((k, x) ∷ es) → IsAlong R all (Some k) es
    along_next passed k x es h = record {
      ahead = λ q below. h.ahead q (past o passed k q h.after below) ∙ ap (λ b. cond b (Some x) (lookup (is_at (R q)) es)) (apart o k q below);
      within = λ q y e. h.within q y (behind q y es (sorted_head R k (keys_of es) h.sorted) e);
      after = first es (sorted_head R k (keys_of es) h.sorted);
      sorted = sorted_tail R k (keys_of es) h.sorted;
    }
      where
        first : (es : List (K × X)) → AllByRecursion (λ y. R k y ≡ Less) (keys_of es) → IsAfter R (Some k) es
        first [] above = tt
        first (e ∷ es) above = above.0

        behind : (q : K) (y : X) (es : List (K × X)) → AllByRecursion (λ y. R k y ≡ Less) (keys_of es) → lookup (is_at (R q)) es ≡ Some y
            → cond (is_eq (R q k)) (Some x) (lookup (is_at (R q)) es) ≡ Some y
        behind q y es above e = elim (R q k) as (λ r. R q k ≡ r → cond (is_eq r) (Some x) (lookup (is_at (R q)) es) ≡ Some y) [
          | Less ↦ λ t. e
          | Equal ↦ λ t. absurd (missing (none es above t) e)
          | Greater ↦ λ t. e
        ] refl
          where
            none : (es : List (K × X)) → AllByRecursion (λ y. R k y ≡ Less) (keys_of es) → R q k ≡ Equal → lookup (is_at (R q)) es ≡ None
            none [] above t = refl
            none (e ∷ es) above t = ap (λ r. cond (is_eq r) (Some e.1) (lookup (is_at (R q)) es)) (o.congr q k e.0 t ∙ above.0) ∙ none es above.1 t

            missing : lookup (is_at (R q)) es ≡ None → lookup (is_at (R q)) es ≡ Some y → ⊥
            missing n s = cc

    -- the next entry is above the key
    pub along_below : (passed : Option K) (k q : K) (x : X) (es : List (K × X)) → IsAlong R all passed ((k, x) ∷ es) → R q k ≡ Less
        → IsPast R passed q → lookup (is_at (R q)) all ≡ None
    along_below passed k q x es h below p =
        h.ahead q p ∙ above q ((k, x) ∷ es) (below, lower q k es below (sorted_head R k (keys_of es) h.sorted))
