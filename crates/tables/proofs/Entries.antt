-- The entries of a finite map: each is the row at its own key, and no other entry has that key.
use Rattle.std.proofs.Common.{◌≡◌, Bool, true, false, cond, T, ◌&&◌, List, [], ◌∷◌, Some, None, refl, sym, ap, ◌∙◌}
use Rattle.std.specs.Ordering.{eq_by_cmp, is_eq, is_lt}
use Rattle.std.specs.Cmp.{tied_itself}
use Rattle.std.specs.FinMap.{find}
use Rattle.std.specs.FinMap.Entries.{below_all, find_tied}
use Rattle.std.specs.declared.cmp.Ordering.{Ordering}
use Rattle.std.specs.declared.cmp.Ordering.TheVariants.{Less, Equal, Greater}
use Rattle.tables.proofs.Orders.{IsExact}

pub first : (a b : Bool) → T (a && b) → T a
first true b p = tt
first false b p = p

pub second : (a b : Bool) → T (a && b) → T b
second true b p = p
second false b p = absurd p

less : (r : Ordering) → T (is_lt r) → r ≡ Less
less Less p = refl
less Equal p = absurd p
less Greater p = absurd p

-- a tie that a test found
pub tied : (r : Ordering) → is_eq r ≡ true → r ≡ Equal
tied Less p = cc
tied Equal p = refl
tied Greater p = cc

module _ {K X : Type 0} {R : K → K → Ordering} (o : IsExact R) where
  -- a key below all keys of a list isn't among them
  pub absent_below : (k : K) (es : List (K × X)) → T (below_all R k es) → find R k es ≡ None
  absent_below k [] h = refl
  absent_below k (e ∷ es) h = ap (λ r. cond (is_eq r) (Some e.1) (find R k es)) (less _ (first _ _ h)) ∙ absent_below k es (second _ _ h)

  -- the first entry is the row at its key
  pub found_first : (e : K × X) (es : List (K × X)) → find R e.0 (e ∷ es) ≡ Some e.1
  found_first e es = ap (λ r. cond (is_eq r) (Some e.1) (find R e.0 es)) (tied_itself o.total e.0)

  -- and no later entry has its key
  pub absent_after : (k : K) (e : K × X) (es : List (K × X)) → T (below_all R e.0 es) → eq_by_cmp R k e.0 ≡ true → find R k es ≡ None
  absent_after k e es h t = sym (find_tied R o.total k e.0 (tied _ t) es) ∙ absent_below e.0 es h

  -- so what is found among the later ones is found among all
  pub found_after : (k : K) (r : X) (e : K × X) (es : List (K × X)) → T (below_all R e.0 es) → find R k es ≡ Some r → find R k (e ∷ es) ≡ Some r
  found_after k r e es h found =
      elim (eq_by_cmp R k e.0) as (λ b. eq_by_cmp R k e.0 ≡ b → cond b (Some e.1) (find R k es) ≡ Some r) [
        | true ↦ λ t. let none : find R k es ≡ None = absent_after k e es h t in cc
        | false ↦ λ t. found
      ] refl
