-- A look-up after an insert.
use Rattle.std.proofs.Common.{◌≡◌, ◌≢◌, ℕ, List, [], ◌∷◌, Bool, true, false, cond, Some, true≢false, refl, sym, ap, ◌∙◌}
use Rattle.std.specs.Ordering.{nat_cmp, is_eq, match_ordering}
use Rattle.std.specs.Map.{lookup}
use Rattle.std.specs.BTreeMap.{is_at, insert_entry}
use Rattle.std.specs.declared.cmp.Ordering.TheVariants.{Less, Equal, Greater}
use Rattle.readset.proofs.Numbers.{same_number, same_test}

-- a test that is made twice
twice : {X : Type 0} (b : Bool) (x y z : X) → cond b x z ≡ cond b x (cond b y z)
twice true x y z = refl
twice false x y z = refl

-- two tests, of which a third value comes after both
swapped : {X : Type 0} (b c : Bool) (x y z : X) → (b ≡ true → c ≡ true → x ≡ y) → cond c y (cond b x z) ≡ cond b x (cond c y z)
swapped true true x y z same = sym (same refl refl)
swapped true false x y z same = refl
swapped false true x y z same = refl
swapped false false x y z same = refl

-- no order of the entries is needed
pub lookup-insert_entry : {X : Type 0} (m n : ℕ) (v : X) (es : List (ℕ × X))
    → lookup (is_at (nat_cmp m)) (insert_entry nat_cmp es n v) ≡ cond (is_eq (nat_cmp m n)) (Some v) (lookup (is_at (nat_cmp m)) es)
lookup-insert_entry m n v [] = refl
lookup-insert_entry m n v (e ∷ es) =
    let rest = lookup (is_at (nat_cmp m)) es in
    let there = is_eq (nat_cmp m e.0) in
    elim (nat_cmp n e.0) as (λ o. nat_cmp n e.0 ≡ o
    → lookup (is_at (nat_cmp m)) (match_ordering o ((n, v) ∷ e ∷ es) ((e.0, v) ∷ es) (e ∷ insert_entry nat_cmp es n v))
    ≡ cond (is_eq (nat_cmp m n)) (Some v) (cond there (Some e.1) rest)) [
      | Less ↦ λ _. refl
      | Equal ↦ λ q. twice there (Some v) (Some e.1) rest ∙ ap (λ k. cond (is_eq (nat_cmp m k)) (Some v) (cond there (Some e.1) rest))
          (sym (same_number n e.0 (ap is_eq q)))
      | Greater ↦ λ q. ap (cond there (Some e.1)) (lookup-insert_entry m n v es)
          ∙ swapped (is_eq (nat_cmp m n)) there (Some v) (Some e.1) rest
          (λ here at_e. absurd (true≢false (sym (same_test n e.0 (sym (same_number m n here) ∙ same_number m e.0 at_e)) ∙ ap is_eq q)))
    ] refl

-- two inserts of two numbers in either order
pub lookup-swapped : {X : Type 0} (m a b : ℕ) (u v : X) (es : List (ℕ × X)) → a ≢ b
    → lookup (is_at (nat_cmp m)) (insert_entry nat_cmp (insert_entry nat_cmp es a u) b v)
    ≡ lookup (is_at (nat_cmp m)) (insert_entry nat_cmp (insert_entry nat_cmp es b v) a u)
lookup-swapped m a b u v es apart =
    let at_a = is_eq (nat_cmp m a) in
    let at_b = is_eq (nat_cmp m b) in
    lookup-insert_entry m b v (insert_entry nat_cmp es a u)
    ∙ ap (cond at_b (Some v)) (lookup-insert_entry m a u es)
    ∙ swapped at_a at_b (Some u) (Some v) (lookup (is_at (nat_cmp m)) es) (λ p q. absurd (apart (sym (same_number m a p) ∙ same_number m b q)))
    ∙ ap (cond at_a (Some u)) (sym (lookup-insert_entry m b v es))
    ∙ sym (lookup-insert_entry m a u (insert_entry nat_cmp es b v))
