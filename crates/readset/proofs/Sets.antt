-- A set of entries of narrow records, with those of wide ones behind them: what a look-up in either finds among all,
-- and what one entry more in either makes of all.
use Rattle.std.proofs.Common.{◌≡◌, ℕ, ◌<◌, List, ◌++◌, Some, None, Result, Ok, Err, OnErr, IfOk, map, get_or, sym, ap, ◌∙◌, subst}
use Rattle.std.specs.Ordering.{nat_cmp}
use Rattle.std.specs.Map.{keys_of}
use Rattle.std.specs.BTreeMap.{is_at, insert_entry}
use Rattle.std.specs.List.Sorted.{IsStrictlySortedBy}
use Rattle.std.specs.Option.{option_map}
use Rattle.readset.specs.Beside.{AreBeside}
use Rattle.readset.specs.Places.{place}
use Rattle.readset.proofs.Placed.{stands, goes}
use Rattle.readset.proofs.TwoKinds.{find, told, find-told, put-told, found_first, found_behind, value_found, put_first, put_behind, all_high, absent_low, put_low, all_low, found_high, put_high}

-- what a result says, told otherwise
pub if_ok : {X E : Type 0} {P Q : X → Type 0} (r : Result X E) → ((x : X) → P x → Q x) → IfOk r P → IfOk r Q
if_ok (Ok x) so h = so x h
if_ok (Err e) so h = tt

pub on_err : {X E : Type 0} {P Q : Type 0} (r : Result X E) → (P → Q) → OnErr r P → OnErr r Q
on_err (Ok x) so h = tt
on_err (Err e) so h = so h

module _ {X Z : Type 0} (g : Z → X) (IsLow IsHigh : X → Type 0) (narrow : List (ℕ × X)) (wide : List (ℕ × Z)) (all : List (ℕ × X))
    (view : narrow ++ map (told g) wide ≡ all) (n : ℕ) where
  seen_as : (m : ℕ) → find m all ≡ find m (narrow ++ map (told g) wide)
  seen_as m = ap (find m) (sym view)

  pub low_found : (x : X) → find n narrow ≡ Some x → find n all ≡ Some x
  low_found x found = seen_as n ∙ found_first (is_at (nat_cmp n)) narrow (map (told g) wide) x found

  pub low_there : (at : ℕ) (x : X) → place narrow n ≡ Ok at → ((d : ℕ × X) → x ≡ (get_or narrow at d).1) → find n all ≡ Some x
  low_there at x here is = low_found x ((stands n narrow at here).value (n, x) ∙ ap Some (sym (is (n, x))))

  module _ (b : AreBeside IsLow IsHigh narrow (map (told g) wide)) where
    -- what is found, and isn't among the narrow ones, is wide
    pub high_of : find n narrow ≡ None → (x : X) → find n all ≡ Some x → IsHigh x
    high_of none x found = value_found IsHigh (is_at (nat_cmp n)) (map (told g) wide) x b.high
        (sym (found_behind (is_at (nat_cmp n)) narrow (map (told g) wide) none) ∙ sym (seen_as n) ∙ found)

    module _ (below : (m : ℕ) (x : X) → find m all ≡ Some x → IsHigh x → n < m) where
      below_here : (m : ℕ) (x : X) → find m (narrow ++ map (told g) wide) ≡ Some x → IsHigh x → n < m
      below_here m x found = below m x (seen_as m ∙ found)

      pub low_absent : (at : ℕ) → IsStrictlySortedBy nat_cmp (keys_of narrow) → place narrow n ≡ Err at → find n all ≡ None
      low_absent at sorted gap = seen_as n
          ∙ absent_low IsLow IsHigh narrow (map (told g) wide) b n below_here (goes n narrow at sorted gap).absent

      pub low_put : (x : X) (more : List (ℕ × X)) → more ≡ insert_entry nat_cmp narrow n x → more ++ map (told g) wide ≡ insert_entry nat_cmp all n x
      low_put x more put = ap (λ (es : List (ℕ × X)). es ++ map (told g) wide) put
          ∙ sym (put_first n x narrow (map (told g) wide) (all_high IsLow IsHigh narrow (map (told g) wide) b n below_here))
          ∙ ap (λ (es : List (ℕ × X)). insert_entry nat_cmp es n x) view

      pub low_beside : (x : X) (more : List (ℕ × X)) → IsLow x → more ≡ insert_entry nat_cmp narrow n x → AreBeside IsLow IsHigh more (map (told g) wide)
      low_beside x more low put = subst (λ (es : List (ℕ × X)). AreBeside IsLow IsHigh es (map (told g) wide)) (sym put)
          (put_low IsLow IsHigh narrow (map (told g) wide) b n below_here x low)

      pub low_beside_if : {E : Type 0} (r : Result X E) (more : List (ℕ × X)) → IfOk r IsLow → IfOk r (λ x. more ≡ insert_entry nat_cmp narrow n x)
          → OnErr r (more ≡ narrow) → AreBeside IsLow IsHigh more (map (told g) wide)
      low_beside_if (Ok x) more low put kept = low_beside x more low put
      low_beside_if (Err e) more low put kept = subst (λ (es : List (ℕ × X)). AreBeside IsLow IsHigh es (map (told g) wide)) (sym kept) b

    module _ (above : (m : ℕ) (x : X) → find m all ≡ Some x → IsLow x → m < n) where
      above_here : (m : ℕ) (x : X) → find m (narrow ++ map (told g) wide) ≡ Some x → IsLow x → m < n
      above_here m x found = above m x (seen_as m ∙ found)

      high_found : find n all ≡ option_map g (find n wide)
      high_found = seen_as n ∙ found_high IsLow IsHigh narrow (map (told g) wide) b n above_here ∙ find-told g n wide

      pub high_there : (at : ℕ) (z : Z) → place wide n ≡ Ok at → ((d : ℕ × Z) → z ≡ (get_or wide at d).1) → find n all ≡ Some (g z)
      high_there at z here is = high_found ∙ ap (option_map g) ((stands n wide at here).value (n, z) ∙ ap Some (sym (is (n, z))))

      pub high_absent : (at : ℕ) → IsStrictlySortedBy nat_cmp (keys_of wide) → place wide n ≡ Err at → find n all ≡ None
      high_absent at sorted gap = high_found ∙ ap (option_map g) (goes n wide at sorted gap).absent

      pub high_put : (z : Z) (more : List (ℕ × Z)) → more ≡ insert_entry nat_cmp wide n z → narrow ++ map (told g) more ≡ insert_entry nat_cmp all n (g z)
      high_put z more put = ap (λ (es : List (ℕ × Z)). narrow ++ map (told g) es) put
          ∙ ap (λ (es : List (ℕ × X)). narrow ++ es) (put-told g n z wide)
          ∙ sym (put_behind n (g z) narrow (map (told g) wide) (all_low IsLow IsHigh narrow (map (told g) wide) b n above_here))
          ∙ ap (λ (es : List (ℕ × X)). insert_entry nat_cmp es n (g z)) view

      pub high_beside : (z : Z) (more : List (ℕ × Z)) → IsHigh (g z) → more ≡ insert_entry nat_cmp wide n z → AreBeside IsLow IsHigh narrow (map (told g) more)
      high_beside z more high put = subst (λ (es : List (ℕ × X)). AreBeside IsLow IsHigh narrow es) (sym (ap (map (told g)) put ∙ put-told g n z wide))
          (put_high IsLow IsHigh narrow (map (told g) wide) b n above_here (g z) high)

      pub high_beside_if : {E : Type 0} (r : Result Z E) (more : List (ℕ × Z)) → IfOk r (λ z. IsHigh (g z)) → IfOk r (λ z. more ≡ insert_entry nat_cmp wide n z)
          → OnErr r (more ≡ wide) → AreBeside IsLow IsHigh narrow (map (told g) more)
      high_beside_if (Ok z) more high put kept = high_beside z more high put
      high_beside_if (Err e) more high put kept =
          subst (λ (es : List (ℕ × Z)). AreBeside IsLow IsHigh narrow (map (told g) es)) (sym kept) b
