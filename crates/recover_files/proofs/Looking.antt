-- Entries that are looked at one after another, body after body, file after file.
use Rattle.std.proofs.Common.{◌≡◌, inl, inr, Bool, true, false, cond, List, [], ◌∷◌, ◌++◌, refl, sym, ap, ◌∙◌, subst}
use Rattle.std.proofs.lemmas.List.{append_assoc}
use Rattle.std.specs.Prelude.{flat_map}
use Rattle.std.specs.List.{filter, All, AllByRecursion}
use Rattle.std.proofs.lemmas.List.Concat.{flat_map-cons}
use Rattle.std.proofs.lemmas.List.Elements.{filter-append, All-append, All-contains, All-from_recursion, All-head, All-tail}
use Rattle.recover_found.proofs.Elements.{Has, has_to, has_left, has_right, passed}

module _ {X : Type 0} (p : X → Bool) where
  pub counted_more : (front : List X) (x : X) (rest all : List X) → p x ≡ true → front ++ filter p (x ∷ rest) ≡ all → (front ++ x ∷ []) ++ filter p rest ≡ all
  counted_more front x rest all test h =
      append_assoc front (x ∷ []) (filter p rest) ∙ sym (ap (λ (b : Bool). front ++ cond b (x ∷ filter p rest) (filter p rest)) test) ∙ h

  pub counted_less : (front : List X) (x : X) (rest all : List X) → p x ≡ false → front ++ filter p (x ∷ rest) ≡ all → front ++ filter p rest ≡ all
  counted_less front x rest all test h = sym (ap (λ (b : Bool). front ++ cond b (x ∷ filter p rest) (filter p rest)) test) ∙ h

-- the next of some lists
pub next_of : {X Y : Type 0} (f : X → List Y) (front : List Y) (x : X) (rest : List X) (all : List Y) → front ++ flat_map f (x ∷ rest) ≡ all
    → (front ++ f x) ++ flat_map f rest ≡ all
next_of f front x rest all h = append_assoc front (f x) (flat_map f rest) ∙ sym (ap (λ l. front ++ l) (flat_map-cons f x rest)) ∙ h

-- and of what passes a test in them
pub next_passed : {X Y : Type 0} (p : Y → Bool) (f : X → List Y) (front : List Y) (x : X) (rest : List X) (all : List Y)
    → front ++ filter p (flat_map f (x ∷ rest)) ≡ all → (front ++ filter p (f x)) ++ filter p (flat_map f rest) ≡ all
next_passed p f front x rest all h =
    append_assoc front (filter p (f x)) (filter p (flat_map f rest))
    ∙ sym (ap (λ l. front ++ filter p l) (flat_map-cons f x rest) ∙ ap (λ l. front ++ l) (filter-append p (f x) (flat_map f rest))) ∙ h

module _ {X : Type 0} (P : X → Type 0) where
  each_has : (xs : List X) → ((y : X) → Has xs y → P y) → AllByRecursion P xs
  each_has [] f = tt
  each_has (x ∷ xs) f = (f x (inl refl), each_has xs (λ y h. f y (inr h)))

  -- what holds of each element holds of all
  pub all_from : (xs : List X) → ((y : X) → Has xs y → P y) → All P xs
  all_from xs f = All-from_recursion P xs (each_has xs f)

  -- what holds of all of two lists holds of all of each
  pub all_left : (xs ys : List X) → All P (xs ++ ys) → All P xs
  all_left xs ys all = all_from xs (λ y h. All-contains P (xs ++ ys) y all (has_to (xs ++ ys) y (has_left xs ys y h)))

  pub all_right : (xs ys : List X) → All P (xs ++ ys) → All P ys
  all_right xs ys all = all_from ys (λ y h. All-contains P (xs ++ ys) y all (has_to (xs ++ ys) y (has_right xs ys y h)))

  -- and of those that pass a test
  pub all_passed : (p : X → Bool) (xs : List X) → All P xs → All P (filter p xs)
  all_passed p xs all = all_from (filter p xs) (λ y h. All-contains P xs y all (has_to xs y (passed p xs y h).0))

-- and of the elements of lists
pub all_in : {X Y : Type 0} (P : Y → Type 0) (f : X → List Y) (xs : List X) → All (λ x. All P (f x)) xs → All P (flat_map f xs)
all_in P f [] all = all_from P [] (λ y h. absurd h)
all_in P f (x ∷ xs) all =
    subst (All P) (sym (flat_map-cons f x xs)) (All-append P (f x) (flat_map f xs) (All-head (λ y. All P (f y)) x xs all) (all_in P f xs (All-tail (λ y. All P (f y)) x xs all)))
