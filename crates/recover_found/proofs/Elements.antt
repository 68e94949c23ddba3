-- The elements of a list, by recursion.
use Rattle.std.proofs.Common.{◌≡◌, ◌⊎◌, inl, inr, ⊎_elim, Bool, true, false, true≢false, cond, List, [], ◌∷◌, ◌++◌, map, refl, sym, ap, ◌∙◌, subst}
use Rattle.std.specs.List.{AllByRecursion, Contains, filter}
use Rattle.std.proofs.lemmas.List.Elements.{All-contains, All-from_recursion, Contains-append_left, Contains-append_right, Contains-push}

module _ {X : Type 0} where
  abbrev pub Has : List X → X → Type 0
  Has [] y = ⊥
  Has (x ∷ xs) y = (x ≡ y) ⊎ Has xs y

  each_of : (P : X → Type 0) (xs : List X) → ((y : X) → Has xs y → P y) → AllByRecursion P xs
  each_of P [] f = tt
  each_of P (x ∷ xs) f = (f x (inl refl), each_of P xs (λ y h. f y (inr h)))

  pub has_from : (xs : List X) (y : X) → Contains xs y → Has xs y
  has_from xs y h = All-contains (Has xs) xs y (All-from_recursion (Has xs) xs (each_of (Has xs) xs (λ z k. k))) h

  pub has_to : (xs : List X) (y : X) → Has xs y → Contains xs y
  has_to [] y h = absurd h
  has_to (x ∷ xs) y (inl e) = subst (Contains (x ∷ xs)) e (Contains-append_left (x ∷ []) xs x (Contains-push [] x))
  has_to (x ∷ xs) y (inr h) = Contains-append_right (x ∷ []) xs y (has_to xs y h)

  pub has_left : (xs ys : List X) (y : X) → Has xs y → Has (xs ++ ys) y
  has_left [] ys y never = elim never [ ]
  has_left (x ∷ xs) ys y (inl e) = inl e
  has_left (x ∷ xs) ys y (inr h) = inr (has_left xs ys y h)

  pub has_right : (xs ys : List X) (y : X) → Has ys y → Has (xs ++ ys) y
  has_right [] ys y h = h
  has_right (x ∷ xs) ys y h = inr (has_right xs ys y h)

  pub has_either : (xs ys : List X) (y : X) → Has (xs ++ ys) y → Has xs y ⊎ Has ys y
  has_either [] ys y h = inr h
  has_either (x ∷ xs) ys y (inl e) = inl (inl e)
  has_either (x ∷ xs) ys y (inr h) = ⊎_elim (λ k. inl (inr k)) (λ k. inr k) (has_either xs ys y h)

  -- an element of those that pass a test
  pub passed : (p : X → Bool) (xs : List X) (y : X) → Has (filter p xs) y → Has xs y × (p y ≡ true)
  passed p [] y h = elim h [ ]
  passed p (x ∷ xs) y h =
      elim (p x) as (λ b. p x ≡ b → Has (cond b (x ∷ filter p xs) (filter p xs)) y → Has (x ∷ xs) y × (p y ≡ true)) [
        | true ↦ λ test k. ⊎_elim (λ e. (inl e, subst (λ z. p z ≡ true) e test)) (λ m. let rest = passed p xs y m in (inr rest.0, rest.1)) k
        | false ↦ λ test k. let rest = passed p xs y k in (inr rest.0, rest.1)
      ] refl h

  pub passes : (p : X → Bool) (xs : List X) (y : X) → Has xs y → p y ≡ true → Has (filter p xs) y
  passes p [] y h test = elim h [ ]
  passes p (x ∷ xs) y h test =
      elim (p x) as (λ b. p x ≡ b → Has (cond b (x ∷ filter p xs) (filter p xs)) y) [
        | true ↦ λ _. ⊎_elim (λ e. inl e) (λ m. inr (passes p xs y m test)) h
        | false ↦ λ fails. ⊎_elim (λ e. absurd (true≢false (sym (sym fails ∙ ap p e ∙ test)))) (λ m. passes p xs y m test) h
      ] refl

-- an element of a mapped list
pub mapped : {X Y : Type 0} (f : X → Y) (xs : List X) (y : Y) → Has (map f xs) y → (x : X) × Has xs x × (f x ≡ y)
mapped f [] y never = elim never [ ]
mapped f (x ∷ xs) y (inl e) = (x, inl refl, e)
mapped f (x ∷ xs) y (inr h) = let rest = mapped f xs y h in (rest.0, inr rest.1, rest.2)

pub maps : {X Y : Type 0} (f : X → Y) (xs : List X) (x : X) → Has xs x → Has (map f xs) (f x)
maps f [] x never = elim never [ ]
maps f (z ∷ xs) x (inl e) = inl (ap f e)
maps f (z ∷ xs) x (inr h) = inr (maps f xs x h)
