-- What a test keeps of a list, and functions that are changed at one number.
use Rattle.std.proofs.Common.{◌≡◌, ◌≢◌, ℕ, zero, suc, ◌<◌, ◌≤◌, ◌==◌, Bool, true, false, cond, List, [], ◌∷◌, ◌++◌, length, map}
use Rattle.std.proofs.Common.{refl, sym, ap, ◌∙◌, subst, ◌⊎◌, inl, inr, ⊎_elim, arith}
use Rattle.std.specs.Prelude.{filter, slice_index_or}
use Rattle.std.specs.List.{All, Contains}
use Rattle.std.proofs.lemmas.Bool.Decides.{eqb_tells, leb_tells}
use Rattle.std.proofs.lemmas.Bool.{cases_eq}
use Rattle.std.proofs.Math.Logic.{⊎_map}
use Rattle.std.proofs.lemmas.List.{get_or_append_left, length-append}
use Rattle.std.proofs.lemmas.List.Elements.{All-contains, All-head, All-tail, Contains-append_right}

module _ {X : Type 0} (p : X → Bool) where
  pub kept_here : (x : X) (xs : List X) → p x ≡ true → filter p (x ∷ xs) ≡ x ∷ filter p xs
  kept_here x xs e = ap (λ (b : Bool). cond b (x ∷ filter p xs) (filter p xs)) e

  pub left_out : (x : X) (xs : List X) → p x ≡ false → filter p (x ∷ xs) ≡ filter p xs
  left_out x xs e = ap (λ (b : Bool). cond b (x ∷ filter p xs) (filter p xs)) e

  pub none_kept : (xs : List X) → All (λ x. p x ≡ false) xs → filter p xs ≡ []
  none_kept [] h = refl
  none_kept (x ∷ xs) h =
      left_out x xs (All-head (λ (y : X). p y ≡ false) x xs h) ∙ none_kept xs (All-tail (λ (y : X). p y ≡ false) x xs h)

  -- what is in the list and passes is kept
  pub kept_if_there : (xs : List X) (x : X) → Contains xs x → p x ≡ true → Contains (filter p xs) x
  kept_if_there [] x h e = absurd (omega (arith, h.1))
  kept_if_there (y ∷ ys) x h e = at (λ there. kept_if_there ys x there e) h.0 h.1 h.2
    where
      more : (b : Bool) → Contains (filter p ys) x → Contains (cond b (y ∷ filter p ys) (filter p ys)) x
      more true there = Contains-append_right (y ∷ []) (filter p ys) x there
      more false there = there

      at : (Contains ys x → Contains (filter p ys) x) → (k : ℕ) → k < length (y ∷ ys) → slice_index_or (y ∷ ys) k x ≡ x → Contains (filter p (y ∷ ys)) x
      at later zero lt is = subst (λ (l : List X). Contains l x) (sym (kept_here y ys (ap p is ∙ e))) (zero, omega arith, is)
      at later (suc k) lt is = more (p y) (later (k, omega (arith, lt), is))

-- two tests, in either order
pub tests_commute : {X : Type 0} (p q : X → Bool) (xs : List X) → filter p (filter q xs) ≡ filter q (filter p xs)
tests_commute p q [] = refl
tests_commute {X = X} p q (x ∷ xs) = by (tests_commute p q xs) (p x) (q x) refl refl
  where
    by : filter p (filter q xs) ≡ filter q (filter p xs) → (b c : Bool) → p x ≡ b → q x ≡ c → filter p (filter q (x ∷ xs)) ≡ filter q (filter p (x ∷ xs))
    by same true true e f =
        ap (filter p) (kept_here q x xs f) ∙ kept_here p x (filter q xs) e ∙ ap (λ (l : List X). x ∷ l) same
        ∙ sym (kept_here q x (filter p xs) f) ∙ sym (ap (filter q) (kept_here p x xs e))
    by same true false e f =
        ap (filter p) (left_out q x xs f) ∙ same ∙ sym (left_out q x (filter p xs) f) ∙ sym (ap (filter q) (kept_here p x xs e))
    by same false true e f =
        ap (filter p) (kept_here q x xs f) ∙ left_out p x (filter q xs) e ∙ same ∙ sym (ap (filter q) (left_out p x xs e))
    by same false false e f = ap (filter p) (left_out q x xs f) ∙ same ∙ sym (ap (filter q) (left_out p x xs e))

-- a test of what a function gives
pub test_of_map : {X Y : Type 0} (p : Y → Bool) (f : X → Y) (xs : List X) → filter p (map f xs) ≡ map f (filter (λ x. p (f x)) xs)
test_of_map p f [] = refl
test_of_map {X = X} {Y = Y} p f (x ∷ xs) =
    ap (λ (l : List Y). cond (p (f x)) (f x ∷ l) l) (test_of_map p f xs) ∙ by (p (f x))
  where
    by : (b : Bool) → cond b (f x ∷ map f (filter (λ y. p (f y)) xs)) (map f (filter (λ y. p (f y)) xs))
        ≡ map f (cond b (x ∷ filter (λ y. p (f y)) xs) (filter (λ y. p (f y)) xs))
    by true = refl
    by false = refl

-- what holds of all holds of the first ones
pub all_in_front : {X : Type 0} (P : X → Type 0) (xs ys : List X) → All P (xs ++ ys) → All P xs
all_in_front P xs ys h k d lt =
    let long = length-append xs ys in subst P (get_or_append_left xs ys d k lt) (h k d (omega (arith, lt, long)))

-- and of the last ones
pub all_behind : {X : Type 0} (P : X → Type 0) (xs ys : List X) → All P (xs ++ ys) → All P ys
all_behind P [] ys h = h
all_behind P (x ∷ xs) ys h = all_behind P xs ys (All-tail P x (xs ++ ys) h)

-- what is in two lists and isn't like all of the second is in the first
pub in_front : {X : Type 0} (P : X → Type 0) (xs ys : List X) (x : X) → (P x → ⊥) → All P ys → Contains (xs ++ ys) x → Contains xs x
in_front P [] ys x not all there = absurd (not (All-contains P ys x all there))
in_front {X = X} P (y ∷ xs) ys x not all there = at (in_front P xs ys x not all) there.0 there.1 there.2
  where
    at : (Contains (xs ++ ys) x → Contains xs x) → (k : ℕ) → k < length (y ∷ (xs ++ ys)) → slice_index_or (y ∷ (xs ++ ys)) k x ≡ x
        → Contains (y ∷ xs) x
    at later zero lt is = (zero, omega arith, is)
    at later (suc k) lt is = Contains-append_right (y ∷ []) xs x (later (k, omega (arith, lt), is))

-- what a function makes of an element is in the mapped list
pub in_map : {X Y : Type 0} (f : X → Y) (xs : List X) (x : X) → Contains xs x → Contains (map f xs) (f x)
in_map f [] x there = absurd (omega (arith, there.1))
in_map {X = X} {Y = Y} f (y ∷ ys) x there = at (in_map f ys x) there.0 there.1 there.2
  where
    at : (Contains ys x → Contains (map f ys) (f x)) → (k : ℕ) → k < length (y ∷ ys) → slice_index_or (y ∷ ys) k x ≡ x
        → Contains (f y ∷ map f ys) (f x)
    at later zero lt is = (zero, omega arith, ap f is)
    at later (suc k) lt is = Contains-append_right (f y ∷ []) (map f ys) (f x) (later (k, omega (arith, lt), is))

-- what holds at each number holds once a function is changed at one of them
pub each_set : {X : Type 0} (P : ℕ → X → Type 0) (f : ℕ → X) (k : ℕ) (x : X) → P k x → ((l : ℕ) → l ≢ k → P l (f l))
    → (l : ℕ) → P l (cond (l == k) x (f l))
each_set P f k x here there l = ⊎_elim
    (λ yes. subst (λ (b : Bool). P l (cond b x (f l))) (sym yes.0) (subst (λ (j : ℕ). P j x) (sym yes.1) here))
    (λ no. subst (λ (b : Bool). P l (cond b x (f l))) (sym no.0) (there l no.1))
    (eqb_tells l k)

-- and once two are
pub each_set_two : {X Y : Type 0} (P : ℕ → X → Y → Type 0) (f : ℕ → X) (g : ℕ → Y) (k : ℕ) (x : X) (y : Y) → P k x y
    → ((l : ℕ) → l ≢ k → P l (f l) (g l)) → (l : ℕ) → P l (cond (l == k) x (f l)) (cond (l == k) y (g l))
each_set_two P f g k x y here there l = ⊎_elim
    (λ yes. subst (λ (b : Bool). P l (cond b x (f l)) (cond b y (g l))) (sym yes.0) (subst (λ (j : ℕ). P j x y) (sym yes.1) here))
    (λ no. subst (λ (b : Bool). P l (cond b x (f l)) (cond b y (g l))) (sym no.0) (there l no.1))
    (eqb_tells l k)

-- the least value at some numbers
pub record IsLeast (n : ℕ) (f : ℕ → ℕ) (least : ℕ) : Type 0 where
  pub among : (l : ℕ) × (l < n) × (f l ≡ least)
  pub below : (l : ℕ) → l < n → least ≤ f l

pub least_of : (n : ℕ) (f : ℕ → ℕ) → (least : ℕ) × IsLeast (suc n) f least
least_of zero f = (
  f zero,
  record {
    among = (zero, omega arith, refl);
    below = λ l lt. let e : zero ≡ l = omega arith in subst (λ (k : ℕ). f zero ≤ f k) e (omega arith);
  },
)
least_of (suc n) f = by (least_of n f).0 (least_of n f).1
  where
    by : (d : ℕ) → IsLeast (suc n) f d → (least : ℕ) × IsLeast (suc (suc n)) f least
    by d is = ⊎_elim
        (λ (no_less : d ≤ f (suc n)). (
          d,
          record {
            among = (is.among.0, omega (arith, is.among.1), is.among.2);
            below = λ l lt. ⊎_elim
                (λ (e : l ≡ suc n). subst (λ (k : ℕ). d ≤ f k) (sym e) no_less)
                (λ (e : l ≢ suc n). is.below l (omega (arith, e)))
                (cases_eq l (suc n));
          },
        ))
        (λ (less : f (suc n) < d). (
          f (suc n),
          record {
            among = (suc n, omega arith, refl);
            below = λ l lt. ⊎_elim
                (λ (e : l ≡ suc n). subst (λ (k : ℕ). f (suc n) ≤ f k) (sym e) (omega arith))
                (λ (e : l ≢ suc n). omega (arith, less, is.below l (omega (arith, e))))
                (cases_eq l (suc n));
          },
        ))
        (⊎_map (λ t. t.1) (λ t. t.1) (leb_tells d (f (suc n))))

-- what there is at each number below n, as a function of all numbers
pub chosen_below : {X : Type 0} (n : ℕ) (P : ℕ → X → Type 0) (none : X) → ((l : ℕ) → l < n → (x : X) × P l x)
    → (f : ℕ → X) × ((l : ℕ) → l < n → P l (f l))
chosen_below {X = X} n P none each = (λ l. pick l (side l), λ l lt. holds l (side l) lt)
  where
    side : (l : ℕ) → (n ≤ l) ⊎ (l < n)
    side l = ⊎_map (λ t. t.1) (λ t. t.1) (leb_tells n l)

    pick : (l : ℕ) → (n ≤ l) ⊎ (l < n) → X
    pick l (inl past) = none
    pick l (inr lt) = (each l lt).0

    holds : (l : ℕ) (s : (n ≤ l) ⊎ (l < n)) → l < n → P l (pick l s)
    holds l (inl past) lt = absurd (omega (arith, past, lt))
    holds l (inr lt) _ = (each l lt).1
