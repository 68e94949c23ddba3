-- Bodies, tests and histories that are joined.
use Rattle.std.proofs.Common.{◌≡◌, ℕ, zero, suc, ◌+◌, ◌<◌, ◌≤◌, Bool, true, false, cond, ◌||◌, List, [], ◌∷◌, ◌++◌, length, refl, ap, ◌∙◌, subst, arith}
use Rattle.std.specs.Prelude.{filter}
use Rattle.std.specs.List.{All}
use Rattle.std.proofs.lemmas.List.Elements.{All-append, All-head, All-tail, All-weaker}
use Rattle.std.proofs.lemmas.Bool.{or_from, or_left, or_right, or_parts}
use Rattle.tables.specs.Database.{Database}
use Rattle.tables.specs.Apply.{after}
use Rattle.tidword.specs.TidWord.{epoch_of}
use Rattle.log_text.specs.Bodies.{BodyView, mark_of, voids}
use Rattle.book.specs.Batches.{BatchView}
use Rattle.book.specs.History.{Replays, replay}
use Rattle.book.specs.Stamps.{AreStamped, Follows}
use Rattle.book.specs.declared.entry.Entry.{Entry}
use Rattle.recover_found.specs.Found.{last_mark, void_in}
use Rattle.recover_crashes.specs.Recovering.{any_below}
use Rattle.recover_crashes.specs.Lanes.{bodies_of}
use Rattle.recover_crashes.proofs.Lists.{kept_here}

-- ---- bodies
pub mark_join : (before : ℕ) (xs ys : List BodyView) → last_mark before (xs ++ ys) ≡ last_mark (last_mark before xs) ys
mark_join before [] ys = refl
mark_join before (x ∷ xs) ys = mark_join (mark_of x) xs ys

or_assoc : (a b c : Bool) → (a || (b || c)) ≡ ((a || b) || c)
or_assoc true b c = refl
or_assoc false b c = refl

pub void_join : (xs ys : List BodyView) (epoch : ℕ) → void_in (xs ++ ys) epoch ≡ (void_in xs epoch || void_in ys epoch)
void_join [] ys epoch = refl
void_join (x ∷ xs) ys epoch = ap (λ (b : Bool). voids x epoch || b) (void_join xs ys epoch) ∙ or_assoc (voids x epoch) (void_in xs epoch) (void_in ys epoch)

-- batches declare nothing void
no_voids : (batches : List BatchView) (epoch : ℕ) → void_in (bodies_of batches) epoch ≡ false
no_voids [] epoch = refl
no_voids (b ∷ bs) epoch = no_voids bs epoch

or_false : (a : Bool) → (a || false) ≡ a
or_false true = refl
or_false false = refl

pub void_behind : (xs : List BodyView) (batches : List BatchView) (epoch : ℕ) → void_in (xs ++ bodies_of batches) epoch ≡ void_in xs epoch
void_behind xs batches epoch =
    void_join xs (bodies_of batches) epoch ∙ ap (λ (b : Bool). void_in xs epoch || b) (no_voids batches epoch) ∙ or_false (void_in xs epoch)

-- ---- tests of the numbers below one
pub any_same : (n : ℕ) (f g : ℕ → Bool) → ((l : ℕ) → l < n → f l ≡ g l) → any_below n f ≡ any_below n g
any_same zero f g same = refl
any_same (suc n) f g same = λ i. same zero (omega arith) i || any_same n (λ l. f (suc l)) (λ l. g (suc l)) (λ l lt. same (suc l) (omega (arith, lt))) i

pub any_false : (n : ℕ) (f : ℕ → Bool) → ((l : ℕ) → l < n → f l ≡ false) → any_below n f ≡ false
any_false zero f none = refl
any_false (suc n) f none = or_from (f zero) _ (none zero (omega arith)) (any_false n (λ l. f (suc l)) (λ l lt. none (suc l) (omega (arith, lt))))

pub any_at : (n : ℕ) (f : ℕ → Bool) (l : ℕ) → l < n → any_below n f ≡ false → f l ≡ false
any_at zero f l lt none = absurd (omega (arith, lt))
any_at (suc n) f zero lt none = (or_parts (f zero) _ none).0
any_at (suc n) f (suc l) lt none = any_at n (λ k. f (suc k)) l (omega (arith, lt)) (or_parts (f zero) _ none).1

pub any_true : (n : ℕ) (f : ℕ → Bool) (l : ℕ) → l < n → f l ≡ true → any_below n f ≡ true
any_true zero f l lt is = absurd (omega (arith, lt))
any_true (suc n) f zero lt is = or_left (f zero) _ is
any_true (suc n) f (suc l) lt is = or_right (f zero) _ (any_true n (λ k. f (suc k)) l (omega (arith, lt)) is)

pub any_tells : (n : ℕ) (f : ℕ → Bool) → any_below n f ≡ true → (l : ℕ) × (l < n) × (f l ≡ true)
any_tells zero f is = absurd cc
any_tells (suc n) f is = by (any_tells n (λ l. f (suc l))) (f zero) refl is
  where
    by : (any_below n (λ l. f (suc l)) ≡ true → (l : ℕ) × (l < n) × (f (suc l) ≡ true))
        → (b : Bool) → f zero ≡ b → (b || any_below n (λ l. f (suc l))) ≡ true → (l : ℕ) × (l < suc n) × (f l ≡ true)
    by later true here _ = (zero, omega arith, here)
    by later false _ there = let t = later there in (suc t.0, omega (arith, t.1), t.2)

-- ---- lists
pub filter_same : {X : Type 0} (p q : X → Bool) (xs : List X) → All (λ x. p x ≡ q x) xs → filter p xs ≡ filter q xs
filter_same p q [] same = refl
filter_same p q (x ∷ xs) same =
    λ i. cond (All-head (λ y. p y ≡ q y) x xs same i) (x ∷ filter_same p q xs (All-tail (λ y. p y ≡ q y) x xs same) i)
    (filter_same p q xs (All-tail (λ y. p y ≡ q y) x xs same) i)

pub filter_all : {X : Type 0} (p : X → Bool) (xs : List X) → All (λ x. p x ≡ true) xs → filter p xs ≡ xs
filter_all p [] all = refl
filter_all p (x ∷ xs) all =
    kept_here p x xs (All-head (λ y. p y ≡ true) x xs all) ∙ ap (λ l. x ∷ l) (filter_all p xs (All-tail (λ y. p y ≡ true) x xs all))

-- what was kept once is kept again
pub filter_again : {X : Type 0} (p : X → Bool) (xs : List X) → filter p (filter p xs) ≡ filter p xs
filter_again p [] = refl
filter_again p (x ∷ xs) = elim (p x) as (λ b. p x ≡ b → filter p (cond b (x ∷ filter p xs) (filter p xs)) ≡ cond b (x ∷ filter p xs) (filter p xs)) [
  | true ↦ λ t. ap (λ b. cond b (x ∷ filter p (filter p xs)) (filter p (filter p xs))) t ∙ ap (λ l. x ∷ l) (filter_again p xs)
  | false ↦ λ _. filter_again p xs
] refl

-- ---- histories
pub replays_join : (n : ℕ) (t : Database) (xs ys : List Entry) → Replays n t xs → Replays (n + length xs) (replay t xs) ys → Replays n t (xs ++ ys)
replays_join n t [] ys first later = subst (λ (m : ℕ). Replays m t ys) (none n) later
  where
    none : (m : ℕ) → m + zero ≡ m
    none m = omega arith
replays_join n t (x ∷ xs) ys first later =
    (first.0, first.1, replays_join (n + 1) (after t x.input) xs ys first.2 (subst (λ (m : ℕ). Replays m (replay t (x ∷ xs)) ys) (more n (length xs)) later))
  where
    more : (a b : ℕ) → a + suc b ≡ a + 1 + b
    more a b = omega arith

-- an entry of a later epoch has a larger TID
follows_later : (a b : Entry) → epoch_of a.tid < epoch_of b.tid → Follows a b
follows_later a b later =
    let greater : a.tid < b.tid = omega (arith, later) in
    record { epochs = omega (arith, later); records = λ n x y. greater; terminals = λ e. greater }

pub stamped_join : (base : ℕ) (xs ys : List Entry) → AreStamped xs → AreStamped ys → All (λ e. epoch_of e.tid ≤ base) xs
    → All (λ e. base < epoch_of e.tid) ys → AreStamped (xs ++ ys)
stamped_join base [] ys first later low high = later
stamped_join base (x ∷ xs) ys first later low high =
    let here : epoch_of x.tid ≤ base = All-head (λ (e : Entry). epoch_of e.tid ≤ base) x xs low in (
      first.0,
      All-append (Follows x) xs ys first.1
          (All-weaker (λ (e : Entry). base < epoch_of e.tid) (Follows x) (λ e above. follows_later x e (omega (arith, here, above))) ys high),
      stamped_join base xs ys first.2 later (All-tail (λ (e : Entry). epoch_of e.tid ≤ base) x xs low) high,
    )
