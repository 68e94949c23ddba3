-- Values that are set one after another; and worlds to which events lead, one after another.
use Rattle.std.proofs.Common.{◌≡◌, ◌≢◌, ⊎_elim, ℕ, zero, suc, ◌<◌, ◌≤◌, List, [], ◌∷◌, refl, sym, ◌∙◌, subst, arith}
use Rattle.std.proofs.lemmas.Bool.{cases_lt}
use Rattle.recover_crashes.proofs.Lists.{each_set, each_set_two}
use Rattle.recover_lives.specs.World.{Origin, Lives}
use Rattle.recover_lives.specs.Events.{LivesEvent, MayOccur, MayOccurInTurn, lives_after, lives_after_all, with_one}
use Rattle.recover_restart.specs.Lives.{MayLead}

module _ {X : Type 0} where
  pub with_same : (f : ℕ → X) (k : ℕ) (x : X) → with_one f k x k ≡ x
  with_same f k x = each_set (λ l (v : X). l ≡ k → v ≡ x) f k x (λ same. refl) (λ l other same. absurd (other same)) k refl

  pub with_other : (f : ℕ → X) (k : ℕ) (x : X) (l : ℕ) → l ≢ k → with_one f k x l ≡ f l
  with_other f k x = each_set (λ l (v : X). l ≢ k → v ≡ f l) f k x (λ other. absurd (other refl)) (λ l other same. refl)

  pub with_again : (f : ℕ → X) (k : ℕ) (x y : X) → with_one (with_one f k x) k y ≡ with_one f k y
  with_again f k x y = λ i l. each_set_two (λ j (v w : X). v ≡ w) (with_one f k x) f k y y refl (with_other f k x) l i

  pub with_own : (f : ℕ → X) (k : ℕ) → with_one f k (f k) ≡ f
  with_own f k = λ i l. each_set (λ j (v : X). v ≡ f j) f k (f k) refl (λ j other. refl) l i

  -- f at the numbers below this one, which are set one after another; behind them g
  abbrev pub set_below : ℕ → (ℕ → X) → (ℕ → X) → ℕ → X
  set_below zero f g = g
  set_below (suc k) f g = with_one (set_below k f g) k (f k)

  pub set_behind : (n : ℕ) (f g : ℕ → X) (l : ℕ) → n ≤ l → set_below n f g l ≡ g l
  set_behind zero f g l le = refl
  set_behind (suc k) f g l le =
      with_other (set_below k f g) k (f k) l (λ same. omega (arith, le, same)) ∙ set_behind k f g l (omega (arith, le))

  pub set_front : (n : ℕ) (f g : ℕ → X) (l : ℕ) → l < n → set_below n f g l ≡ f l
  set_front zero f g l less = absurd (omega (arith, less))
  set_front (suc k) f g l less = ⊎_elim
      (λ (before : l < k). with_other (set_below k f g) k (f k) l (λ same. omega (arith, before, same)) ∙ set_front k f g l before)
      (λ (after : k ≤ l). let same : k ≡ l = omega (arith, less, after) in
      subst (λ (j : ℕ). with_one (set_below k f g) k (f k) j ≡ f j) same (with_same (set_below k f g) k (f k)))
      (cases_lt l k)

  set_each : (n : ℕ) (f g : ℕ → X) → ((l : ℕ) → n ≤ l → g l ≡ f l) → (l : ℕ) → set_below n f g l ≡ f l
  set_each n f g behind l = ⊎_elim
      (λ (less : l < n). set_front n f g l less)
      (λ (le : n ≤ l). set_behind n f g l le ∙ behind l le)
      (cases_lt l n)

  pub set_all : (n : ℕ) (f g : ℕ → X) → ((l : ℕ) → n ≤ l → g l ≡ f l) → set_below n f g ≡ f
  set_all n f g behind = λ i l. set_each n f g behind l i

module _ (o : Origin) where
  pub stays : (w : Lives) → MayLead o w w
  stays w = record { events = []; may_occur = tt; ends = refl }

  pub by_one : (w : Lives) (event : LivesEvent) → MayOccur o w event → MayLead o w (lives_after o w event)
  by_one w event may = record { events = event ∷ []; may_occur = (may, tt); ends = refl }

  led_by : (w v : Lives) (events : List LivesEvent) → MayOccurInTurn o w events
      → MayLead o (lives_after_all o w events) v → MayLead o w v
  led_by w v [] may rest = rest
  led_by w v (event ∷ events) may rest =
      let next : MayLead o (lives_after o w event) v = led_by (lives_after o w event) v events may.1 rest in
      record { events = event ∷ next.events; may_occur = (may.0, next.may_occur); ends = next.ends }

  pub and_then : (u v w : Lives) → MayLead o u v → MayLead o v w → MayLead o u w
  and_then u v w first second =
      led_by u w first.events first.may_occur (subst (λ (x : Lives). MayLead o x w) (sym first.ends) second)

  pub in_turn : (n : ℕ) (at : ℕ → Lives) → ((k : ℕ) → k < n → MayLead o (at k) (at (suc k))) → MayLead o (at zero) (at n)
  in_turn zero at each = stays (at zero)
  in_turn (suc n) at each =
      and_then (at zero) (at n) (at (suc n)) (in_turn n at (λ k less. each k (omega (arith, less)))) (each n (omega arith))
