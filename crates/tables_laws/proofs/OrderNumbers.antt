-- The numbers of the orders that pass a test: the least, the greatest and how many there are, after an insert at a new key.
use Rattle.std.proofs.Common.{◌≡◌, ℕ, ◌+◌, ◌<◌, ◌≤◌, max, min, Bool, true, false, cond, List, ◌∷◌, map, length, filter, Option, Some, None, refl, ap, arith}
use Rattle.std.specs.Option.{option_map_or}
use Rattle.std.specs.FinMap.{FinMap, get, insert}
use Rattle.tables.specs.Keys.{order_cmp}
use Rattle.tables.specs.OrderNumbers.{least, greatest, order_numbers}
use Rattle.tables.specs.declared.keys.OrderKey.{OrderKey}
use Rattle.tables.proofs.Orders.{exact_order}
use Rattle.tables.proofs.OrderNumbers.{greatest-each}
use Rattle.tables_laws.proofs.Rows.{absent}
use Rattle.tables_laws.proofs.Inserts.{collected-insert}

-- the greatest, the least and the count with one number more, where it passes
abbrev pub with_greater : Bool → ℕ → ℕ → ℕ
with_greater passes n g = cond passes (max n g) g

abbrev pub with_lesser : Bool → ℕ → Option ℕ → Option ℕ
with_lesser passes n l = cond passes (Some (option_map_or (min n) l n)) l

abbrev pub with_one : Bool → ℕ → ℕ
with_one passes c = cond passes (c + 1) c

with_greater-swap : (a b : Bool) (x y g : ℕ) → with_greater a x (with_greater b y g) ≡ with_greater b y (with_greater a x g)
with_greater-swap true true x y g = omega arith
with_greater-swap true false x y g = refl
with_greater-swap false true x y g = refl
with_greater-swap false false x y g = refl

with_lesser-swap : (a b : Bool) (x y : ℕ) (l : Option ℕ) → with_lesser a x (with_lesser b y l) ≡ with_lesser b y (with_lesser a x l)
with_lesser-swap true true x y None = ap Some (let e : min x y ≡ min y x = omega arith in e)
with_lesser-swap true true x y (Some l) = ap Some (let e : min x (min y l) ≡ min y (min x l) = omega arith in e)
with_lesser-swap true false x y l = refl
with_lesser-swap false true x y l = refl
with_lesser-swap false false x y l = refl

with_one-swap : (a b : Bool) (c : ℕ) → with_one a (with_one b c) ≡ with_one b (with_one a c)
with_one-swap true true c = refl
with_one-swap true false c = refl
with_one-swap false true c = refl
with_one-swap false false c = refl

module _ {X : Type 0} (p : OrderKey × X → Bool) where
  -- the numbers among some entries
  abbrev numbers : List (OrderKey × X) → List ℕ
  numbers es = map (λ (e : OrderKey × X). e.0.order) (filter p es)

  greatest-cons : (e : OrderKey × X) (es : List (OrderKey × X)) → greatest (numbers (e ∷ es)) ≡ with_greater (p e) e.0.order (greatest (numbers es))
  greatest-cons e es = elim (p e) as
      (λ b. greatest (map (λ (e : OrderKey × X). e.0.order) (cond b (e ∷ filter p es) (filter p es))) ≡ with_greater b e.0.order (greatest (numbers es)))
      [ true ↦ refl | false ↦ refl ]

  least-cons : (e : OrderKey × X) (es : List (OrderKey × X)) → least (numbers (e ∷ es)) ≡ with_lesser (p e) e.0.order (least (numbers es))
  least-cons e es = elim (p e) as
      (λ b. least (map (λ (e : OrderKey × X). e.0.order) (cond b (e ∷ filter p es) (filter p es))) ≡ with_lesser b e.0.order (least (numbers es)))
      [ true ↦ refl | false ↦ refl ]

  length-cons : (e : OrderKey × X) (es : List (OrderKey × X)) → length (numbers (e ∷ es)) ≡ with_one (p e) (length (numbers es))
  length-cons e es = elim (p e) as
      (λ b. length (map (λ (e : OrderKey × X). e.0.order) (cond b (e ∷ filter p es) (filter p es))) ≡ with_one b (length (numbers es)))
      [ true ↦ omega arith | false ↦ refl ]

  pub greatest-insert : (m : FinMap order_cmp X) (k : OrderKey) (v : X) → get m k ≡ None
      → greatest (order_numbers p (insert m k v)) ≡ with_greater (p (k, v)) k.order (greatest (order_numbers p m))
  greatest-insert m k v none = collected-insert exact_order (λ es. greatest (numbers es)) (λ e g. with_greater (p e) e.0.order g) greatest-cons
      (λ a b g. with_greater-swap (p a) (p b) a.0.order b.0.order g) m k v none

  pub least-insert : (m : FinMap order_cmp X) (k : OrderKey) (v : X) → get m k ≡ None
      → least (order_numbers p (insert m k v)) ≡ with_lesser (p (k, v)) k.order (least (order_numbers p m))
  least-insert m k v none = collected-insert exact_order (λ es. least (numbers es)) (λ e l. with_lesser (p e) e.0.order l) least-cons
      (λ a b l. with_lesser-swap (p a) (p b) a.0.order b.0.order l) m k v none

  pub length-insert : (m : FinMap order_cmp X) (k : OrderKey) (v : X) → get m k ≡ None
      → length (order_numbers p (insert m k v)) ≡ with_one (p (k, v)) (length (order_numbers p m))
  length-insert m k v none = collected-insert exact_order (λ es. length (numbers es)) (λ e c. with_one (p e) c) length-cons
      (λ a b c. with_one-swap (p a) (p b) c) m k v none

  -- a number above the greatest is new
  pub none_above : (m : FinMap order_cmp X) (k : OrderKey) → greatest (order_numbers p m) < k.order → ((r : X) → p (k, r) ≡ true) → get m k ≡ None
  none_above m k above passes =
      absent m k (λ r found. let h : k.order ≤ greatest (order_numbers p m) = greatest-each p m k r found (passes r) in absurd (omega arith))
