-- Notes by record number in ascending order: what is noted of a record, and the first note taken away.
use Rattle.std.proofs.Common.{◌≡◌, ◌≢◌, ℕ, ◌<◌, ◌==◌, true, false, true≢false, not, cond, Some, None, List, [], ◌∷◌, nat_lt, nat_cmp, Less, Equal, Greater}
use Rattle.std.proofs.Common.{Bool, refl, sym, ap, ◌∙◌, arith, ltb-true}
use Rattle.std.proofs.lemmas.Bool.{eq-eqb, ne_eqb}
use Rattle.std.specs.List.{AllByRecursion}
use Rattle.std.specs.List.Sorted.{IsStrictlySortedBy}
use Rattle.std.specs.Ordering.{is_lt}
use Rattle.std.specs.Map.{keys_of}
use Rattle.commit.specs.Machine.{note_at, without}

-- what holds of each note holds of it otherwise too
pub each : {X : Type 0} (P Q : X → Type 0) → ((x : X) → P x → Q x) → (xs : List X) → AllByRecursion P xs → AllByRecursion Q xs
each P Q f [] h = tt
each P Q f (x ∷ xs) h = (f x h.0, each P Q f xs h.1)

pub both : {X : Type 0} (P Q : X → Type 0) (xs : List X) → AllByRecursion P xs → AllByRecursion Q xs → AllByRecursion (λ x. P x × Q x) xs
both P Q [] h k = tt
both P Q (x ∷ xs) h k = ((h.0, k.0), both P Q xs h.1 k.1)

pub always : {X : Type 0} (P : X → Type 0) → ((x : X) → P x) → (xs : List X) → AllByRecursion P xs
always P f [] = tt
always P f (x ∷ xs) = (f x, always P f xs)

-- every note is of a record above this one
abbrev pub Above : {X : Type 0} → ℕ → List (ℕ × X) → Type 0
Above r notes = AllByRecursion (λ note. r < note.0) notes

-- the notes ascend
abbrev pub Ascend : {X : Type 0} → List (ℕ × X) → Type 0
Ascend [] = Unit {0}
Ascend (note ∷ notes) = Above note.0 notes × Ascend notes

not_less : (b : Bool) → is_lt (cond b Equal Greater) ≡ false
not_less true = refl
not_less false = refl

less : (m n : ℕ) → nat_cmp m n ≡ Less → m < n
less m n e = ltb-true m n (go (nat_lt m n) refl)
  where
    go : (b : Bool) → nat_lt m n ≡ b → nat_lt m n ≡ true
    go true is = is
    go false is = absurd (true≢false (ap is_lt (sym e) ∙ ap (λ b. is_lt (cond b Less (cond (m == n) Equal Greater))) is ∙ not_less (m == n)))

above : {X : Type 0} (r : ℕ) (notes : List (ℕ × X)) → AllByRecursion (λ n. nat_cmp r n ≡ Less) (keys_of notes) → Above r notes
above r [] h = tt
above r (note ∷ notes) h = (less r note.0 h.0, above r notes h.1)

pub ascend : {X : Type 0} (notes : List (ℕ × X)) → IsStrictlySortedBy nat_cmp (keys_of notes) → Ascend notes
unfolding IsStrictlySortedBy
ascend [] h = tt
ascend (note ∷ notes) h = (above note.0 notes h.0, ascend notes h.1)

pub held_first : {X : Type 0} (r : ℕ) (x : X) (notes : List (ℕ × X)) → note_at ((r, x) ∷ notes) r ≡ Some x
held_first r x notes = ap (λ b. cond b (Some x) (note_at notes r)) (eq-eqb r r refl)

pub held_later : {X : Type 0} (r k : ℕ) (x : X) (notes : List (ℕ × X)) → k ≢ r → note_at ((r, x) ∷ notes) k ≡ note_at notes k
held_later r k x notes other = ap (λ b. cond b (Some x) (note_at notes k)) (ne_eqb r k (λ e. other (sym e)))

pub held_above : {X : Type 0} (r : ℕ) (notes : List (ℕ × X)) → Above r notes → note_at notes r ≡ None
held_above r [] h = refl
held_above r (note ∷ notes) h = held_later note.0 r note.1 notes (omega (arith, h.0)) ∙ held_above r notes h.1

without_above : {X : Type 0} (r : ℕ) (notes : List (ℕ × X)) → Above r notes → without notes r ≡ notes
without_above r [] h = refl
without_above r (note ∷ notes) h =
    ap (λ b. cond (not b) (note ∷ without notes r) (without notes r)) (ne_eqb note.0 r (omega (arith, h.0)))
    ∙ ap (λ l. note ∷ l) (without_above r notes h.1)

pub without_first : {X : Type 0} (r : ℕ) (x : X) (notes : List (ℕ × X)) → Above r notes → without ((r, x) ∷ notes) r ≡ notes
without_first r x notes h =
    ap (λ b. cond (not b) ((r, x) ∷ without notes r) (without notes r)) (eq-eqb r r refl)
    ∙ without_above r notes h
