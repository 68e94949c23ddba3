-- What lists of notes have of a record.
use Rattle.std.proofs.Common.{◌≡◌, ◌≢◌, ℕ, Bool, true, false, true≢false, cond, not, Option, Some, None, List, [], ◌∷◌, ◌++◌, eqb, refl, sym, ap, ◌∙◌, subst}
use Rattle.std.proofs.Common.{⊎_elim, eqb-true, eq-eqb, inl, inr, ◌⊎◌}
use Rattle.std.proofs.lemmas.Bool.{cases_eq}
use Rattle.commit.specs.Machine.{note_at, without}
use Rattle.commit.proofs.NoteLists.{Above, Ascend, held_above, held_first as first_held, held_later}

pub other_test : (n m : ℕ) → n ≢ m → eqb n m ≡ false
other_test n m never = go (eqb n m) refl
  where
    go : (b : Bool) → eqb n m ≡ b → b ≡ false
    go true e = absurd (never (eqb-true n m e))
    go false e = refl

-- a property of the test of two numbers, from each of its answers
pub by_test : (P : Bool → Type 0) (n m : ℕ) → (n ≡ m → P true) → (n ≢ m → P false) → P (eqb n m)
by_test P n m same other = ⊎_elim
    (λ (e : n ≡ m). subst P (sym (eq-eqb n m e)) (same e))
    (λ (e : n ≢ m). subst P (sym (other_test n m e)) (other e))
    (cases_eq n m)

pub never_both : {X : Type 0} {x : X} {o : Option X} → o ≡ None → o ≡ Some x → ⊥
never_both {X} {x} {o} none some = true≢false (ap is_here (sym some ∙ none))
  where
    is_here : Option X → Bool
    is_here (Some _) = true
    is_here None = false

pub same_value : {X : Type 0} {x y : X} → Some x ≡ Some y → x ≡ y
same_value {X} {x} {y} e = ap (λ o. value_of o) e
  where
    value_of : Option X → X
    value_of (Some z) = z
    value_of None = x

-- nothing is note_at, or something
pub cases_held : {X : Type 0} (o : Option X) → (o ≡ None) ⊎ ((x : X) × (o ≡ Some x))
cases_held None = inl refl
cases_held (Some x) = inr (x, refl)

-- what isn't there
pub none_of : {X : Type 0} (o : Option X) → ((x : X) → o ≡ Some x → ⊥) → o ≡ None
none_of None never = refl
none_of (Some x) never = absurd (never x refl)

-- one note more, at the end
pub held_more : {X : Type 0} (notes : List (ℕ × X)) (r : ℕ) (v : X) (k : ℕ) (u : X) → note_at (notes ++ (r, v) ∷ []) k ≡ Some u → (note_at notes k ≡ Some u)
    ⊎ ((r ≡ k) × (v ≡ u))
held_more [] r v k u = by_test (λ b. cond b (Some v) None ≡ Some u → (None ≡ Some u) ⊎ ((r ≡ k) × (v ≡ u))) r k
    (λ e h. inr (e, same_value h))
    (λ e h. absurd (never_both refl h))
held_more (note ∷ notes) r v k u =
    by_test (λ b. cond b (Some note.1) (note_at (notes ++ (r, v) ∷ []) k) ≡ Some u → (cond b (Some note.1) (note_at notes k) ≡ Some u) ⊎ ((r ≡ k) × (v ≡ u)))
    note.0 k
    (λ e h. inl h)
    (λ e h. held_more notes r v k u h)

held_first : {X : Type 0} (note : ℕ × X) (notes : List (ℕ × X)) (k : ℕ) → note.0 ≡ k → note_at (note ∷ notes) k ≡ Some note.1
held_first note notes k e = ap (λ b. cond b (Some note.1) (note_at notes k)) (eq-eqb note.0 k e)

held_rest : {X : Type 0} (note : ℕ × X) (notes : List (ℕ × X)) (k : ℕ) → note.0 ≢ k → note_at (note ∷ notes) k ≡ note_at notes k
held_rest note notes k e = ap (λ b. cond b (Some note.1) (note_at notes k)) (other_test note.0 k e)

-- the notes without those of a record
pub held_without : {X : Type 0} (notes : List (ℕ × X)) (r : ℕ) → note_at (without notes r) r ≡ None
held_without [] r = refl
held_without (note ∷ notes) r = by_test (λ b. note_at (cond (not b) (note ∷ without notes r) (without notes r)) r ≡ None) note.0 r
    (λ e. held_without notes r)
    (λ e. held_rest note (without notes r) r e ∙ held_without notes r)

pub held_elsewhere : {X : Type 0} (notes : List (ℕ × X)) (r k : ℕ) → k ≢ r → note_at (without notes r) k ≡ note_at notes k
held_elsewhere [] r k e = refl
held_elsewhere (note ∷ notes) r k e = by_test (λ b. note_at (cond (not b) (note ∷ without notes r) (without notes r)) k ≡ note_at (note ∷ notes) k) note.0 r
    (λ same. held_elsewhere notes r k e ∙ sym (held_rest note notes k (λ q. e (sym q ∙ same))))
    (λ other. by_test (λ b. cond b (Some note.1) (note_at (without notes r) k) ≡ cond b (Some note.1) (note_at notes k)) note.0 k (λ q. refl)
    (λ q. held_elsewhere notes r k e))

-- what is left of the notes is of another record, and was there
pub held_left : {X : Type 0} (notes : List (ℕ × X)) (r k : ℕ) (v : X) → note_at (without notes r) k ≡ Some v → (k ≢ r) × (note_at notes k ≡ Some v)
held_left notes r k v h =
    let apart : k ≢ r = λ e. never_both (held_without notes r) (subst (λ q. note_at (without notes r) q ≡ Some v) e h) in
    (apart, sym (held_elsewhere notes r k apart) ∙ h)

-- the notes without those of any record of others
abbrev pub without_all : {X : Type 0} → List (ℕ × X) → List (ℕ × X) → List (ℕ × X)
without_all notes [] = notes
without_all notes (other ∷ others) = without_all (without notes other.0) others

-- two lists have the same of each record
abbrev pub HoldSame : {X : Type 0} → List (ℕ × X) → List (ℕ × X) → Type 0
HoldSame notes others = (k : ℕ) → note_at notes k ≡ note_at others k

-- they still do without the record of the first note of one of them, which ascends
pub same_without : {X : Type 0} (notes : List (ℕ × X)) (r : ℕ) (x : X) (others : List (ℕ × X)) → HoldSame notes ((r, x) ∷ others) → Above r others
    → HoldSame (without notes r) others
same_without notes r x others same above k = ⊎_elim
    (λ (e : k ≡ r). subst (λ q. note_at (without notes r) q ≡ note_at others q) (sym e) (held_without notes r ∙ sym (held_above r others above)))
    (λ (e : k ≢ r). held_elsewhere notes r k e ∙ same k ∙ held_later r k x others e)
    (cases_eq k r)

-- and without the records of all the first notes
pub same_rest : {X : Type 0} (first notes rest : List (ℕ × X)) → HoldSame notes (first ++ rest) → Ascend (first ++ rest)
    → HoldSame (without_all notes first) rest
same_rest [] notes rest same ascend = same
same_rest (note ∷ first) notes rest same ascend = same_rest first (without notes note.0) rest (same_without notes note.0 note.1 (first ++ rest) same ascend.0)
    ascend.1

-- where nothing is note_at, there is no note
pub no_notes : {X : Type 0} (notes : List (ℕ × X)) → HoldSame notes [] → notes ≡ []
no_notes [] none = refl
no_notes (note ∷ notes) none = absurd (never_both (none note.0) (first_held note.0 note.1 notes))
