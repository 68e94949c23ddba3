-- What is known of records once a write of one of them was kept.
use Rattle.std.proofs.Common.{◌≡◌, ◌≢◌, ⊎_elim, ℕ, zero, suc, ◌+◌, ◌-◌, ◌<◌, ◌≤◌, true, false, cond, List, [], ◌∷◌, ◌++◌, length, get_or, set, Option, Some, None}
use Rattle.std.proofs.Common.{refl, sym, ap, ◌∙◌, subst, arith, length-append, length-set}
use Rattle.std.specs.Prelude.{slice_get, slice_index_or, slice_set, ◌==◌, if◌then◌else◌}
use Rattle.std.proofs.lemmas.Bool.{cases_lt}
use Rattle.std.proofs.lemmas.Bool.Decides.{eqb_tells}
use Rattle.std.proofs.lemmas.List.{get_or-set_same, get_or-set_other, get_or_append_left}
use Rattle.std.proofs.lemmas.Option.{slice_get_past, slice_get-get_or}
use Rattle.std.proofs.Math.Seq.{get_or-append_seam}
use Rattle.recover_newest.specs.Known.{NewestView, ArePlaces, at_place, known}
use Rattle.recover_newest.specs.Latest.{newer}
use Rattle.recover_newest.specs.declared.latest.Latest.{Latest}

module _ (writes : List Latest) (w : Latest) where
  -- a write in the place of another
  at_same : (k : ℕ) → k < length writes → slice_get (set writes k w) k ≡ Some w
  at_same k h = slice_get-get_or (set writes k w) k w (omega (arith, h, length-set writes k w)) ∙ ap Some (get_or-set_same writes k w w h)

  at_other : (k j : ℕ) → j ≢ k → slice_get (set writes k w) j ≡ slice_get writes j
  at_other k j apart =
      ⊎_elim
      (λ (h : j < length writes). slice_get-get_or (set writes k w) j w (omega (arith, h, length-set writes k w))
      ∙ ap Some (get_or-set_other writes k j w w apart) ∙ sym (slice_get-get_or writes j w h))
      (λ (h : length writes ≤ j). slice_get_past (set writes k w) j (omega (arith, h, length-set writes k w)) ∙ sym (slice_get_past writes j h))
      (cases_lt j (length writes))

  -- a write behind the others
  at_last : slice_get (writes ++ w ∷ []) (length writes) ≡ Some w
  at_last = slice_get-get_or (writes ++ w ∷ []) (length writes) w (omega (arith, length-append writes (w ∷ [])))
      ∙ ap Some (get_or-append_seam writes w [] w)

  at_earlier : (j : ℕ) → j < length writes → slice_get (writes ++ w ∷ []) j ≡ slice_get writes j
  at_earlier j h = slice_get-get_or (writes ++ w ∷ []) j w (omega (arith, h, length-append writes (w ∷ [])))
      ∙ ap Some (get_or_append_left writes (w ∷ []) w j h) ∙ sym (slice_get-get_or writes j w h)

module _ (places : List ℕ) (writes : List Latest) (are : ArePlaces places writes) (number : ℕ) where
  abbrev v : NewestView
  v = record { places = places; writes = writes }

  -- a write in the place of the one that is known of a record: of others the same is known
  pub others_same : (k : ℕ) (w : Latest) → slice_index_or places number 0 ≡ suc k → (n : ℕ) → n ≢ number
      → known (record { places = places; writes = slice_set writes k w }) n ≡ known v n
  others_same k w at n other = of (slice_index_or places n 0) refl
    where
      of : (p : ℕ) → slice_index_or places n 0 ≡ p → at_place (set writes k w) p ≡ at_place writes p
      of zero e = refl
      of (suc j) e = at_other writes w k j (λ same. other (are.apart n number (λ z. absurd (omega (arith, z, e))) (e ∙ ap suc same ∙ sym at)))

  pub known_at : (k : ℕ) → slice_index_or places number 0 ≡ suc k → (d : Latest) → k < length writes → known v number ≡ Some (get_or writes k d)
  known_at k at d h = ap (at_place writes) at ∙ slice_get-get_or writes k d h

  pub set_kept : (k : ℕ) (old write : Latest) → slice_index_or places number 0 ≡ suc k → k < length writes → get_or writes k old ≡ old → (n : ℕ)
      → known (record { places = places; writes = slice_set writes k (newer (Some old) write) }) n
      ≡ (if n == number then Some (newer (known v n) write) else known v n)
  set_kept k old write at h is n =
      let w : Latest = newer (Some old) write in
      ⊎_elim
      (λ same. ap (known (record { places = places; writes = slice_set writes k w })) same.1 ∙ ap (at_place (set writes k w)) at ∙ at_same writes w k h
      ∙ ap (λ (o : Option Latest). Some (newer o write)) (sym (known_at k at old h ∙ ap Some is) ∙ ap (known v) (sym same.1))
      ∙ sym (ap (λ b. if b then Some (newer (known v n) write) else known v n) same.0))
      (λ other. others_same k w at n other.1 ∙ sym (ap (λ b. if b then Some (newer (known v n) write) else known v n) other.0))
      (eqb_tells n number)

  -- the first write of a record
  pub push_kept : (write : Latest) → slice_index_or places number 0 ≡ 0 → number < length places → (n : ℕ)
      → known (record { places = slice_set places number (length writes + 1); writes = writes ++ write ∷ [] }) n
      ≡ (if n == number then Some (newer (known v n) write) else known v n)
  push_kept write none h n =
      let now : NewestView = record { places = slice_set places number (length writes + 1); writes = writes ++ write ∷ [] } in
      let next : length writes + 1 ≡ suc (length writes) = omega arith in
      ⊎_elim
      (λ same. ap (known now) same.1 ∙ ap (at_place (writes ++ write ∷ [])) (get_or-set_same places number (length writes + 1) 0 h ∙ next)
      ∙ at_last writes write
      ∙ ap (λ (o : Option Latest). Some (newer o write)) (sym (ap (known v) same.1 ∙ ap (at_place writes) none))
      ∙ sym (ap (λ b. if b then Some (newer (known v n) write) else known v n) same.0))
      (λ other. ap (at_place (writes ++ write ∷ [])) (get_or-set_other places number n (length writes + 1) 0 other.1)
      ∙ of (slice_index_or places n 0) (are.within n)
      ∙ sym (ap (λ b. if b then Some (newer (known v n) write) else known v n) other.0))
      (eqb_tells n number)
    where
      of : (p : ℕ) → p ≤ length writes → at_place (writes ++ write ∷ []) p ≡ at_place writes p
      of zero few = refl
      of (suc j) few = at_earlier writes write j few

-- a place that was read, where there is one
pub read_place : (xs : List ℕ) (i p : ℕ) → i < length xs → p ≡ get_or xs i p → (p ≡ 0 → ⊥) → get_or xs i 0 ≡ suc (p - 1)
read_place xs i p h is some =
    some_is (get_or xs i 0) (get_or xs i p) (sym (slice_get-get_or xs i 0 h) ∙ slice_get-get_or xs i p h) ∙ sym is ∙ less p some
  where
    some_is : (a b : ℕ) → Some a ≡ Some b → a ≡ b
    some_is a b e = cc

    less : (p : ℕ) → (p ≡ 0 → ⊥) → p ≡ suc (p - 1)
    less zero none = absurd (none refl)
    less (suc p) none = omega arith
