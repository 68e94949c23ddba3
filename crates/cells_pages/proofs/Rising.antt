-- Versions whose TIDs rise.
use Rattle.std.proofs.Common.{◌≡◌, ◌≢◌, ℕ, ◌+◌, ◌≤◌, ◌<◌, List, [], ◌∷◌, ◌++◌, refl, sym, arith, append-nil}
use Rattle.cells_pages.specs.Versions.{tid, last_tid, RisesFrom, IsRising, StartsWith}

-- the last version's TID is the last TID
pub last_tid-push : (vs : List (List ℕ)) (v : List ℕ) → last_tid (vs ++ v ∷ []) ≡ tid v
last_tid-push [] v = refl
last_tid-push (w ∷ []) v = refl
last_tid-push (w ∷ x ∷ vs) v = last_tid-push (x ∷ vs) v

-- a version with a larger TID
rises_from_push : (n : ℕ) (w : List ℕ) (vs : List (List ℕ)) (v : List ℕ) → RisesFrom n (w ∷ vs) → last_tid (w ∷ vs) < tid v → RisesFrom n (w ∷ vs ++ v ∷ [])
rises_from_push n w [] v r h = (r.0, (omega arith, tt))
rises_from_push n w (x ∷ vs) v r h = (r.0, rises_from_push (tid w + 1) x vs v r.1 h)

pub rises_push : (vs : List (List ℕ)) (v : List ℕ) → IsRising vs → vs ≢ [] → last_tid vs < tid v → IsRising (vs ++ v ∷ [])
rises_push [] v r some h = absurd (some refl)
rises_push (w ∷ vs) v r some h = rises_from_push 0 w vs v r h

-- what follows a version has larger TIDs
pub larger : (n : ℕ) (v : List ℕ) (vs : List (List ℕ)) → RisesFrom n (v ∷ vs) → n ≤ last_tid (v ∷ vs)
larger n v [] r = r.0
larger n v (w ∷ vs) r = let h : tid v + 1 ≤ last_tid (w ∷ vs) = larger (tid v + 1) w vs r.1 in let k : n ≤ tid v = r.0 in omega arith

pub starts_self : (all : List (List ℕ)) → StartsWith all all
starts_self all = ([], sym (append-nil all))
