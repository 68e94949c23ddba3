-- Versions whose TIDs rise, by a version of them.
use Rattle.std.proofs.Common.{◌≡◌, ◌≢◌, ℕ, ◌+◌, ◌≤◌, Bool, true, false, List, [], ◌∷◌, ◌++◌, refl, sym, ap, ◌∙◌, subst, arith, append_assoc}
use Rattle.std.specs.Prelude.{MatchBool}
use lib.Dec.{eqb}
use Rattle.std.proofs.lemmas.Bool.{eqb-true, eqb-false}
use Rattle.cells.specs.Versions.{tid, last_tid, RisesFrom, IsRising, StartsWith, EndsWith, Has}
pub use Rattle.cells_pages.proofs.Rising.{last_tid-push, larger, starts_self}
pub use Rattle.cells_pages.proofs.Lists.{ends_newest, newest-push}

-- of versions that rise, one with the last TID is the last
pub last_by_tid : (n : ℕ) (all front rest : List (List ℕ)) (v : List ℕ) → RisesFrom n all → all ≡ front ++ v ∷ rest → tid v ≡ last_tid all → EndsWith all v
last_by_tid n all [] [] v r e t = ([], e)
last_by_tid n all [] (w ∷ rest) v r e t =
    let s : RisesFrom n (v ∷ w ∷ rest) = subst (RisesFrom n) e r in
    let h : tid v + 1 ≤ last_tid (w ∷ rest) = larger (tid v + 1) w rest s.1 in
    let k : tid v ≡ last_tid (w ∷ rest) = t ∙ ap last_tid e in
    absurd (omega arith)
last_by_tid n all (x ∷ []) rest v r e t =
    let s : RisesFrom n (x ∷ v ∷ rest) = subst (RisesFrom n) e r in
    let at : EndsWith (v ∷ rest) v = last_by_tid (tid x + 1) (v ∷ rest) [] rest v s.1 refl (t ∙ ap last_tid e) in
    (x ∷ at.0, e ∙ ap (λ (l : List (List ℕ)). x ∷ l) at.1)
last_by_tid n all (x ∷ y ∷ front) rest v r e t =
    let s : RisesFrom n (x ∷ y ∷ front ++ v ∷ rest) = subst (RisesFrom n) e r in
    let at : EndsWith (y ∷ front ++ v ∷ rest) v = last_by_tid (tid x + 1) (y ∷ front ++ v ∷ rest) (y ∷ front) rest v s.1 refl (t ∙ ap last_tid e) in
    (x ∷ at.0, e ∙ ap (λ (l : List (List ℕ)). x ∷ l) at.1)

-- the last version has the last TID
pub last_tid-last : (all : List (List ℕ)) (v : List ℕ) → EndsWith all v → last_tid all ≡ tid v
last_tid-last all v e = ap last_tid e.1 ∙ last_tid-push e.0 v

-- a version among the first ones is one of all
pub has_more : (all seen : List (List ℕ)) (v : List ℕ) → StartsWith all seen → Has seen v → Has all v
has_more all seen v s h = (h.0, h.1 ++ s.0, s.1 ∙ ap (λ (l : List (List ℕ)). l ++ s.0) h.2 ∙ append_assoc h.0 (v ∷ h.1) s.0)

pub ends_has : (all : List (List ℕ)) (v : List ℕ) → EndsWith all v → Has all v
ends_has all v e = (e.0, [], e.1)

-- whether a version that a reader has seen has the TID of the last version
is_last : (b : Bool) (all seen : List (List ℕ)) (v w : List ℕ) → IsRising all → StartsWith all seen → Has seen v → EndsWith all w → (b ≡ true → tid w ≡ tid v)
    → (b ≡ false → tid w ≢ tid v) → MatchBool b (EndsWith all v) (tid v ≢ last_tid all)
is_last true all seen v w rising starts has ends same other =
    let h = has_more all seen v starts has in
    last_by_tid 0 all h.0 h.1 v rising h.2 (sym (same refl) ∙ sym (last_tid-last all w ends))
is_last false all seen v w rising starts has ends same other = λ e. other refl (sym (e ∙ last_tid-last all w ends))

pub is_last_by_tid : (b : Bool) (all seen : List (List ℕ)) (v w : List ℕ) → IsRising all → StartsWith all seen → Has seen v → EndsWith all w
    → b ≡ eqb (tid w) (tid v) → MatchBool b (EndsWith all v) (tid v ≢ last_tid all)
is_last_by_tid b all seen v w rising starts has ends e = is_last b all seen v w rising starts has ends
    (λ is. eqb-true _ _ (sym e ∙ is))
    (λ not. eqb-false _ _ (sym e ∙ not))
