-- Versions whose TIDs rise, by their newest.
use Rattle.std.proofs.Common.{◌≡◌, ◌≢◌, ℕ, ◌+◌, ◌<◌, ◌≤◌, List, [], ◌∷◌, ◌++◌, length, refl, sym, ap, ◌∙◌, subst, arith, append_assoc, append-nil, length-append, set, ⊎_elim}
use Rattle.std.proofs.lemmas.Bool.{cases_eq}
use Rattle.std.proofs.lemmas.List.{get_or-set_other, get_or-set_same}
use Rattle.cells_pages.specs.Versions.{tid, last_tid, RisesFrom, IsRising, StartsWith, EndsWith, AreVersions, newest}
use Rattle.cells_pages.specs.Versions.{at}
use Rattle.cells_pages.proofs.Rising.{larger, rises_push}

pub newest-push : (vs : List (List ℕ)) (v : List ℕ) → newest (vs ++ v ∷ []) ≡ v
newest-push [] v = refl
newest-push (w ∷ []) v = refl
newest-push (w ∷ x ∷ vs) v = newest-push (x ∷ vs) v

pub last_tid-newest : (vs : List (List ℕ)) → vs ≢ [] → last_tid vs ≡ tid (newest vs)
last_tid-newest [] some = absurd (some refl)
last_tid-newest (v ∷ []) some = refl
last_tid-newest (v ∷ w ∷ vs) some = last_tid-newest (w ∷ vs) (λ e. cc)

pub ends_newest : (vs : List (List ℕ)) → vs ≢ [] → EndsWith vs (newest vs)
ends_newest [] some = absurd (some refl)
ends_newest (v ∷ []) some = ([], refl)
ends_newest (v ∷ w ∷ vs) some = let e = ends_newest (w ∷ vs) (λ e. cc) in (v ∷ e.0, ap (λ (l : List (List ℕ)). v ∷ l) e.1)

pub sound_some : (n : ℕ) (vs : List (List ℕ)) → 0 < n → AreVersions n vs → vs ≢ []
sound_some n vs some sound none = let e : length (newest vs) ≡ 0 = ap (λ (l : List (List ℕ)). length (newest l)) none in let w = sound.wide in absurd (omega arith)

-- what follows versions that rise has a larger TID
rises_last : (n : ℕ) (vs : List (List ℕ)) (r : List ℕ) (rs : List (List ℕ)) → vs ≢ [] → RisesFrom n (vs ++ r ∷ rs) → last_tid vs < last_tid (vs ++ r ∷ rs)
rises_last n [] r rs some rising = absurd (some refl)
rises_last n (v ∷ []) r rs some rising = let h : tid v + 1 ≤ last_tid (r ∷ rs) = larger (tid v + 1) r rs rising.1 in omega arith
rises_last n (v ∷ w ∷ vs) r rs some rising = rises_last (tid v + 1) (w ∷ vs) r rs (λ e. cc) rising.1

no_rest : (begun rest : List (List ℕ)) → begun ≢ [] → IsRising (begun ++ rest) → last_tid begun ≡ last_tid (begun ++ rest) → begun ++ rest ≡ begun
no_rest begun [] some rising e = append-nil begun
no_rest begun (r ∷ rs) some rising e = let h : last_tid begun < last_tid (begun ++ r ∷ rs) = rises_last 0 begun r rs some rising in absurd (omega arith)

-- versions and their first ones are the same where the newest of both have one TID
pub same_rising : (all begun : List (List ℕ)) → IsRising all → begun ≢ [] → StartsWith all begun → last_tid begun ≡ last_tid all → all ≡ begun
same_rising all begun rising some starts e = starts.1 ∙ no_rest begun starts.0 some (subst IsRising starts.1 rising) (e ∙ ap last_tid starts.1)

pub never_longer : (all seen : List (List ℕ)) (v : List ℕ) → StartsWith all seen → all ++ v ∷ [] ≢ seen
never_longer all seen v starts e =
    let whole : length all ≡ length seen + length starts.0 = ap length starts.1 ∙ length-append seen starts.0 in
    let longer : length all + 1 ≡ length seen = sym (length-append all (v ∷ [])) ∙ ap length e in
    absurd (omega arith)

pub starts_starts : (a b c : List (List ℕ)) → StartsWith a b → StartsWith b c → StartsWith a c
starts_starts a b c f g = (g.0 ++ f.0, f.1 ∙ ap (λ (l : List (List ℕ)). l ++ f.0) g.1 ∙ append_assoc c g.0 f.0)

pub starts_none : (all : List (List ℕ)) → StartsWith all []
starts_none all = (all, refl)

-- by place, where one place changes
pub starts_set : (all seen : List (List (List ℕ))) (p : ℕ) (vs : List (List ℕ)) → p < length seen → StartsWith (at all p) vs
    → ((q : ℕ) → StartsWith (at all q) (at seen q)) → (q : ℕ) → StartsWith (at all q) (at (set seen p vs) q)
starts_set all seen p vs within mine others q = ⊎_elim
    (λ (e : q ≡ p). subst (λ k. StartsWith (at all k) (at (set seen p vs) k)) (sym e) (subst (StartsWith (at all p)) (sym (get_or-set_same seen p vs [] within)) mine))
    (λ (apart : q ≢ p). subst (StartsWith (at all q)) (sym (get_or-set_other seen p q vs [] apart)) (others q))
    (cases_eq q p)

-- a version more, with a larger TID
pub sound_push : (n : ℕ) (vs : List (List ℕ)) (v : List ℕ) → 0 < n → AreVersions n vs → last_tid vs < tid v → length v ≡ n → AreVersions n (vs ++ v ∷ [])
sound_push n vs v some sound above wide = record {
  rising = rises_push vs v sound.rising (sound_some n vs some sound) above;
  wide = ap length (newest-push vs v) ∙ wide;
}
