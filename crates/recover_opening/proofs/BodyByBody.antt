-- A file's last mark and the epoch of its last entry, body after body.
use Rattle.std.proofs.Common.{◌≡◌, ℕ, zero, suc, ◌+◌, ◌<◌, List, [], ◌∷◌, length, get_or, take, map, refl, subst, arith}
use Rattle.tidword.specs.TidWord.{epoch_of}
use Rattle.log_text.specs.Bodies.{mark_of, entries_in, body_of}
use Rattle.log_text.specs.Entries.{logged}
use Rattle.log_text.specs.declared.body.Body.{Body}
use Rattle.log_text.specs.declared.entry.LoggedEntry.{LoggedEntry}
use Rattle.recover_found.specs.Found.{bodies_in, last_mark}
use Rattle.recover_opening.specs.Tops.{epoch_behind, epoch_from}

mark_next : (before : ℕ) (bodies : List Body) (i : ℕ) (d : Body) → i < length bodies
    → mark_of (body_of (get_or bodies i d)) ≡ last_mark before (bodies_in (take (suc i) bodies))
mark_next before [] i d less = absurd (omega (arith, less))
mark_next before (b ∷ bs) zero d less = refl
mark_next before (b ∷ bs) (suc i) d less = mark_next (mark_of (body_of b)) bs i d (omega (arith, less))

epoch_next : (before : ℕ) (bodies : List Body) (i : ℕ) (d : Body) → i < length bodies
    → epoch_behind (epoch_from before (bodies_in (take i bodies))) (entries_in (body_of (get_or bodies i d)))
    ≡ epoch_from before (bodies_in (take (suc i) bodies))
epoch_next before [] i d less = absurd (omega (arith, less))
epoch_next before (b ∷ bs) zero d less = refl
epoch_next before (b ∷ bs) (suc i) d less = epoch_next (epoch_behind before (entries_in (body_of b))) bs i d (omega (arith, less))

pub mark_more : (bodies : List Body) (i : ℕ) (d : Body) → i < length bodies
    → mark_of (body_of (get_or bodies i d)) ≡ last_mark 0 (bodies_in (take (i + 1) bodies))
mark_more bodies i d less =
    let next : suc i ≡ i + 1 = omega arith in
    subst (λ (n : ℕ). mark_of (body_of (get_or bodies i d)) ≡ last_mark 0 (bodies_in (take n bodies))) next
    (mark_next 0 bodies i d less)

pub epoch_more : (bodies : List Body) (i : ℕ) (d : Body) → i < length bodies
    → epoch_behind (epoch_from 0 (bodies_in (take i bodies))) (entries_in (body_of (get_or bodies i d)))
    ≡ epoch_from 0 (bodies_in (take (i + 1) bodies))
epoch_more bodies i d less =
    let next : suc i ≡ i + 1 = omega arith in
    subst
    (λ (n : ℕ). epoch_behind (epoch_from 0 (bodies_in (take i bodies))) (entries_in (body_of (get_or bodies i d)))
    ≡ epoch_from 0 (bodies_in (take n bodies))) next
    (epoch_next 0 bodies i d less)

-- the last of some entries
pub epoch_of_last : (before : ℕ) (es : List LoggedEntry) (i : ℕ) (d : LoggedEntry) → i + 1 ≡ length es
    → epoch_of (get_or es i d).tid ≡ epoch_behind before (map logged es)
epoch_of_last before [] i d e = absurd (omega (arith, e))
epoch_of_last before (x ∷ []) zero d e = refl
epoch_of_last before (x ∷ []) (suc i) d e = absurd (omega (arith, e))
epoch_of_last before (x ∷ y ∷ ys) zero d e = absurd (omega (arith, e))
epoch_of_last before (x ∷ y ∷ ys) (suc i) d e = epoch_of_last (epoch_of x.tid) (y ∷ ys) i d (omega (arith, e))
