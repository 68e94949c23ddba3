-- Seven words, the last two 0.
use Rattle.std.proofs.Common.{◌≡◌, ℕ, List, [], ◌∷◌, length, get_or, refl}
use Rattle.std.proofs.lemmas.Slice.Eq.{text_from_reads}

pub five_and_zeros : (ws : List ℕ) → length ws ≡ 7 → get_or ws 5 0 ≡ 0 → get_or ws 6 0 ≡ 0
    → ws ≡ get_or ws 0 0 ∷ get_or ws 1 0 ∷ get_or ws 2 0 ∷ get_or ws 3 0 ∷ get_or ws 4 0 ∷ 0 ∷ 0 ∷ []
five_and_zeros ws count sixth seventh =
    text_from_reads ws (get_or ws 0 0 ∷ get_or ws 1 0 ∷ get_or ws 2 0 ∷ get_or ws 3 0 ∷ get_or ws 4 0 ∷ 0 ∷ 0 ∷ []) count
    (refl, (refl, (refl, (refl, (refl, (sixth, (seventh, tt)))))))
