-- Some words, and behind them a word for each element of a list.
use Rattle.std.proofs.Common.{◌≡◌, ℕ, List, [], ◌∷◌, ◌++◌, map, sym, ap, ◌∙◌, append-nil, append_assoc}
use Rattle.std.specs.List.{join_with_byte, flat_map}

-- behind one word
behind_one : {A : Type 0} (word_of : A → List ℕ) (word : List ℕ) (xs : List A) → join_with_byte 32 (word ∷ map word_of xs) ≡ word
    ++ flat_map (λ x. 32 ∷ word_of x) xs
behind_one word_of word [] = sym (append-nil word)
behind_one word_of word (x ∷ xs) = ap (λ rest. word ++ 32 ∷ rest) (behind_one word_of (word_of x) xs)

-- behind one or more
pub joined : {A : Type 0} (word_of : A → List ℕ) (word : List ℕ) (words : List (List ℕ)) (xs : List A)
    → join_with_byte 32 ((word ∷ words) ++ map word_of xs) ≡ join_with_byte 32 (word ∷ words) ++ flat_map (λ x. 32 ∷ word_of x) xs
joined word_of word [] xs = behind_one word_of word xs
joined word_of word (next ∷ words) xs =
    ap (λ rest. word ++ 32 ∷ rest) (joined word_of next words xs)
    ∙ sym (append_assoc word (32 ∷ join_with_byte 32 (next ∷ words)) (flat_map (λ x. 32 ∷ word_of x) xs))

-- the same behind a text that was there before
pub appended : {A : Type 0} (word_of : A → List ℕ) (word : List ℕ) (words : List (List ℕ)) (xs ys : List A) (old mid new : List ℕ)
    → mid ≡ old ++ join_with_byte 32 (word ∷ words) → ys ≡ xs → new ≡ mid ++ flat_map (λ x. 32 ∷ word_of x) ys
    → new ≡ old ++ join_with_byte 32 ((word ∷ words) ++ map word_of xs)
appended word_of word words xs ys old mid new head same tail =
    let behind : List ℕ = flat_map (λ x. 32 ∷ word_of x) xs in
    tail ∙ ap (λ zs. mid ++ flat_map (λ x. 32 ∷ word_of x) zs) same ∙ ap (λ front. front ++ behind) head
    ∙ append_assoc old (join_with_byte 32 (word ∷ words)) behind ∙ ap (λ rest. old ++ rest) (sym (joined word_of word words xs))
