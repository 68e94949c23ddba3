-- Loops that read one value after the other.
use Rattle.std.proofs.Common.{◌≡◌, ℕ, zero, suc, ◌<◌, List, [], ◌∷◌, ◌++◌, length, refl, sym, ap, ◌∙◌, Option, Some, None, arith}
use Rattle.std.proofs.lemmas.List.{append-nil, append_assoc}
use Rattle.std.specs.Option.{option_map, option_and_then}
use Rattle.log_codec.specs.Numbers.{Reader}
use Rattle.log_codec.specs.Read.{many, filled}
use Rattle.log_text.specs.Loops.{many_after, filled_after}

abbrev in_front : {A : Type 0} → List A → List A × List ℕ → List A × List ℕ
in_front front y = (front ++ y.0, y.1)

abbrev then_many : {A : Type 0} → Reader A → ℕ → A × List ℕ → Option (List A × List ℕ)
then_many read n a = option_map (in_front (a.0 ∷ [])) (many n read a.1)

-- nothing read yet
pub many_begins : {A : Type 0} (o : Option (List A × List ℕ)) → many_after [] o ≡ o
unfolding many_after
many_begins (Some x) = refl
many_begins None = refl

-- one value more, with others to come
pub many_goes_on : {A : Type 0} (read : Reader A) (front : List A) (n : ℕ) (rest : List ℕ) (x : A) (later : List ℕ) → read rest ≡ Some (x, later)
    → many_after front (many (suc n) read rest) ≡ many_after (front ++ x ∷ []) (many n read later)
unfolding many_after many
many_goes_on {A} read front n rest x later e =
    ap (λ (o : Option (A × List ℕ)). option_map (in_front front) (option_and_then (then_many read n) o)) e
    ∙ joined (many n read later)
  where
    joined : (o : Option (List A × List ℕ)) → option_map (in_front front) (option_map (in_front (x ∷ [])) o) ≡ option_map (in_front (front ++ x ∷ [])) o
    joined (Some y) = λ i. Some (sym (append_assoc front (x ∷ []) y.0) i, y.1)
    joined None = refl

-- nothing is read where the next isn't
pub many_ends : {A : Type 0} (read : Reader A) (front : List A) (n : ℕ) (rest : List ℕ) → read rest ≡ None → many_after front (many (suc n) read rest) ≡ None
unfolding many_after many
many_ends {A} read front n rest e =
    ap (λ (o : Option (A × List ℕ)). option_map (in_front front) (option_and_then (then_many read n) o)) e

pub many_done : {A : Type 0} (read : Reader A) (front : List A) (rest : List ℕ) → many_after front (many 0 read rest) ≡ Some (front, rest)
unfolding many_after many
many_done {A} read front rest = λ i. Some (append-nil front i, rest)

pub filled_begins : {A : Type 0} (o : Option (List A)) → filled_after [] o ≡ o
unfolding filled_after
filled_begins (Some x) = refl
filled_begins None = refl

pub filled_goes_on : {A : Type 0} (read : Reader A) (front : List A) (n : ℕ) (rest : List ℕ) (x : A) (later : List ℕ) → 0 < length rest
    → read rest ≡ Some (x, later) → filled_after front (filled read rest (suc n)) ≡ filled_after (front ++ x ∷ []) (filled read later n)
unfolding filled_after filled
filled_goes_on read front n [] x later some e = absurd (omega arith)
filled_goes_on {A} read front n (b ∷ bs) x later some e =
    ap (λ (o : Option (A × List ℕ)). option_map (λ (l : List A). front ++ l)
    (option_and_then (λ (a : A × List ℕ). option_map (λ (others : List A). a.0 ∷ others) (filled read a.1 n)) o)) e
    ∙ joined (filled read later n)
  where
    joined : (o : Option (List A)) → option_map (λ (l : List A). front ++ l) (option_map (λ (others : List A). x ∷ others) o)
        ≡ option_map (λ (l : List A). (front ++ x ∷ []) ++ l) o
    joined (Some l) = ap Some (sym (append_assoc front (x ∷ []) l))
    joined None = refl

pub filled_ends : {A : Type 0} (read : Reader A) (front : List A) (n : ℕ) (rest : List ℕ) → 0 < length rest → read rest ≡ None
    → filled_after front (filled read rest (suc n)) ≡ None
unfolding filled_after filled
filled_ends read front n [] some e = absurd (omega arith)
filled_ends {A} read front n (b ∷ bs) some e =
    ap (λ (o : Option (A × List ℕ)). option_map (λ (l : List A). front ++ l)
    (option_and_then (λ (a : A × List ℕ). option_map (λ (others : List A). a.0 ∷ others) (filled read a.1 n)) o)) e

pub filled_done : {A : Type 0} (read : Reader A) (front : List A) (n : ℕ) → filled_after front (filled read [] n) ≡ Some front
unfolding filled_after filled
filled_done read front zero = ap Some (append-nil front)
filled_done read front (suc n) = ap Some (append-nil front)
