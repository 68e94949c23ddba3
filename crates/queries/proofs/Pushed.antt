-- An item more, if there is one.
use Rattle.std.proofs.Common.{◌≡◌, ℕ, ◌+◌, ◌≤◌, List, [], ◌∷◌, ◌++◌, length, All, Option, Some, None, refl, sym, subst, arith}
use Rattle.std.proofs.lemmas.List.{append-nil, length-append}
use Rattle.std.proofs.lemmas.List.Elements.{All-push}
use Rattle.std.specs.Option.{ForSome, option_map_or}

abbrev pub with_item : List ℕ → Option ℕ → List ℕ
with_item items item = items ++ option_map_or (λ i. i ∷ []) item []

pub all_with : (P : ℕ → Type 0) (items : List ℕ) (item : Option ℕ) → All P items → ForSome item P → All P (with_item items item)
all_with P items None all one = subst (All P) (sym (append-nil items)) all
all_with P items (Some i) all one = All-push P items i all (one i refl)

pub length_with : (items : List ℕ) (item : Option ℕ) → length (with_item items item) ≤ length items + 1
length_with items None = let e : length (items ++ []) ≡ length items + 0 = length-append items [] in omega (arith, e)
length_with items (Some i) = let e : length (items ++ i ∷ []) ≡ length items + 1 = length-append items (i ∷ []) in omega (arith, e)
