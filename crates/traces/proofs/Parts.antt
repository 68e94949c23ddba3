-- Parts of a trace's history.
use Rattle.std.proofs.Common.{◌≡◌, ℕ, zero, suc, ◌-◌, Option, Some, None, List, [], ◌∷◌, map, take, drop, refl, ap, ◌∙◌}
use Rattle.std.specs.Prelude.{IfSome, MatchOption}
use Rattle.std.specs.List.{All, slice_range}
use Rattle.std.proofs.lemmas.List.Elements.{All-take, All-drop}

pub some_part : {X : Type 0} (P Q : X → Type 0) (N : Type 0) (o : Option X) → MatchOption o N Q → ((x : X) → Q x → P x) → IfSome o P
some_part P Q N None m f = tt
some_part P Q N (Some x) m f = f x m

pub part_of_map : {X Y : Type 0} (f : X → Y) (xs : List X) (from to : ℕ) → map f (slice_range xs from to) ≡ slice_range (map f xs) from to
part_of_map {X = X} {Y = Y} f xs from to = of_front (to - from) (drop from xs) ∙ ap (take (to - from)) (of_rest from xs)
  where
    of_front : (n : ℕ) (ys : List X) → map f (take n ys) ≡ take n (map f ys)
    of_front zero ys = refl
    of_front (suc n) [] = refl
    of_front (suc n) (y ∷ ys) = ap (λ (l : List Y). f y ∷ l) (of_front n ys)

    of_rest : (n : ℕ) (ys : List X) → map f (drop n ys) ≡ drop n (map f ys)
    of_rest zero ys = refl
    of_rest (suc n) [] = refl
    of_rest (suc n) (y ∷ ys) = of_rest n ys

pub all_of_part : {X : Type 0} (P : X → Type 0) (xs : List X) (from to : ℕ) → All P xs → All P (slice_range xs from to)
all_of_part P xs from to all = All-take P (to - from) (drop from xs) (All-drop P from xs all)
