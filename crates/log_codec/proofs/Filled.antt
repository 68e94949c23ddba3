-- Values of one codec up to the last byte.
use Rattle.std.proofs.Common.{◌≡◌, ℕ, zero, suc, ◌<◌, ◌≤◌, List, [], ◌∷◌, ◌++◌, length, refl, ap, ◌∙◌, subst, Some, arith}
use Rattle.std.proofs.lemmas.List.{length-append}
use Rattle.std.specs.Prelude.{flat_map}
use Rattle.std.specs.List.{AllByRecursion}
use Rattle.std.specs.Option.{option_map, option_and_then}
use Rattle.log_codec.specs.Numbers.{Reader, IsBytes}
use Rattle.log_codec.specs.Read.{filled}
use Rattle.log_codec.specs.Codec.{IsCodec}
use Rattle.log_codec.proofs.Codecs.{and_then_some, map_some, taken}

-- bytes that are filled are the texts of what is read, and all of it fits
pub filled_takes : {A : Type 0} {ta : A → List ℕ} {read : Reader A} {FA : A → Type 0} → IsCodec ta read FA → (n : ℕ) (bytes : List ℕ) (xs : List A)
    → IsBytes bytes → filled read bytes n ≡ Some xs → (bytes ≡ flat_map ta xs) × AllByRecursion FA xs
unfolding filled
filled_takes {A} {ta} {read} {FA} c n [] xs h e =
    let same : ◌≡◌ {A = List A} [] xs = cc in
    subst (λ (ys : List A). ([] ≡ flat_map ta ys) × AllByRecursion FA ys) same (refl, tt)
filled_takes c zero (b ∷ bs) xs h e = absurd cc
filled_takes {A} {ta} {read} {FA} c (suc n) (b ∷ bs) xs h e =
    let p = and_then_some (λ (a : A × List ℕ). option_map (λ (others : List A). a.0 ∷ others) (filled read a.1 n)) (read (b ∷ bs)) xs e in
    let q = map_some (λ (others : List A). p.0.0 ∷ others) (filled read p.0.1 n) xs p.2 in
    let t = taken c (b ∷ bs) p.0 h p.1 in
    let u = filled_takes c n p.0.1 q.0 t.behind q.1 in
    subst (λ (ys : List A). (b ∷ bs ≡ flat_map ta ys) × AllByRecursion FA ys) q.2
    (t.is ∙ ap (λ (r : List ℕ). ta p.0.0 ++ r) u.0, (t.fits, u.1))

-- the first value, and behind it the others
first_and_others : {A : Type 0} (read : Reader A) (bytes : List ℕ) (n : ℕ) (x : A) (rest : List ℕ) → 0 < length bytes → read bytes ≡ Some (x, rest)
    → filled read bytes (suc n) ≡ option_map (λ others. x ∷ others) (filled read rest n)
unfolding filled
first_and_others read [] n x rest some e = absurd (omega arith)
first_and_others {A} read (b ∷ bs) n x rest some e =
    ap (option_and_then (λ (a : A × List ℕ). option_map (λ (others : List A). a.0 ∷ others) (filled read a.1 n))) e

filled-nil : {A : Type 0} (read : Reader A) (n : ℕ) → filled read [] n ≡ Some []
unfolding filled
filled-nil read zero = refl
filled-nil read (suc n) = refl

-- values whose texts have a byte each are read again, where the number of steps isn't below that of bytes
pub filled_again : {A : Type 0} {ta : A → List ℕ} {read : Reader A} {FA : A → Type 0} → IsCodec ta read FA → ((x : A) → FA x → 0 < length (ta x))
    → (n : ℕ) (xs : List A) → AllByRecursion FA xs → length (flat_map ta xs) ≤ n → filled read (flat_map ta xs) n ≡ Some xs
filled_again {read = read} c some n [] fits room = filled-nil read n
filled_again {ta = ta} c some zero (x ∷ xs) fits room =
    absurd (omega (arith, some x fits.0, length-append (ta x) (flat_map ta xs)))
filled_again {A} {ta} {read} {FA} c some (suc n) (x ∷ xs) fits room =
    let byte = some x fits.0 in
    let long = length-append (ta x) (flat_map ta xs) in
    first_and_others read (ta x ++ flat_map ta xs) n x (flat_map ta xs) (omega (arith, byte, long)) (c.again x (flat_map ta xs) fits.0)
    ∙ ap (option_map (λ (others : List A). x ∷ others)) (filled_again c some n xs fits.1 (omega (arith, byte, long)))
