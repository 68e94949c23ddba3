-- Codecs made of codecs.
use Rattle.std.proofs.Common.{◌≡◌, ℕ, zero, suc, List, [], ◌∷◌, ◌++◌, length, refl, sym, ap, ◌∙◌, subst, append_assoc, Option, Some, None, arith}
use Rattle.std.specs.Prelude.{flat_map}
use Rattle.std.specs.List.{AllByRecursion}
use Rattle.std.specs.Option.{option_map, option_and_then}
use Rattle.log_codec.specs.Numbers.{Reader, IsBytes}
use Rattle.log_codec.specs.Read.{both, chosen, many}
use Rattle.log_codec.specs.Codec.{IsCodec}
use Rattle.log_codec.proofs.NumberTexts.{bytes_behind}

-- what an option was that gave a value on
pub and_then_some : {A B : Type 0} (f : A → Option B) (o : Option A) (y : B) → option_and_then f o ≡ Some y → (x : A) × (o ≡ Some x) × (f x ≡ Some y)
and_then_some f (Some x) y e = (x, refl, e)
and_then_some f None y e = absurd cc

pub map_some : {A B : Type 0} (f : A → B) (o : Option A) (y : B) → option_map f o ≡ Some y → (x : A) × (o ≡ Some x) × (f x ≡ y)
map_some f (Some x) y e = (x, refl, cc)
map_some f None y e = absurd cc

-- two parts from the front are one
in_parts : (bytes first behind second rest : List ℕ) → bytes ≡ first ++ behind → behind ≡ second ++ rest → bytes ≡ (first ++ second) ++ rest
in_parts bytes first behind second rest e f = e ∙ ap (λ (r : List ℕ). first ++ r) f ∙ sym (append_assoc first second rest)

-- what a codec takes, with bytes behind it
pub record Takes {A : Type 0} (text : A → List ℕ) (Fits : A → Type 0) (bytes : List ℕ) (x : A × List ℕ) : Type 0 where
  pub is : bytes ≡ text x.0 ++ x.1
  pub fits : Fits x.0
  pub behind : IsBytes x.1

pub taken : {A : Type 0} {text : A → List ℕ} {read : Reader A} {Fits : A → Type 0} → IsCodec text read Fits → (bytes : List ℕ) (x : A × List ℕ)
    → IsBytes bytes → read bytes ≡ Some x → Takes text Fits bytes x
taken {text = text} c bytes x h e =
    let t = c.takes bytes x h e in
    record { is = t.0; fits = t.1; behind = bytes_behind (text x.0) x.1 (subst IsBytes t.0 h) }

-- a codec, and behind it one that is chosen by the first value
pub codec-both : {A B : Type 0} {ta : A → List ℕ} {first : Reader A} {FA : A → Type 0} {tb : A → B → List ℕ} {next : A → Reader B} {FB : A → B → Type 0}
    → IsCodec ta first FA → ((a : A) → IsCodec (tb a) (next a) (FB a))
    → IsCodec (λ p. ta p.0 ++ tb p.0 p.1) (both first next) (λ p. FA p.0 × FB p.0 p.1)
unfolding both
codec-both {A} {B} {ta} {first} {FA} {tb} {next} {FB} ca cb = record {
  takes = λ bytes x h e.
      let p = and_then_some (λ (a : A × List ℕ). option_map (λ (b : B × List ℕ). ((a.0, b.0), b.1)) (next a.0 a.1)) (first bytes) x e in
      let q = map_some (λ (b : B × List ℕ). ((p.0.0, b.0), b.1)) (next p.0.0 p.0.1) x p.2 in
      let t = taken ca bytes p.0 h p.1 in
      let u = taken (cb p.0.0) p.0.1 q.0 t.behind q.1 in
      subst (λ (y : (A × B) × List ℕ). (bytes ≡ (ta y.0.0 ++ tb y.0.0 y.0.1) ++ y.1) × (FA y.0.0 × FB y.0.0 y.0.1)) q.2
      (in_parts bytes (ta p.0.0) p.0.1 (tb p.0.0 q.0.0) q.0.1 t.is u.is, (t.fits, u.fits));
  again = λ x rest fits.
      ap (option_and_then (λ (a : A × List ℕ). option_map (λ (b : B × List ℕ). ((a.0, b.0), b.1)) (next a.0 a.1)))
      (ap first (append_assoc (ta x.0) (tb x.0 x.1) rest) ∙ ca.again x.0 (tb x.0 x.1 ++ rest) fits.0)
      ∙ ap (option_map (λ (b : B × List ℕ). ((x.0, b.0), b.1))) ((cb x.0).again x.1 rest fits.1);
}

-- a codec of what a choice makes of values, where it takes just the values that fit and can be turned back
pub codec-chosen : {A B : Type 0} {ta : A → List ℕ} {read : Reader A} {FA : A → Type 0} (choice : A → Option B) (back : B → A) (FB : B → Type 0)
    → ((a : A) (b : B) → FA a → choice a ≡ Some b → (back b ≡ a) × FB b) → ((b : B) → FB b → FA (back b) × (choice (back b) ≡ Some b))
    → IsCodec ta read FA → IsCodec (λ b. ta (back b)) (chosen choice read) FB
unfolding chosen
codec-chosen {A} {B} {ta} {read} {FA} choice back FB there here c = record {
  takes = λ bytes x h e.
      let p = and_then_some (λ (a : A × List ℕ). option_map (λ (b : B). (b, a.1)) (choice a.0)) (read bytes) x e in
      let q = map_some (λ (b : B). (b, p.0.1)) (choice p.0.0) x p.2 in
      let t = taken c bytes p.0 h p.1 in
      let g = there p.0.0 q.0 t.fits q.1 in
      subst (λ (y : B × List ℕ). (bytes ≡ ta (back y.0) ++ y.1) × FB y.0) q.2
      (t.is ∙ ap (λ (a : A). ta a ++ p.0.1) (sym g.0), g.1);
  again = λ b rest fits.
      let g = here b fits in
      ap (option_and_then (λ (a : A × List ℕ). option_map (λ (b : B). (b, a.1)) (choice a.0))) (c.again (back b) rest g.0)
      ∙ ap (option_map (λ (b : B). (b, rest))) g.1;
}

-- what many take, and that they are read again
many-takes : {A : Type 0} {ta : A → List ℕ} {read : Reader A} {FA : A → Type 0} → IsCodec ta read FA → (n : ℕ) (bytes : List ℕ) (x : List A × List ℕ)
    → IsBytes bytes → many n read bytes ≡ Some x → (bytes ≡ flat_map ta x.0 ++ x.1) × ((length x.0 ≡ n) × AllByRecursion FA x.0)
unfolding many
many-takes {A} {ta} {read} {FA} c zero bytes x h e =
    let same : ◌≡◌ {A = List A × List ℕ} ([], bytes) x = cc in
    subst (λ (y : List A × List ℕ). (bytes ≡ flat_map ta y.0 ++ y.1) × ((length y.0 ≡ 0) × AllByRecursion FA y.0)) same (refl, (refl, tt))
many-takes {A} {ta} {read} {FA} c (suc n) bytes x h e =
    let p = and_then_some (λ (a : A × List ℕ). option_map (λ (others : List A × List ℕ). (a.0 ∷ others.0, others.1)) (many n read a.1)) (read bytes) x e in
    let q = map_some (λ (others : List A × List ℕ). (p.0.0 ∷ others.0, others.1)) (many n read p.0.1) x p.2 in
    let t = taken c bytes p.0 h p.1 in
    let u = many-takes c n p.0.1 q.0 t.behind q.1 in
    subst (λ (y : List A × List ℕ). (bytes ≡ flat_map ta y.0 ++ y.1) × ((length y.0 ≡ suc n) × AllByRecursion FA y.0)) q.2
    (in_parts bytes (ta p.0.0) p.0.1 (flat_map ta q.0.0) q.0.1 t.is u.0, (omega (arith, u.1.0), (t.fits, u.1.1)))

many-again : {A : Type 0} {ta : A → List ℕ} {read : Reader A} {FA : A → Type 0} → IsCodec ta read FA → (n : ℕ) (xs : List A) (rest : List ℕ)
    → length xs ≡ n → AllByRecursion FA xs → many n read (flat_map ta xs ++ rest) ≡ Some (xs, rest)
unfolding many
many-again c zero [] rest long fits = refl
many-again c zero (x ∷ xs) rest long fits = absurd (omega arith)
many-again c (suc n) [] rest long fits = absurd (omega arith)
many-again {A} {ta} {read} {FA} c (suc n) (x ∷ xs) rest long fits =
    ap (option_and_then (λ (a : A × List ℕ). option_map (λ (others : List A × List ℕ). (a.0 ∷ others.0, others.1)) (many n read a.1)))
    (ap read (append_assoc (ta x) (flat_map ta xs) rest) ∙ c.again x (flat_map ta xs ++ rest) fits.0)
    ∙ ap (option_map (λ (others : List A × List ℕ). (x ∷ others.0, others.1))) (many-again c n xs rest (omega (arith, long)) fits.1)

-- so many values of one codec, one behind the other
pub codec-many : {A : Type 0} {ta : A → List ℕ} {read : Reader A} {FA : A → Type 0} (n : ℕ) → IsCodec ta read FA
    → IsCodec (flat_map ta) (many n read) (λ xs. (length xs ≡ n) × AllByRecursion FA xs)
codec-many n c = record { takes = many-takes c n; again = λ xs rest fits. many-again c n xs rest fits.0 fits.1 }

-- a codec whose texts are written otherwise
pub codec-same : {A : Type 0} {text other : A → List ℕ} {read : Reader A} {Fits : A → Type 0} → ((x : A) → text x ≡ other x)
    → IsCodec text read Fits → IsCodec other read Fits
codec-same {A} {text} {other} {read} {Fits} same c = record {
  takes = λ bytes x h e. let t = c.takes bytes x h e in (t.0 ∙ ap (λ (front : List ℕ). front ++ x.1) (same x.0), t.1);
  again = λ x rest fits. ap (λ (front : List ℕ). read (front ++ rest)) (sym (same x)) ∙ c.again x rest fits;
}

-- bytes that begin with the texts of two values begin with one text of one value
pub one_value : {A : Type 0} {text : A → List ℕ} {read : Reader A} {Fits : A → Type 0} → IsCodec text read Fits → (x y : A) (a b : List ℕ)
    → Fits x → Fits y → text x ++ a ≡ text y ++ b → (x ≡ y) × (a ≡ b)
one_value {A} {text} {read} {Fits} c x y a b fx fy e =
    let same : ◌≡◌ {A = Option (A × List ℕ)} (Some (x, a)) (Some (y, b)) = sym (c.again x a fx) ∙ ap read e ∙ c.again y b fy in
    let pair : ◌≡◌ {A = A × List ℕ} (x, a) (y, b) = cc in
    (ap (λ (p : A × List ℕ). p.0) pair, ap (λ (p : A × List ℕ). p.1) pair)
