-- The ranges that bodies of log files declare void, body after body and file after file.
use Rattle.std.proofs.Common.{◌≡◌, ℕ, zero, suc, ◌<◌, Bool, true, false, ◌||◌, List, [], ◌∷◌, ◌++◌, length, get_or, take, map, Vec, Global, refl, ap, ◌∙◌, arith}
use Rattle.std.specs.List.{list_any}
use Rattle.std.proofs.lemmas.List.Folds.{list_any-append}
use Rattle.log_text.specs.Bodies.{voids, body_of}
use Rattle.log_text.specs.declared.body.Body.{Body}
use Rattle.recover_found.specs.Found.{bodies_in, is_spanned, void_in, void_of}
use Rattle.recover_found.specs.declared.spans.Span.{Span}

pub or_false : (b : Bool) → (b || false) ≡ b
or_false true = refl
or_false false = refl

pub or_assoc : (a b c : Bool) → (a || (b || c)) ≡ ((a || b) || c)
or_assoc true b c = refl
or_assoc false b c = refl

pub void_more : (bodies : List Body) (i : ℕ) (d : Body) (epoch : ℕ) → i < length bodies
    → void_in (bodies_in (take (suc i) bodies)) epoch
    ≡ (void_in (bodies_in (take i bodies)) epoch || voids (body_of (get_or bodies i d)) epoch)
void_more [] i d epoch less = absurd (omega (arith, less))
void_more (b ∷ bs) zero d epoch less = or_false (voids (body_of b) epoch)
void_more (b ∷ bs) (suc i) d epoch less =
    ap (λ (x : Bool). voids (body_of b) epoch || x) (void_more bs i d epoch (omega (arith, less)))
    ∙ or_assoc (voids (body_of b) epoch) (void_in (bodies_in (take i bs)) epoch) (voids (body_of (get_or bs i d)) epoch)

-- of files
abbrev pub void_among : List (Vec Body Global) → ℕ → Bool
void_among files epoch = void_of (map (λ (bodies : Vec Body Global). bodies_in bodies.items) files) epoch

pub files_more : (files : List (Vec Body Global)) (i : ℕ) (d : Vec Body Global) (epoch : ℕ) → i < length files
    → void_among (take (suc i) files) epoch
    ≡ (void_among (take i files) epoch || void_in (bodies_in (get_or files i d).items) epoch)
files_more [] i d epoch less = absurd (omega (arith, less))
files_more (b ∷ bs) zero d epoch less = or_false (void_in (bodies_in b.items) epoch)
files_more (b ∷ bs) (suc i) d epoch less =
    ap (λ (x : Bool). void_in (bodies_in b.items) epoch || x) (files_more bs i d epoch (omega (arith, less)))
    ∙ or_assoc (void_in (bodies_in b.items) epoch) (void_among (take i bs) epoch) (void_in (bodies_in (get_or bs i d).items) epoch)

-- one range more
pub pushed : (spans : List Span) (s : Span) (epoch : ℕ)
    → list_any (is_spanned epoch) (spans ++ s ∷ []) ≡ (list_any (is_spanned epoch) spans || is_spanned epoch s)
pushed spans s epoch =
    list_any-append (is_spanned epoch) spans (s ∷ [])
    ∙ ap (λ (x : Bool). list_any (is_spanned epoch) spans || x) (or_false (is_spanned epoch s))
