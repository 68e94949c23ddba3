-- The marks of files' last bodies, and the least of them.
use Rattle.std.proofs.Common.{◌≡◌, ℕ, zero, suc, ◌+◌, ◌-◌, ◌<◌, ◌≤◌, min, Option, None, Some, List, [], ◌∷◌, map, length, get_or, drop, Vec, Global, refl, sym, ap, ◌∙◌, arith}
use Rattle.std.specs.Prelude.{unwrap_or}
use Rattle.std.specs.Option.{option_map_or}
use Rattle.std.proofs.lemmas.List.{at_drop_more, at_drop_all}
use Rattle.tables.specs.OrderNumbers.{least}
use Rattle.log_text.specs.declared.body.Body.{Body}
use Rattle.recover_found.specs.Found.{bodies_in, durable_of, last_mark}

abbrev mark_in : Body → ℕ
mark_in b = Rattle.log_text.specs.Bodies.mark_of (Rattle.log_text.specs.Bodies.body_of b)

-- the body at the last place has the last mark
at_place : (before : ℕ) (bodies : List Body) (i : ℕ) (d : Body) → i + 1 ≡ length bodies
    → mark_in (get_or bodies i d) ≡ last_mark before (bodies_in bodies)
at_place before [] i d e = absurd (omega (arith, e))
at_place before (x ∷ []) zero d e = refl
at_place before (x ∷ []) (suc i) d e = absurd (omega (arith, e))
at_place before (x ∷ y ∷ ys) zero d e = absurd (omega (arith, e))
at_place before (x ∷ y ∷ ys) (suc i) d e = at_place (mark_in x) (y ∷ ys) i d (omega (arith, e))

pub mark_of_last : (bodies : List Body) (b d : Body) → 0 < length bodies → b ≡ get_or bodies (length bodies - 1) d
    → mark_in b ≡ last_mark 0 (bodies_in bodies)
mark_of_last bodies b d some is =
    ap mark_in is ∙ at_place 0 bodies (length bodies - 1) d (omega (arith, some))

-- the least of what was found and of what is left, and what was found with one mark more
abbrev pub least_after : Option ℕ → Option ℕ → Option ℕ
least_after None rest = rest
least_after (Some n) rest = Some (option_map_or (min n) rest n)

abbrev pub lowered : Option ℕ → ℕ → Option ℕ
lowered None mark = Some mark
lowered (Some n) mark = Some (min n mark)

pub stays : (n mark : ℕ) → n < mark → Some n ≡ lowered (Some n) mark
stays n mark less = ap (λ (k : ℕ). Some k) (omega (arith, less))

pub replaced : (n mark : ℕ) → mark ≤ n → Some mark ≡ lowered (Some n) mark
replaced n mark no_more = ap (λ (k : ℕ). Some k) (omega (arith, no_more))

step : (found : Option ℕ) (mark : ℕ) (rest : Option ℕ)
    → least_after found (Some (option_map_or (min mark) rest mark)) ≡ least_after (lowered found mark) rest
step None mark rest = refl
step (Some n) mark None = refl
step (Some n) mark (Some m) = ap (λ (k : ℕ). Some k) (omega arith)

nothing_left : (found : Option ℕ) → least_after found None ≡ found
nothing_left None = refl
nothing_left (Some n) = refl

-- the last marks of files
abbrev mark_of : Vec Body Global → ℕ
mark_of bodies = last_mark 0 (bodies_in bodies.items)

abbrev pub marks : List (Vec Body Global) → List ℕ
marks files = map (last_mark 0) (map (λ (bodies : Vec Body Global). bodies_in bodies.items) files)

abbrev with_those : Option ℕ → List (Vec Body Global) → Option ℕ
with_those found files = least_after found (least (marks files))

-- what was found and what is left give the least of all
pub record IsLeastSoFar (files : List (Vec Body Global)) (i : ℕ) (found : Option ℕ) : Type 0 where
  pub all : least_after found (least (marks (drop i files))) ≡ least (marks files)

pub begins : (files : List (Vec Body Global)) → IsLeastSoFar files 0 None
begins files = record { all = refl }

pub goes_on : (files : List (Vec Body Global)) (i : ℕ) (found now : Option ℕ) (mark : ℕ) (bodies d : Vec Body Global)
    → i < length files → bodies ≡ get_or files i d → mark ≡ last_mark 0 (bodies_in bodies.items)
    → now ≡ lowered found mark → IsLeastSoFar files i found → IsLeastSoFar files (i + 1) now
goes_on files i found now mark bodies d more is mark_is now_is so_far = record {
  all =
      let rest = least (marks (drop (i + 1) files)) in
      let same : mark ≡ mark_of (get_or files i d) = mark_is ∙ ap mark_of is in
      ap (λ (o : Option ℕ). least_after o rest) now_is ∙ sym (step found mark rest)
      ∙ ap (λ (m : ℕ). least_after found (Some (option_map_or (min m) rest m))) same
      ∙ sym (at_drop_more (with_those found) files i d more) ∙ so_far.all;
}

pub ends : (files : List (Vec Body Global)) (i : ℕ) (found : Option ℕ) → length files ≤ i → IsLeastSoFar files i found
    → unwrap_or found 0 ≡ durable_of (map (λ (bodies : Vec Body Global). bodies_in bodies.items) files)
ends files i found over so_far =
    ap (λ (o : Option ℕ). unwrap_or o 0)
    (sym (nothing_left found) ∙ sym (at_drop_all (with_those found) files i over) ∙ so_far.all)
