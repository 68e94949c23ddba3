-- How a list is cut at its first mark.
use Rattle.std.proofs.Common.{◌≡◌, ◌≢◌, ℕ, suc, add-one, ◌+◌, ◌-◌, ◌<◌, ◌≤◌, false, eqb, List, [], ◌∷◌, ◌++◌, length, get_or, take, drop, length-take, sym, ap}
use Rattle.std.proofs.Common.{◌∙◌, subst, refl, arith}
use Rattle.std.specs.List.{All, slice_split}
use Rattle.std.proofs.lemmas.Bool.{false_from_ne_true, true≢false}
use Rattle.std.proofs.lemmas.Bool.Decides.{Decides-eqb}
use Rattle.std.proofs.lemmas.List.{take-append-drop, get_or-take, get_or_default, take_rest, take_all}
use Rattle.std.proofs.lemmas.List.Splits.{slice_split_at, slice_split_none}
use Rattle.std.proofs.Math.Seq.{drop-cons}
use Rattle.memchr.specs.Find.{Nowhere, Passes, is_byte}

-- no mark stands before place k
abbrev pub LacksBefore : ℕ → List ℕ → ℕ → Type 0
LacksBefore mark text k = Nowhere (Passes (is_byte mark) text) 0 k

lacks_before : (mark k : ℕ) (text : List ℕ) → k ≤ length text → LacksBefore mark text k → All (λ b. eqb b mark ≡ false) (take k text)
lacks_before mark k text within none i d below =
    let inside : i < k = omega (arith, length-take k text) in
    let read : get_or (take k text) i d ≡ get_or text i 0 = get_or-take k text i d inside ∙ get_or_default text i d 0 (omega arith) in
    ap (λ b. eqb b mark) read ∙ false_from_ne_true _ (none i (omega arith) inside)

-- the same of the list before place k
pub lacks_at : (mark k : ℕ) (text : List ℕ) → k ≤ length text → LacksBefore mark text k → All (λ b. b ≢ mark) (take k text)
lacks_at mark k text within none i d below e =
    true≢false (sym ((Decides-eqb (get_or (take k text) i d) mark).1 e) ∙ lacks_before mark k text within none i d below)

-- with no mark the list is one part
pub parts_none : (mark : ℕ) (text : List ℕ) → LacksBefore mark text (length text) → slice_split (λ b. eqb b mark) text ≡ text ∷ []
parts_none mark text none =
    slice_split_none _ text (subst (λ l. All (λ b. eqb b mark ≡ false) l) (take_all (length text) text (omega arith))
    (lacks_before mark (length text) text (omega arith) none))

-- the list, taken apart at a mark
whole_at : (mark k : ℕ) (text : List ℕ) → k < length text → Passes (is_byte mark) text k → text ≡ take k text
    ++ (mark ∷ take (length text - (k + 1)) (drop (k + 1) text))
whole_at mark k text within passes =
    let is : get_or text k 0 ≡ mark = (Decides-eqb (get_or text k 0) mark).0 passes in
    rw (take_rest, add-one) (sym (take-append-drop k text) ∙ ap (λ l. take k text ++ l) (drop-cons text k 0 within ∙ ap (λ b. b ∷ drop (suc k) text) is))

-- the first part ends at the first mark
pub parts_at : (mark k : ℕ) (text : List ℕ) → k < length text → LacksBefore mark text k → Passes (is_byte mark) text k
    → slice_split (λ b. eqb b mark) text ≡ take k text ∷ slice_split (λ b. eqb b mark) (take (length text - (k + 1)) (drop (k + 1) text))
parts_at mark k text within none passes =
    ap (slice_split (λ b. eqb b mark)) (whole_at mark k text within passes)
    ∙ slice_split_at _ (take k text) mark _ (lacks_before mark k text (omega arith) none) ((Decides-eqb mark mark).1 refl)
