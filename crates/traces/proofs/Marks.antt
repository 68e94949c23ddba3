-- The least of marks.
use Rattle.std.proofs.Common.{◌≡◌, ℕ, suc, ◌<◌, ◌≤◌, min, List, [], ◌∷◌, length, refl, subst, arith, ⊎_elim}
use Rattle.std.proofs.Math.Logic.{⊎_map}
use Rattle.std.proofs.lemmas.Bool.Decides.{leb_tells}
use Rattle.std.proofs.lemmas.List.Elements.{All-contains, All-nil, All-cons}
use Rattle.board.specs.Publishing.{IsLeastMark}
use Rattle.traces.specs.Told.{least_mark}

least_over : (mark least : ℕ) (marks : List ℕ) → IsLeastMark least marks → IsLeastMark (min mark least) (mark ∷ marks)
least_over mark least marks is = ⊎_elim
    (λ (low : mark ≤ least). let e : mark ≡ min mark least = omega arith in subst (λ (n : ℕ). IsLeastMark n (mark ∷ marks)) e (record {
      among = (0, omega arith, refl);
      below = All-cons (λ (m : ℕ). mark ≤ m) mark marks (omega arith) (λ k d lt. omega (arith, low, is.below k d lt));
    }))
    (λ (high : least < mark). let e : least ≡ min mark least = omega arith in subst (λ (n : ℕ). IsLeastMark n (mark ∷ marks)) e (record {
      among = (suc is.among.0, omega (arith, is.among.1), is.among.2);
      below = All-cons (λ (m : ℕ). least ≤ m) mark marks (omega (arith, high)) is.below;
    }))
    (⊎_map (λ t. t.1) (λ t. t.1) (leb_tells mark least))

pub is_least : (marks : List ℕ) → 0 < length marks → IsLeastMark (least_mark marks) marks
is_least [] some = absurd (omega (arith, some))
is_least (mark ∷ []) some = record {
  among = (0, omega arith, refl);
  below = All-cons (λ (m : ℕ). mark ≤ m) mark [] (omega arith) (All-nil (λ (m : ℕ). mark ≤ m));
}
is_least (mark ∷ other ∷ marks) some =
    least_over mark (least_mark (other ∷ marks)) (other ∷ marks) (is_least (other ∷ marks) (omega arith))

-- one mark more
pub one_more : (marks : List ℕ) (mark : ℕ) → 0 < length marks → least_mark (mark ∷ marks) ≡ min mark (least_mark marks)
one_more [] mark some = absurd (omega (arith, some))
one_more (other ∷ marks) mark some = refl

pub none_more : (marks : List ℕ) (mark : ℕ) → length marks ≡ 0 → least_mark (mark ∷ marks) ≡ mark
none_more [] mark none = refl
none_more (other ∷ marks) mark none = absurd (omega (arith, none))

-- there is one least mark
pub one_least : (marks : List ℕ) (a b : ℕ) → IsLeastMark a marks → IsLeastMark b marks → a ≡ b
one_least marks a b x y =
    let down : a ≤ b = All-contains (λ (m : ℕ). a ≤ m) marks b x.below y.among in
    let up : b ≤ a = All-contains (λ (m : ℕ). b ≤ m) marks a y.below x.among in
    omega arith
