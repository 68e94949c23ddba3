-- Entries that are numbered one after another: their order follows.
use Rattle.std.proofs.Common.{◌≡◌, inl, inr, ⊎_elim, ℕ, ◌+◌, ◌≤◌, List, [], ◌∷◌, refl, sym, ap, ◌∙◌, arith}
use Rattle.log_text.specs.Entries.{EntryView}
use Rattle.recover_found.specs.Rebuilt.{AreNumbered}
use Rattle.recover_found.proofs.Elements.{Has}

pub from_number : (n : ℕ) (es : List EntryView) (e : EntryView) → AreNumbered n es → Has es e → n ≤ e.number
from_number n [] e h never = elim never [ ]
from_number n (d ∷ es) e h (inl same) = let number : d.number ≡ e.number = ap (λ (x : EntryView). x.number) same in omega (arith, h.0, number)
from_number n (d ∷ es) e h (inr k) = omega (arith, from_number (n + 1) es e h.1 k)

-- entries of one number are one
pub same_entry : (n : ℕ) (es : List EntryView) → AreNumbered n es → (d e : EntryView) → Has es d → Has es e → d.number ≡ e.number → d ≡ e
same_entry n [] h d e never _ number = elim never [ ]
same_entry n (x ∷ es) h d e (inl a) (inl b) number = sym a ∙ b
same_entry n (x ∷ es) h d e (inl a) (inr b) number =
    let first : x.number ≡ d.number = ap (λ (z : EntryView). z.number) a in absurd (omega (arith, h.0, first, number, from_number (n + 1) es e h.1 b))
same_entry n (x ∷ es) h d e (inr a) (inl b) number =
    let first : x.number ≡ e.number = ap (λ (z : EntryView). z.number) b in absurd (omega (arith, h.0, first, number, from_number (n + 1) es d h.1 a))
same_entry n (x ∷ es) h d e (inr a) (inr b) number = same_entry (n + 1) es h.1 d e a b number

-- lists of the same entries, both in the order of their numbers, are one
pub same_order : (n : ℕ) (xs ys : List EntryView) → AreNumbered n xs → AreNumbered n ys → ((e : EntryView) → Has xs e → Has ys e)
    → ((e : EntryView) → Has ys e → Has xs e) → xs ≡ ys
same_order n [] [] a b forth back = refl
same_order n [] (y ∷ ys) a b forth back = absurd (back y (inl refl))
same_order n (x ∷ xs) [] a b forth back = absurd (forth x (inl refl))
same_order n (x ∷ xs) (y ∷ ys) a b forth back =
    let rest : xs ≡ ys = same_order (n + 1) xs ys a.1 b.1 forth_rest back_rest in
    λ i. head i ∷ rest i
  where
    head : x ≡ y
    head = ⊎_elim (λ e. sym e) (λ k. absurd (omega (arith, a.0, from_number (n + 1) ys x b.1 k))) (forth x (inl refl))

    ahead : (e : EntryView) → Has xs e → y ≡ e → ⊥
    ahead e k same = let number : y.number ≡ e.number = ap (λ (z : EntryView). z.number) same in omega (arith, b.0, number, from_number (n + 1) xs e a.1 k)

    behind : (e : EntryView) → Has ys e → x ≡ e → ⊥
    behind e k same = let number : x.number ≡ e.number = ap (λ (z : EntryView). z.number) same in omega (arith, a.0, number, from_number (n + 1) ys e b.1 k)

    forth_rest : (e : EntryView) → Has xs e → Has ys e
    forth_rest e k = ⊎_elim (λ same. absurd (ahead e k same)) (λ m. m) (forth e (inr k))

    back_rest : (e : EntryView) → Has ys e → Has xs e
    back_rest e k = ⊎_elim (λ same. absurd (behind e k same)) (λ m. m) (back e (inr k))
