-- The amounts of an order's lines, one line after the other.
use Rattle.std.proofs.Common.{◌≡◌, ℕ, ◌+◌, ◌*◌, ◌<◌, ℤ, pos, ◌+ℤ◌, ◌≤ℤ◌, true, false, cond, is_some, Some, List, [], ◌∷◌, ◌++◌, length, map, take, drop, get_or}
use Rattle.std.proofs.Common.{refl, sym, ap, ◌∙◌, arith}
use Rattle.std.proofs.lemmas.Int.{ints}
use Rattle.std.proofs.lemmas.List.{take_more, drop_more, map-append}
use Rattle.std.proofs.lemmas.List.Sums.{fold_push}
use Rattle.std.specs.FinMap.{get}
use Rattle.tables.specs.Database.{Database}
use Rattle.tables.specs.NewOrder.{first_missing, line_amount, lines_amount}
use Rattle.tables.specs.declared.new_order.RequestedLine.{RequestedLine}

-- the amounts of the first i lines, and their sum
pub record IsPricedTo (t : Database) (ls : List RequestedLine) (i : ℕ) (amounts : List ℤ) (sum : ℤ) : Type 0 where
  pub left : first_missing t ls ≡ first_missing t (drop i ls)
  pub amounts_are : amounts ≡ map (line_amount t) (take i ls)
  pub sum_is : sum ≡ lines_amount t (take i ls)
  pub at_least : pos 0 ≤ℤ sum
  pub at_most : sum ≤ℤ pos (100000 * i)

pub priced_first : (t : Database) (ls : List RequestedLine) → IsPricedTo t ls 0 [] (pos 0)
priced_first t ls = record { left = refl; amounts_are = refl; sum_is = refl; at_least = omega (arith, ints); at_most = omega (arith, ints) }

module _ (t : Database) (ls : List RequestedLine) (i : ℕ) (amounts : List ℤ) (sum : ℤ) (p : IsPricedTo t ls i amounts sum) where
  module _ (l d : RequestedLine) (is : l ≡ get_or ls i d) (small : i < length ls) where
    at : drop i ls ≡ l ∷ drop (i + 1) ls
    at = drop_more ls i d small ∙ ap (λ (x : RequestedLine). x ∷ drop (i + 1) ls) (sym is)

    here : first_missing t ls ≡ cond (is_some (get t.items l.item)) (first_missing t (drop (i + 1) ls)) (Some l.item)
    here = p.left ∙ ap (first_missing t) at

    pub missing_here : is_some (get t.items l.item) ≡ false → first_missing t ls ≡ Some l.item
    missing_here e = here ∙ ap (λ b. cond b (first_missing t (drop (i + 1) ls)) (Some l.item)) e

    front : take (i + 1) ls ≡ take i ls ++ l ∷ []
    front = take_more ls i d small ∙ ap (λ (x : RequestedLine). take i ls ++ x ∷ []) (sym is)

    pub priced_next : is_some (get t.items l.item) ≡ true → (a : ℤ) → a ≡ line_amount t l → pos 0 ≤ℤ a → a ≤ℤ pos 100000
        → IsPricedTo t ls (i + 1) (amounts ++ a ∷ []) (sum +ℤ a)
    priced_next e a a_is low high = record {
      left = here ∙ ap (λ b. cond b (first_missing t (drop (i + 1) ls)) (Some l.item)) e;
      amounts_are = ap (λ (front : List ℤ). front ++ a ∷ []) p.amounts_are ∙ ap (λ (x : ℤ). map (line_amount t) (take i ls) ++ x ∷ []) a_is
          ∙ sym (ap (map (line_amount t)) front ∙ map-append (line_amount t) (take i ls) (l ∷ []));
      sum_is = ap (λ (s : ℤ). s +ℤ a) p.sum_is ∙ ap (λ (x : ℤ). lines_amount t (take i ls) +ℤ x) a_is
          ∙ sym (ap (lines_amount t) front ∙ fold_push (λ (s : ℤ) (x : RequestedLine). s +ℤ line_amount t x) (pos 0) (take i ls) l);
      at_least = let q = p.at_least in omega (arith, ints, q, low);
      at_most = let q = p.at_most in omega (arith, ints, q, high);
    }
