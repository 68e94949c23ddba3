-- What a pass over entries leaves of the order numbers of each district.
use Rattle.std.proofs.Common.{◌≡◌, ℕ, ◌+◌, ◌<◌, ◌≤◌, ◌^◌, ◌==◌, Bool, true, false, cond, min, max, Option, Some, None, List, [], ◌∷◌, length, map, refl, sym}
use Rattle.std.proofs.Common.{ap, ◌∙◌, subst, arith}
use Rattle.std.proofs.lemmas.Bool.Decides.{nat_tests}
use Rattle.std.specs.List.{fold, filter}
use Rattle.std.specs.Option.{option_map_or}
use Rattle.std.specs.Ordering.{eq_by_cmp}
use Rattle.std.specs.BTreeMap as tree
use Rattle.std.specs.BTreeMap.{BTreeMap}
use Rattle.std.specs.FinMap.{from_entries}
use Rattle.tables.specs.Keys.{district_cmp, order_cmp, is_district}
use Rattle.tables.specs.OrderNumbers.{least, greatest, numbers_in}
use Rattle.tables.specs.declared.keys.DistrictKey.{DistrictKey}
use Rattle.tables.specs.declared.keys.OrderKey.{OrderKey}
use Rattle.tables.proofs.Orders.{exact_order}
use Rattle.tables.proofs.KeyTests.{is_district-key}
use Rattle.tables.proofs.Totals.{entries-view}
use Rattle.conditions.specs.Numbers.{no_numbers, with_number, numbers_among, AreNumbersOf}
use Rattle.conditions.specs.declared.numbers.Numbers.{Numbers}

-- one entry more: what the rest makes of the state now stays the same
pub numbered_more : {X : Type 0} (k : DistrictKey) (left rest : List (OrderKey × X)) (j : OrderKey) (r : X) (s s' all : Numbers) → left ≡ (j, r) ∷ rest
    → s' ≡ cond (eq_by_cmp district_cmp (record { warehouse = j.warehouse; district = j.district }) k) (with_number s j.order) s
    → fold with_number s (numbers_among k left) ≡ all → fold with_number s' (numbers_among k rest) ≡ all
numbered_more {X} k left rest j r s s' all next after before =
    ap (λ (n : Numbers). fold with_number n (numbers_among k rest))
    (after ∙ ap (λ b. cond b (with_number s j.order) s) (sym (is_district-key j.warehouse j.district k)))
    ∙ step (is_district j.warehouse j.district k) ∙ ap (λ es. fold with_number s (numbers_among k es)) (sym next) ∙ before
  where
    step : (b : Bool) → fold with_number (cond b (with_number s j.order) s) (numbers_among k rest)
        ≡ fold with_number s (map (λ (e : OrderKey × X). e.0.order)
        (cond b ((j, r) ∷ filter (λ (e : OrderKey × X). is_district e.0.warehouse e.0.district k) rest)
        (filter (λ (e : OrderKey × X). is_district e.0.warehouse e.0.district k) rest)))
    step true = refl
    step false = refl

-- and counts one more at most
pub count_more : (b : Bool) (n : ℕ) (s s' : Numbers) → s' ≡ cond b (with_number s n) s → s'.count ≤ s.count + 1
count_more true n s s' is = omega (arith, ap (λ (x : Numbers). x.count) is)
count_more false n s s' is = omega (arith, ap (λ (x : Numbers). x.count) is)

count-numbered : (s : Numbers) (ns : List ℕ) → (fold with_number s ns).count ≡ s.count + length ns
count-numbered s [] = omega arith
count-numbered s (n ∷ ns) = omega (arith, count-numbered (with_number s n) ns)

greatest-numbered : (s : Numbers) (ns : List ℕ) → (fold with_number s ns).greatest ≡ max s.greatest (greatest ns)
greatest-numbered s [] = omega arith
greatest-numbered s (n ∷ ns) = omega (arith, greatest-numbered (with_number s n) ns)

least-numbered : (s : Numbers) (ns : List ℕ) → 0 < s.count → (fold with_number s ns).least ≡ option_map_or (min s.least) (least ns) s.least
least-numbered s [] some = refl
least-numbered s (n ∷ ns) some =
    let next : (with_number s n).least ≡ min s.least n = ap (λ b. cond b n (min s.least n)) more in
    least-numbered (with_number s n) ns (omega arith) ∙ ap (λ x. option_map_or (min x) (least ns) x) next ∙ joined (least ns)
  where
    more : (s.count == 0) ≡ false
    more = grind (arith, nat_tests)

    joined : (rest : Option ℕ) → option_map_or (min (min s.least n)) rest (min s.least n) ≡ min s.least (option_map_or (min n) rest n)
    joined None = refl
    joined (Some x) = omega arith

numbered : (ns : List ℕ) → (fold with_number no_numbers ns).count < 2 ^ 63 → AreNumbersOf ns (fold with_number no_numbers ns)
numbered ns few = record {
  count = omega (arith, count-numbered no_numbers ns);
  least = first ns;
  greatest = omega (arith, greatest-numbered no_numbers ns);
  few = few;
}
  where
    first : (ns : List ℕ) → 0 < (fold with_number no_numbers ns).count → least ns ≡ Some (fold with_number no_numbers ns).least
    first [] none = absurd (omega arith)
    first (n ∷ ns) some = ap Some (sym (least-numbered (with_number no_numbers n) ns (omega arith)))

-- at the end none are left
pub are_numbers : {X : Type 0} (k : DistrictKey) (m : BTreeMap OrderKey X) (left : List (OrderKey × X)) (s : Numbers) → tree.IsOrdered order_cmp m → left ≡ []
    → fold with_number s (numbers_among k left) ≡ fold with_number no_numbers (numbers_among k m.entries) → s.count < 2 ^ 63
    → AreNumbersOf (numbers_in k (from_entries {R = order_cmp} m.entries)) s
are_numbers {X} k m left s ordered none all few =
    let is : fold with_number no_numbers (numbers_in k (from_entries {R = order_cmp} m.entries)) ≡ s =
    ap (λ es. fold with_number no_numbers (numbers_among k es)) (entries-view exact_order m ordered) ∙ sym all
    ∙ ap (λ es. fold with_number s (numbers_among k es)) none in
    subst (AreNumbersOf _) is (numbered _ (subst (λ (n : Numbers). n.count < 2 ^ 63) (sym is) few))

-- of a district that is held, what is held counts
pub held_more : (b : Bool) (held rest old : Numbers) (n : ℕ) → cond b held rest ≡ old → cond b (with_number held n) rest ≡ cond b (with_number old n) old
held_more true held rest old n is = ap (λ s. with_number s n) is
held_more false held rest old n is = is
