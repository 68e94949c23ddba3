-- Rising order numbers without the least: they have no gaps where those with it had none.
use Rattle.std.proofs.Common.{◌≡◌, ℕ, ◌+◌, ◌<◌, ◌≤◌, Bool, true, false, not, cond, ◌==◌, List, [], ◌∷◌, filter, length, Option, Some, None, refl, sym, ap, ◌∙◌}
use Rattle.std.proofs.Common.{subst, arith}
use Rattle.std.proofs.lemmas.Bool.Decides.{nat_tests}
use Rattle.std.proofs.lemmas.Option.{same_Some}
use Rattle.std.specs.List.{AllByRecursion}
use Rattle.std.specs.Option.{ForSome, option_map_or}
use Rattle.tables.specs.OrderNumbers.{least, greatest}
use Rattle.tables_laws.proofs.RisingNumbers.{Rises, least_first}
use Rattle.tables_laws.proofs.Touched.{self}

-- the numbers without one of them, or all
abbrev pub is_left : Option ℕ → ℕ → Bool
is_left w a = not (option_map_or (λ o. o == a) w false)

abbrev pub left_of : Option ℕ → List ℕ → List ℕ
left_of w ns = filter (is_left w) ns

pub all_left : (ns : List ℕ) → left_of None ns ≡ ns
all_left [] = refl
all_left (n ∷ ns) = ap (λ l. n ∷ l) (all_left ns)

above_left : (o : ℕ) (ns : List ℕ) → AllByRecursion (λ m. o < m) ns → left_of (Some o) ns ≡ ns
above_left o [] h = refl
above_left o (n ∷ ns) h =
    let other : (o == n) ≡ false = grind (arith, nat_tests, h.0) in
    ap (λ b. cond (not b) (n ∷ left_of (Some o) ns) (left_of (Some o) ns)) other ∙ ap (λ l. n ∷ l) (above_left o ns h.1)

-- without the least of rising numbers, the others
pub rest_left : (n : ℕ) (ns : List ℕ) → Rises (n ∷ ns) → left_of (least (n ∷ ns)) (n ∷ ns) ≡ ns
rest_left n ns rise =
    ap (λ w. left_of w (n ∷ ns)) (least_first n ns rise)
    ∙ ap (λ b. cond (not b) (n ∷ left_of (Some n) ns) (left_of (Some n) ns)) (self n)
    ∙ above_left n ns rise.0

-- conditions 2 and 3 of the numbers of a district's NEW-ORDER rows, of which the next is this
abbrev pub IsGapless : ℕ → List ℕ → Type 0
IsGapless next ns = ForSome (least ns) (λ _. greatest ns + 1 ≡ next) × ForSome (least ns) (λ first. greatest ns + 1 ≡ first + length ns)

-- rising numbers are at most as many as there are from the first to the greatest
pub no_more : (n : ℕ) (ns : List ℕ) → Rises (n ∷ ns) → n + length ns ≤ greatest (n ∷ ns)
no_more n [] rise = omega arith
no_more n (m ∷ ms) rise = omega (arith, rise.0.0, no_more m ms rise.1)

gapless_rest : (next n : ℕ) (ns : List ℕ) → Rises (n ∷ ns) → IsGapless next (n ∷ ns) → IsGapless next ns
gapless_rest next n [] rise was = ((λ first e. cc), (λ first e. cc))
gapless_rest next n (m ∷ ms) rise was =
    let first_is = least_first n (m ∷ ms) rise in
    let last : greatest (n ∷ m ∷ ms) + 1 ≡ next = was.0 n first_is in
    let count : greatest (n ∷ m ∷ ms) + 1 ≡ n + length (n ∷ m ∷ ms) = was.1 n first_is in
    let above : n < m = rise.0.0 in
    let few : m + length ms ≤ greatest (m ∷ ms) = no_more m ms rise.1 in (
      λ first e. omega arith,
      λ first e. let is : m ≡ first = same_Some _ _ (sym (least_first m ms rise.1) ∙ e) in omega arith,
    )

-- without the least, or with it
pub gapless_left : (taken : Bool) (next : ℕ) (ns : List ℕ) → Rises ns → IsGapless next ns → IsGapless next (left_of (cond taken (least ns) None) ns)
gapless_left true next [] rise was = was
gapless_left true next (n ∷ ns) rise was = subst (IsGapless next) (sym (rest_left n ns rise)) (gapless_rest next n ns rise was)
gapless_left false next ns rise was = subst (IsGapless next) (sym (all_left ns)) was
