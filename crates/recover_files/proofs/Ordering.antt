-- Entries in the order of their numbers.
use Rattle.std.proofs.Common.{◌≡◌, inl, inr, ℕ, suc, ◌+◌, ◌<◌, ◌≤◌, cond, List, [], ◌∷◌, get_or, set, drop, length, map, refl, sym, ap, ◌∙◌, subst, arith, add-one, drop-cons}
use Rattle.std.specs.Prelude.{nat_le, slice_index_or}
use Rattle.std.specs.List.{sum_by, swap}
use Rattle.std.specs.List.Sorted.{IsPermutation, IsNonDecreasingBy, SwapsInRange, apply_swaps}
use Rattle.std.proofs.lemmas.Bool.Decides.{nat_tests}
use Rattle.std.proofs.lemmas.List.Sums.{sum_by-cons}
use Rattle.std.proofs.lemmas.List.Sorted.{sum_by-IsPermutation}
use Rattle.std.proofs.Math.ListN.{get_or-map as map_at}
use Rattle.std.proofs.lemmas.List.{length-map, get_or-map, map-set}
use Rattle.log_text.specs.Entries.{EntryView}
use Rattle.recover_found.specs.Rebuilt.{AreNumbered, HaveNoGap}
use Rattle.recover_found.proofs.Elements.{Has}
use Rattle.recover_found.proofs.Numbered.{from_number}
use Rattle.recover_files.specs.Parts.{commit_of}
use Rattle.recover_files.specs.declared.numbering.Commit.{Commit}

-- one where the entry's number is up to a bound
abbrev counts_to : ℕ → EntryView → ℕ
counts_to bound e = cond (nat_le e.number bound) 1 0

-- as many are up to each bound in one list as in the other
abbrev SameCounts : List EntryView → List EntryView → Type 0
SameCounts xs ys = (bound : ℕ) → sum_by (counts_to bound) xs ≡ sum_by (counts_to bound) ys

abbrev Rises : List EntryView → Type 0
Rises xs = IsNonDecreasingBy (λ (e : EntryView). e.number) xs

up_to : (bound : ℕ) (e : EntryView) → e.number ≤ bound → counts_to bound e ≡ 1
up_to bound e h = grind (arith, nat_tests)

above : (bound : ℕ) (e : EntryView) → bound < e.number → counts_to bound e ≡ 0
above bound e h = grind (arith, nat_tests)

none_counts : (bound : ℕ) (xs : List EntryView) → ((e : EntryView) → Has xs e → bound < e.number) → sum_by (counts_to bound) xs ≡ 0
none_counts bound [] h = refl
none_counts bound (x ∷ xs) h = let all = sum_by-cons (counts_to bound) x xs in let first = above bound x (h x (inl refl)) in
    let rest = none_counts bound xs (λ e k. h e (inr k)) in omega (arith, all, first, rest)

-- where an element stands
place : (xs : List EntryView) (e : EntryView) → Has xs e → (j : ℕ) × (j < length xs) × ((d : EntryView) → slice_index_or xs j d ≡ e)
place [] e never = elim never [ ]
place (x ∷ xs) e (inl same) = (0, omega arith, λ d. same)
place (x ∷ xs) e (inr h) = let at = place xs e h in (suc at.0, omega (arith, at.1), at.2)

-- the first is the least
first_least : (x : EntryView) (xs : List EntryView) → Rises (x ∷ xs) → (e : EntryView) → Has (x ∷ xs) e → x.number ≤ e.number
first_least x xs up e h =
    let at = place (x ∷ xs) e h in
    let under = up 0 at.0 x (omega arith) at.1 in
    subst (λ (y : EntryView). x.number ≤ y.number) (at.2 x) under

rest_rises : (x : EntryView) (xs : List EntryView) → Rises (x ∷ xs) → Rises xs
rest_rises x xs up = λ i j d h lt. up (suc i) (suc j) d (omega (arith, h)) (omega (arith, lt))

numbered_same : (n : ℕ) (xs ys : List EntryView) → Rises xs → AreNumbered n ys → SameCounts xs ys → AreNumbered n xs
numbered_same n [] ys up h same = tt
numbered_same n (x ∷ xs) [] up h same =
    let all = sum_by-cons (counts_to x.number) x xs in let one = up_to x.number x (omega arith) in let none = same x.number in absurd (omega (arith, all, one, none))
numbered_same n (x ∷ xs) (y ∷ ys) up h same = (head, numbered_same (n + 1) xs ys (rest_rises x xs up) h.1 rest)
  where
    no_less : (x.number < n) → ⊥
    no_less less =
        let none = none_counts x.number (y ∷ ys) (λ e k. omega (arith, less, from_number n (y ∷ ys) e h k)) in
        let all = sum_by-cons (counts_to x.number) x xs in let one = up_to x.number x (omega arith) in let both = same x.number in
        omega (arith, none, all, one, both)

    no_more : (n < x.number) → ⊥
    no_more more =
        let none = none_counts n (x ∷ xs) (λ e k. omega (arith, more, first_least x xs up e k)) in
        let all = sum_by-cons (counts_to n) y ys in let one = up_to n y (omega (arith, h.0)) in let both = same n in
        omega (arith, none, all, one, both)

    head : x.number ≡ n
    head = omega (arith, no_less, no_more)

    rest : SameCounts xs ys
    rest bound =
        let here : counts_to bound x ≡ counts_to bound y = ap (λ (m : ℕ). cond (nat_le m bound) 1 0) (head ∙ sym h.0) in
        let left = sum_by-cons (counts_to bound) x xs in let right = sum_by-cons (counts_to bound) y ys in let both = same bound in
        omega (arith, here, left, right, both)

-- entries that have no gap are numbered once they stand in the order of their numbers
pub sorted_numbered : (es sorted : List EntryView) → IsPermutation es sorted → Rises sorted → HaveNoGap es → AreNumbered 1 sorted
sorted_numbered es sorted same up gapless =
    numbered_same 1 sorted gapless.0 up gapless.1.numbers
    (λ bound. sum_by-IsPermutation (counts_to bound) es sorted same ∙ sym (sum_by-IsPermutation (counts_to bound) es gapless.0 gapless.1.same))

-- where commits are what is kept of entries: the entry of commit i, and those behind it
pub next_entry : (es : List EntryView) (commits : List Commit) (i : ℕ) (c : Commit) → commits ≡ map commit_of es → i < length commits → c ≡ get_or commits i c
    → (e : EntryView) × (drop i es ≡ e ∷ drop (i + 1) es) × (e.number ≡ c.number)
next_entry es commits i c same less is =
    let d : EntryView = record { number = c.number; tid = 0; terminal = 0; writes = [] } in
    let short : i < length es = subst (λ (n : ℕ). i < n) (ap length same ∙ length-map es commit_of) less in
    let at : c ≡ commit_of (get_or es i d) = is ∙ ap (λ (l : List Commit). get_or l i c) same ∙ get_or-map commit_of es i d c short in (
      get_or es i d,
      rw add-one (drop-cons es i d short),
      sym (ap (λ (k : Commit). k.number) at),
    )

-- entries whose commits rise rise
pub entries_rise : (es : List EntryView) (commits : List Commit) → commits ≡ map commit_of es → IsNonDecreasingBy (λ (c : Commit). c.number) commits → Rises es
entries_rise es commits same up = λ i j d h lt.
    let short : j < length commits = subst (λ (n : ℕ). j < n) (sym (ap length same ∙ length-map es commit_of)) lt in
    let at : (k : ℕ) → k < length es → (get_or commits k (commit_of d)).number ≡ (get_or es k d).number
    = λ k less. ap (λ (l : List Commit). (get_or l k (commit_of d)).number) same ∙ ap (λ (c : Commit). c.number) (get_or-map commit_of es k d (commit_of d) less) in
    subst (λ (n : ℕ). n ≤ (get_or es j d).number) (at i (omega (arith, h, lt)))
    (subst (λ (n : ℕ). (get_or commits i (commit_of d)).number ≤ n) (at j lt) (up i j (commit_of d) h short))

-- commits in another order are those of the entries in that order
module _ {X Y : Type 0} (f : X → Y) where
  map_swapped : (xs : List X) (i j : ℕ) → map f (swap xs i j) ≡ swap (map f xs) i j
  map_swapped [] i j = refl
  map_swapped (d ∷ ys) i j = map-set f (set (d ∷ ys) i (get_or (d ∷ ys) j d)) j (get_or (d ∷ ys) i d)
      ∙ (λ k. set ((map-set f (d ∷ ys) i (get_or (d ∷ ys) j d) ∙ ap (set (map f (d ∷ ys)) i) (sym (map_at f (d ∷ ys) j d))) k) j (sym (map_at f (d ∷ ys) i d) k))

  map_all_swapped : (xs : List X) (moves : List (ℕ × ℕ)) → map f (apply_swaps xs moves) ≡ apply_swaps (map f xs) moves
  map_all_swapped xs [] = refl
  map_all_swapped xs (m ∷ moves) = map_swapped (apply_swaps xs moves) m.0 m.1 ∙ ap (λ l. swap l m.0 m.1) (map_all_swapped xs moves)

  pub reordered : (xs : List X) (ys : List Y) → IsPermutation (map f xs) ys → (zs : List X) × IsPermutation xs zs × (ys ≡ map f zs)
  reordered xs ys same = (
    apply_swaps xs same.moves,
    record {
      moves = same.moves;
      below = subst (λ (n : ℕ). SwapsInRange n same.moves) (length-map xs f) same.below;
      is = refl;
    },
    same.is ∙ sym (map_all_swapped xs same.moves),
  )
