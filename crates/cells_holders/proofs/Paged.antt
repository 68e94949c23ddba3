-- Lists one after another, by the number of an element: each has 4,096 elements, but for the last.
use Rattle.std.proofs.Common.{◌≡◌, ℕ, zero, suc, ◌+◌, ◌*◌, ◌<◌, ◌≤◌, List, [], ◌∷◌, ◌++◌, map, length, get_or, set, refl, sym, ap, ◌∙◌, subst, arith, length-append, append-nil, zero-add, suc-add, ◌/◌, ◌%◌, Some, div-add-mod'}
use Rattle.std.specs.Prelude.{All, slice_get}
use Rattle.std.specs.List.{flat_map}
use Rattle.std.proofs.Math.ListN.{get_or-append}
use Rattle.std.proofs.lemmas.List.{get_or-append-add, set-append_left}
use Rattle.std.proofs.lemmas.List.Elements.{All-head, All-tail}
use Rattle.std.proofs.lemmas.List.{length-replicate, get_or-replicate, map-append}
use Rattle.std.proofs.lemmas.Grind.{flat_map-append}
use Rattle.std.proofs.lemmas.Option.{slice_get-get_or}
use Rattle.atomic_table.specs.Seated.{TableId}
use Rattle.cells_holders.specs.Pages.{IsPaged, size_of, ids_of}

-- sizes that are told of otherwise
pub paged_as : {S : Type 0} (f g : S → ℕ) (ss : List S) → All (λ s. g s ≡ f s) ss → IsPaged (map f ss) → IsPaged (map g ss)
paged_as f g [] same h = tt
paged_as f g (s ∷ []) same h = subst (λ k. (0 < k) × (k ≤ 4096)) (sym (All-head (λ s. g s ≡ f s) s [] same)) h
paged_as f g (s ∷ t ∷ ss) same h = (All-head (λ s. g s ≡ f s) s (t ∷ ss) same ∙ h.0, paged_as f g (t ∷ ss) (All-tail (λ s. g s ≡ f s) s (t ∷ ss) same) h.1)

abbrev pub total : List ℕ → ℕ
total [] = 0
total (a ∷ sizes) = a + total sizes

-- a page more, where those so far are full
pub paged_more : (sizes : List ℕ) (size : ℕ) → IsPaged sizes → total sizes % 4096 ≡ 0 → 0 < size → size ≤ 4096 → IsPaged (sizes ++ size ∷ [])
paged_more [] size paged full some few = (some, few)
paged_more (a ∷ []) size paged full some few = let h : 0 < a = paged.0 in let l : a ≤ 4096 = paged.1 in let f : (a + 0) % 4096 ≡ 0 = full in (omega arith, (some, few))
paged_more (a ∷ b ∷ sizes) size paged full some few =
    let h : a ≡ 4096 = paged.0 in
    let f : (a + total (b ∷ sizes)) % 4096 ≡ 0 = full in
    (h, paged_more (b ∷ sizes) size paged.1 (omega arith) some few)

pub same_length : {S A B : Type 0} (f : S → List A) (g : S → List B) (ss : List S) → All (λ s. length (f s) ≡ length (g s)) ss
    → length (flat_map f ss) ≡ length (flat_map g ss)
same_length f g [] same = refl
same_length f g (s ∷ ss) same = length-append (f s) (flat_map f ss)
    ∙ (λ i. All-head (λ s. length (f s) ≡ length (g s)) s ss same i + same_length f g ss (All-tail (λ s. length (f s) ≡ length (g s)) s ss same) i)
    ∙ sym (length-append (g s) (flat_map g ss))

-- of two lists in a row, the second changes
pub set_after : {A : Type 0} (xs ys : List A) (n : ℕ) (a : A) → set (xs ++ ys) (length xs + n) a ≡ xs ++ set ys n a
set_after [] ys n a = ap (λ k. set ys k a) (zero-add n)
set_after {A} (x ∷ xs) ys n a = ap (λ k. set (x ∷ xs ++ ys) k a) (suc-add (length xs) n) ∙ ap (λ (l : List A). x ∷ l) (set_after xs ys n a)

module _ {S A : Type 0} (f : S → List A) (d : S) where
  abbrev Paged : List S → Type 0
  Paged ss = IsPaged (map (λ s. length (f s)) ss)

  -- element n of all is element m of list k
  pub stands : (ss : List S) (k m : ℕ) → Paged ss → m < 4096 → k * 4096 + m < length (flat_map f ss) → (k < length ss) × (m < length (f (get_or ss k d)))
  stands [] k m paged small h = absurd (omega arith)
  stands (s ∷ []) zero m paged small h = let e : length (f s ++ []) ≡ length (f s) = ap length (append-nil (f s)) in (omega arith, omega arith)
  stands (s ∷ []) (suc k) m paged small h = let e : length (f s ++ []) ≡ length (f s) = ap length (append-nil (f s)) in let p : length (f s) ≤ 4096 = paged.1 in absurd (omega arith)
  stands (s ∷ t ∷ ss) zero m paged small h = let p : length (f s) ≡ 4096 = paged.0 in (omega arith, omega arith)
  stands (s ∷ t ∷ ss) (suc k) m paged small h =
      let p : length (f s) ≡ 4096 = paged.0 in
      let e : length (f s ++ flat_map f (t ∷ ss)) ≡ length (f s) + length (flat_map f (t ∷ ss)) = length-append (f s) (flat_map f (t ∷ ss)) in
      let rest = stands (t ∷ ss) k m paged.1 small (omega arith) in
      (omega arith, rest.1)

  first_number : (m : ℕ) → 0 * 4096 + m ≡ m
  first_number m = omega arith

  next_number : (x k m : ℕ) → x ≡ 4096 → suc k * 4096 + m ≡ x + (k * 4096 + m)
  next_number x k m e = omega arith

  pub found : (ss : List S) (k m : ℕ) (a : A) → Paged ss → k < length ss → m < length (f (get_or ss k d)) → get_or (flat_map f ss) (k * 4096 + m) a ≡ get_or (f (get_or ss k d)) m a
  found [] k m a paged h l = absurd (omega arith)
  found (s ∷ ss) zero m a paged h l = ap (λ i. get_or (f s ++ flat_map f ss) i a) (first_number m) ∙ get_or-append (f s) (flat_map f ss) a m l
  found (s ∷ []) (suc k) m a paged h l = absurd (omega arith)
  found (s ∷ t ∷ ss) (suc k) m a paged h l = ap (λ i. get_or (f s ++ flat_map f (t ∷ ss)) i a) (next_number (length (f s)) k m paged.0)
      ∙ get_or-append-add (f s) (flat_map f (t ∷ ss)) (k * 4096 + m) a ∙ found (t ∷ ss) k m a paged.1 (omega arith) l

  -- list k changes at m
  pub set_in : (ss : List S) (k m : ℕ) (q : S) (a : A) → Paged ss → k < length ss → m < length (f (get_or ss k d)) → f q ≡ set (f (get_or ss k d)) m a
      → flat_map f (set ss k q) ≡ set (flat_map f ss) (k * 4096 + m) a
  set_in [] k m q a paged h l e = absurd (omega arith)
  set_in (s ∷ ss) zero m q a paged h l e = ap (λ (xs : List A). xs ++ flat_map f ss) e ∙ sym (set-append_left (f s) (flat_map f ss) m a l)
      ∙ ap (λ i. set (f s ++ flat_map f ss) i a) (sym (first_number m))
  set_in (s ∷ []) (suc k) m q a paged h l e = absurd (omega arith)
  set_in (s ∷ t ∷ ss) (suc k) m q a paged h l e =
      ap (λ (xs : List A). f s ++ xs) (set_in (t ∷ ss) k m q a paged.1 (omega arith) l e)
      ∙ sym (set_after (f s) (flat_map f (t ∷ ss)) (k * 4096 + m) a)
      ∙ ap (λ i. set (f s ++ flat_map f (t ∷ ss)) i a) (sym (next_number (length (f s)) k m paged.0))

  -- list k becomes the same
  pub set_same : (ss : List S) (k : ℕ) (q : S) → f q ≡ f (get_or ss k d) → flat_map f (set ss k q) ≡ flat_map f ss
  set_same [] k q e = refl
  set_same (s ∷ ss) zero q e = ap (λ (xs : List A). xs ++ flat_map f ss) e
  set_same (s ∷ ss) (suc k) q e = ap (λ (xs : List A). f s ++ xs) (set_same ss k q e)

-- an element of all stands in a list of its own
pub stands_within : {S A : Type 0} (f : S → List A) (ss : List S) (k m : ℕ) → IsPaged (map (λ s. length (f s)) ss) → m < 4096
    → k * 4096 + m < length (flat_map f ss) → k < length ss
stands_within f [] k m paged small h = absurd (omega arith)
stands_within f (s ∷ ss) k m paged small h = (stands f s (s ∷ ss) k m paged small h).0

-- pages, each of a table with this id, whose ids stand once for each record
module _ {S : Type 0} (id : S → TableId) (n : ℕ) (ss : List S) (paged : IsPaged (map (λ s. size_of n (id s)) ss)) where
  pub ids_paged : IsPaged (map (λ s. length (ids_of n (id s))) ss)
  ids_paged = paged_as (λ (s : S). size_of n (id s)) (λ s. length (ids_of n (id s))) ss
      (λ k d _. length-replicate (size_of n (id (get_or ss k d))) (id (get_or ss k d))) paged

  module _ (number : ℕ) (within : number < length (flat_map (λ s. ids_of n (id s)) ss)) where
    same_number : number / 4096 * 4096 + number % 4096 < length (flat_map (λ s. ids_of n (id s)) ss)
    same_number = subst (λ i. i < length (flat_map (λ (s : S). ids_of n (id s)) ss)) (sym (div-add-mod' number 4096)) within

    pub has_page : number / 4096 < length ss
    has_page = stands_within (λ (s : S). ids_of n (id s)) ss (number / 4096) (number % 4096) ids_paged (omega arith) same_number

    module _ (p : S) (is : p ≡ get_or ss (number / 4096) p) where
      there : number % 4096 < length (ids_of n (id (get_or ss (number / 4096) p)))
      there = (stands (λ (s : S). ids_of n (id s)) p ss (number / 4096) (number % 4096) ids_paged (omega arith) same_number).1

      pub page_stands : number % 4096 < length (ids_of n (id p))
      page_stands = subst (λ (s : S). number % 4096 < length (ids_of n (id s))) (sym is) there

      pub page_is : slice_get (flat_map (λ s. ids_of n (id s)) ss) number ≡ Some (id p)
      page_is = slice_get-get_or (flat_map (λ (s : S). ids_of n (id s)) ss) number (id p) within
          ∙ ap Some
          (ap (λ i. get_or (flat_map (λ (s : S). ids_of n (id s)) ss) i (id p)) (sym (div-add-mod' number 4096))
          ∙ found (λ (s : S). ids_of n (id s)) p ss (number / 4096) (number % 4096) (id p) ids_paged has_page there
          ∙ ap (λ (s : S). get_or (ids_of n (id s)) (number % 4096) (id p)) (sym is)
          ∙ get_or-replicate (size_of n (id p)) (number % 4096) (id p) (id p)
          (subst (λ k. number % 4096 < k) (length-replicate (size_of n (id p)) (id p)) page_stands))

-- another page
ids_sum : {S : Type 0} (id : S → TableId) (n : ℕ) (ss : List S) → length (flat_map (λ s. ids_of n (id s)) ss) ≡ total (map (λ s. size_of n (id s)) ss)
ids_sum id n [] = refl
ids_sum id n (s ∷ ss) = length-append (ids_of n (id s)) (flat_map (λ t. ids_of n (id t)) ss)
    ∙ (λ i. length-replicate (size_of n (id s)) (id s) i + ids_sum id n ss i)

pub pages_push : {S : Type 0} (id : S → TableId) (n : ℕ) (ss : List S) (s : S) → IsPaged (map (λ t. size_of n (id t)) ss)
    → length (flat_map (λ t. ids_of n (id t)) ss) % 4096 ≡ 0 → (0 < size_of n (id s)) × (size_of n (id s) ≤ 4096)
    → IsPaged (map (λ t. size_of n (id t)) (ss ++ s ∷ []))
pages_push id n ss s paged full next = subst IsPaged (sym (map-append (λ t. size_of n (id t)) ss (s ∷ [])))
    (paged_more (map (λ t. size_of n (id t)) ss) (size_of n (id s)) paged (ap (λ k. k % 4096) (sym (ids_sum id n ss)) ∙ full) next.0 next.1)

pub flat_push : {S A : Type 0} (f : S → List A) (ss : List S) (s : S) → flat_map f (ss ++ s ∷ []) ≡ flat_map f ss ++ f s
flat_push f ss s = flat_map-append f ss (s ∷ []) ∙ ap (λ l. flat_map f ss ++ l) (append-nil (f s))
