-- The rule at the start: each record has one version, whose words stand there.
use Rattle.std.proofs.Common.{◌≡◌, ℕ, false, zero, suc, ◌+◌, ◌-◌, ◌*◌, ◌/◌, ◌<◌, ◌≤◌, List, [], ◌∷◌, length, take, drop, ◌++◌, le_of_eq, refl, sym, ap, ◌∙◌, subst, arith, suc-mul, mul-le-mul_right, length-take-le, length-drop}
use mathlib.Core.Option.{some, some-ne-none, some-injective}
use lib.ListN.{get_elem?}
use Rattle.std.specs.Prelude.{slice_index}
use Rattle.std.proofs.Math.Nat.{mul-div_cancel, zero-mul}
use Rattle.std.proofs.lemmas.List.{drop-drop, get_or-take, get_or-drop, take_all, take-append-le, drop-append-le}
use Rattle.atomic_table.specs.Table.{opening}
use Rattle.cells_pages.specs.declared.rule.View.{View}
use Rattle.cells_pages.specs.Versions.{AreVersions, newest}
use Rattle.cells_pages.specs.Versions.{at}
use Rattle.cells_pages.specs.Views.{pen_view}
use Rattle.cells_pages.specs.Rule.{Content, HasWords, IsContent, Fits, KeepsPage, versions_from, first_versions}
use Rattle.cells_pages.proofs.Fitting.{off, fits_pen}

next_start : (x m y : ℕ) → y ≡ x + m → m + x ≡ y
next_start x m y e = omega arith

room : (x y z n w : ℕ) → z ≡ x + n → z ≤ y → w ≡ y → n ≤ w - x
room x y z n w e h f = omega arith

-- a page where no version is being stored
abbrev unwritten : List (List (List ℕ)) → Content
unwritten all = record { all = all; busy = false; place = 0; next = [] }

module _ (n : ℕ) where
  length_cut : (count : ℕ) (words : List ℕ) → length (versions_from n count words) ≡ count
  length_cut zero words = refl
  length_cut (suc count) words = ap suc (length_cut count (drop n words))

  at_cut : (count q : ℕ) (words : List ℕ) → q < count → at (versions_from n count words) q ≡ take n (drop (q * n) words) ∷ []
  at_cut zero q words h = absurd (omega arith)
  at_cut (suc count) zero words h = ap (λ k. take n (drop k words) ∷ []) (sym (zero-mul n))
  at_cut (suc count) (suc q) words h = at_cut count q (drop n words) (omega arith)
      ∙ ap (λ (ws : List ℕ). take n ws ∷ []) (drop-drop (q * n) n words ∙ ap (λ k. drop k words) (next_start (q * n) n (suc q * n) (suc-mul q n)))

  module _ (words : List ℕ) (count : ℕ) (whole : length words ≡ count * n) where
    cut_sound : (q : ℕ) → q < count → AreVersions n (at (versions_from n count words) q)
    cut_sound q h = subst (AreVersions n) (sym (at_cut count q words h))
        (record {
          rising = (omega arith, tt);
          wide = length-take-le n (drop (q * n) words)
              (subst (λ k. n ≤ k) (sym (length-drop (q * n) words)) (room (q * n) (count * n) (suc q * n) n (length words) (suc-mul q n) (mul-le-mul_right n h) whole));
        })

    cut_rests : (q : ℕ) → q < count → HasWords n words q (newest (at (versions_from n count words) q))
    cut_rests q h i l = sym (get_or-drop (q * n) words i 0) ∙ sym (get_or-take n (drop (q * n) words) i 0 l)
        ∙ ap (λ (vs : List (List ℕ)). slice_index (newest vs) i) (sym (at_cut count q words h))

    cut_stands : IsContent n words (unwritten (versions_from n count words))
    cut_stands = record {
      wide = whole ∙ ap (λ k. k * n) (sym (length_cut count words));
      sound = λ q h. cut_sound q (subst (λ k. q < k) (length_cut count words) h);
      rests = λ q h _. cut_rests q (subst (λ k. q < k) (length_cut count words) h);
      opens = λ busy. off busy;
    }

    one_fits : (by : ℕ) (v : View) → get_elem? (pen_view (versions_from n count words) ∷ []) by ≡ some v
        → Fits n 0 (unwritten (versions_from n count words)) by v
    one_fits zero v e = subst (Fits n 0 (unwritten (versions_from n count words)) 0) (some-injective _ _ e)
        (fits_pen n 0 (unwritten (versions_from n count words)) 0 refl refl)
    one_fits (suc by) v e = absurd (some-ne-none v (sym e))

    cut_kept : KeepsPage n (opening words [] (pen_view (versions_from n count words)))
    cut_kept = record {
      seat = 0;
      content = unwritten (versions_from n count words);
      words = cut_stands;
      fits = one_fits;
    }

pub begins_kept : (n count : ℕ) (words : List ℕ) → 0 < n → length words ≡ count * n → KeepsPage n (opening words [] (pen_view (first_versions n words)))
begins_kept n count words some_word whole = subst (λ k. KeepsPage n (opening words [] (pen_view (versions_from n k words))))
    (sym (ap (λ k. k / n) whole ∙ mul-div_cancel count some_word)) (cut_kept n words count whole)

pub length_first : (n count : ℕ) (words : List ℕ) → 0 < n → length words ≡ count * n → length (first_versions n words) ≡ count
length_first n count words some_word whole = length_cut n (length words / n) words ∙ ap (λ k. k / n) whole ∙ mul-div_cancel count some_word

-- a version more
pub cut_push : (n count : ℕ) (words more : List ℕ) → length words ≡ count * n → length more ≡ n → versions_from n (suc count) (words ++ more) ≡ versions_from n count words ++ (more ∷ []) ∷ []
cut_push n zero [] more whole wide = ap (λ (ws : List ℕ). (ws ∷ []) ∷ []) (take_all n more (le_of_eq wide))
cut_push n zero (w ∷ words) more whole wide = absurd (nothing (length words) (zero * n) whole (zero-mul n))
  where
    nothing : (k m : ℕ) → suc k ≡ m → m ≡ 0 → ⊥
    nothing k m e z = omega arith
cut_push n (suc count) words more whole wide =
    let enough : n ≤ length words = room_first (count * n) n (suc count * n) (length words) (suc-mul count n) whole in
    (λ i. (take-append-le n words more enough i ∷ []) ∷ versions_from n (suc count) (drop-append-le n words more enough i))
    ∙ ap (λ (vss : List (List (List ℕ))). (take n words ∷ []) ∷ vss)
    (cut_push n count (drop n words) more (length-drop n words ∙ rest (count * n) n (suc count * n) (length words) (suc-mul count n) whole) wide)
  where
    room_first : (x m y w : ℕ) → y ≡ x + m → w ≡ y → m ≤ w
    room_first x m y w e f = omega arith

    rest : (x m y w : ℕ) → y ≡ x + m → w ≡ y → w - m ≡ x
    rest x m y w e f = omega arith

-- what words that are some whole versions come to
pub first_versions_of : (n count : ℕ) (words : List ℕ) → 0 < n → length words ≡ count * n → first_versions n words ≡ versions_from n count words
first_versions_of n count words right_size whole = ap (λ k. versions_from n k words) (ap (λ k. k / n) whole ∙ mul-div_cancel count right_size)
