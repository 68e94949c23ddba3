-- Two lists in a row, of which one changes at a place; and what the pen and a reader of all records know, where they
-- step at a narrow record, and at a wide one.
use Rattle.std.proofs.Common.{◌≡◌, ℕ, ◌+◌, ◌<◌, List, [], ◌∷◌, ◌++◌, length, get_or, set, sym, ap, ◌∙◌, subst, length-set}
use Rattle.std.specs.Prelude.{slice_index}
use Rattle.std.proofs.Math.ListN.{get_or-append}
use Rattle.std.proofs.lemmas.List.{get_or-append-add, set-append_left, map-append}
use Rattle.cells_holders.proofs.Paged.{set_after}
use Rattle.cells_pages.specs.Versions.{StartsWith, EndsWith, IsRising}
use Rattle.cells_holders.specs.Records.{PagesPen, PagesReader}
use Rattle.cells.specs.Records.{PenView, ReaderView, at, both_pens, both_readers, seen_all, StoresVersion, LoadsRecord, LearnsRecord}

module _ {A : Type 0} (d : A) where
  -- the first list changes
  module _ (xs new ys : List A) (n : ℕ) (within : n < length xs) (e : new ≡ set xs n (get_or new n d)) where
    first_long : n < length new
    first_long = subst (λ k. n < k) (sym (ap length e ∙ length-set xs n (get_or new n d))) within

    pub first_at : get_or (new ++ ys) n d ≡ get_or new n d
    first_at = get_or-append new ys d n first_long

    pub first_others : new ++ ys ≡ set (xs ++ ys) n (get_or (new ++ ys) n d)
    first_others = ap (λ (l : List A). l ++ ys) e ∙ sym (set-append_left xs ys n (get_or new n d) within)
        ∙ ap (set (xs ++ ys) n) (sym first_at)

  -- the second changes
  pub second_others : (xs ys new : List A) (n : ℕ) → new ≡ set ys n (get_or new n d)
      → xs ++ new ≡ set (xs ++ ys) (length xs + n) (get_or (xs ++ new) (length xs + n) d)
  second_others xs ys new n e = ap (λ (l : List A). xs ++ l) e ∙ sym (set_after xs ys n (get_or new n d))
      ∙ ap (set (xs ++ ys) (length xs + n)) (sym (get_or-append-add xs new n d))

-- the step of one at its record m is a step of all at record n
module _ (n m : ℕ) where
  module _ (p q : PenView) (old new : PagesPen) (is_old : at p.all n ≡ at old.all m) (is_new : at q.all n ≡ at new.all m) where
    stores_as : q.cells ≡ p.cells → q.all ≡ set p.all n (at q.all n) → (version : List ℕ) → StoresVersion old new m version
        → StoresVersion p q n version
    stores_as cells others version s = record {
      cells = cells;
      others = others;
      last = is_new ∙ s.last ∙ ap (λ (vs : List (List ℕ)). vs ++ version ∷ []) (sym is_old);
    }

  module _ (r s : ReaderView) (old new : PagesReader) (cells : s.cells ≡ r.cells) (others : s.seen ≡ set r.seen n (at s.seen n))
      (is_old : at r.seen n ≡ at old.seen m) (is_new : at s.seen n ≡ at new.seen m) where
    loads_as : s.loads ≡ set r.loads n (slice_index s.loads n) → slice_index r.loads n ≡ slice_index old.loads m
        → slice_index s.loads n ≡ slice_index new.loads m → (version : List ℕ) → LoadsRecord old new m version → LoadsRecord r s n version
    loads_as other_loads count_old count_new version l = record {
      cells = cells;
      others = others;
      other_loads = other_loads;
      loads = count_new ∙ l.loads ∙ ap (λ k. k + 1) (sym count_old);
      grows = subst (λ (x : List (List ℕ) × List (List ℕ)). StartsWith x.0 x.1) (λ i. (sym is_new i, sym is_old i)) l.grows;
      rising = subst IsRising (sym is_new) l.rising;
      last = subst (λ (vs : List (List ℕ)). EndsWith vs version) (sym is_new) l.last;
    }

    learns_as : (w : PenView) (pen : PagesPen) → at w.all n ≡ at pen.all m → s.loads ≡ r.loads → LearnsRecord pen old new m → LearnsRecord w r s n
    learns_as w pen is_pen loads l = record {
      cells = cells;
      others = others;
      loads = loads;
      learnt = is_new ∙ l.learnt ∙ sym is_pen;
      grows = subst (λ (x : List (List ℕ) × List (List ℕ)). StartsWith x.0 x.1) (λ i. (sym is_pen i, sym is_old i)) l.grows;
      rising = subst IsRising (sym is_pen) l.rising;
    }

-- the pen
module _ (narrow wide : PagesPen) (count : length narrow.all ≡ length narrow.cells) where
  pub narrow_versions : (n : ℕ) → n < length narrow.cells → at (narrow.all ++ wide.all) n ≡ at narrow.all n
  narrow_versions n within = get_or-append narrow.all wide.all [] n (subst (λ k. n < k) (sym count) within)

  pub wide_versions : (n : ℕ) → at (narrow.all ++ wide.all) (length narrow.cells + n) ≡ at wide.all n
  wide_versions n = ap (λ k. at (narrow.all ++ wide.all) (k + n)) (sym count) ∙ get_or-append-add narrow.all wide.all n []

  pub stores_narrow : (new : PagesPen) (n : ℕ) (version : List ℕ) → n < length narrow.cells → StoresVersion narrow new n version
      → StoresVersion (both_pens narrow wide) (both_pens new wide) n version
  stores_narrow new n version within s =
      let long : n < length narrow.all = subst (λ k. n < k) (sym count) within in
      stores_as n n (both_pens narrow wide) (both_pens new wide) narrow new (narrow_versions n within)
      (first_at [] narrow.all new.all wide.all n long s.others)
      (λ i. record { narrow = s.cells i; wide = wide.cells })
      (first_others [] narrow.all new.all wide.all n long s.others) version s

  pub stores_wide : (new : PagesPen) (n : ℕ) (version : List ℕ) → StoresVersion wide new n version
      → StoresVersion (both_pens narrow wide) (both_pens narrow new) (length narrow.cells + n) version
  stores_wide new n version s =
      subst (λ k. StoresVersion (both_pens narrow wide) (both_pens narrow new) (k + n) version) count
      (stores_as (length narrow.all + n) n (both_pens narrow wide) (both_pens narrow new) wide new
      (get_or-append-add narrow.all wide.all n []) (get_or-append-add narrow.all new.all n [])
      (λ i. record { narrow = narrow.cells; wide = s.cells i })
      (second_others [] narrow.all wide.all new.all n s.others) version s)

-- a reader
module _ (narrow wide : PagesReader) (count : length narrow.seen ≡ length narrow.cells) (loads_count : length narrow.loads ≡ length narrow.cells) where
  pub loads_narrow : (new : PagesReader) (n : ℕ) (version : List ℕ) → n < length narrow.cells → LoadsRecord narrow new n version
      → LoadsRecord (both_readers narrow wide) (both_readers new wide) n version
  loads_narrow new n version within l =
      let long : n < length narrow.seen = subst (λ k. n < k) (sym count) within in
      let long_loads : n < length narrow.loads = subst (λ k. n < k) (sym loads_count) within in
      loads_as n n (both_readers narrow wide) (both_readers new wide) narrow new
      (λ i. record { narrow = l.cells i; wide = wide.cells })
      (first_others [] narrow.seen new.seen wide.seen n long l.others)
      (get_or-append narrow.seen wide.seen [] n long)
      (first_at [] narrow.seen new.seen wide.seen n long l.others)
      (first_others 0 narrow.loads new.loads wide.loads n long_loads l.other_loads)
      (get_or-append narrow.loads wide.loads 0 n long_loads)
      (first_at 0 narrow.loads new.loads wide.loads n long_loads l.other_loads)
      version l

  pub loads_wide : (new : PagesReader) (n : ℕ) (version : List ℕ) → LoadsRecord wide new n version
      → LoadsRecord (both_readers narrow wide) (both_readers narrow new) (length narrow.cells + n) version
  loads_wide new n version l =
      let others = second_others [] narrow.seen wide.seen new.seen n l.others in
      subst (λ k. LoadsRecord (both_readers narrow wide) (both_readers narrow new) (k + n) version) count
      (loads_as (length narrow.seen + n) n (both_readers narrow wide) (both_readers narrow new) wide new
      (λ i. record { narrow = narrow.cells; wide = l.cells i })
      others
      (get_or-append-add narrow.seen wide.seen n [])
      (get_or-append-add narrow.seen new.seen n [])
      (subst (λ k. narrow.loads ++ new.loads ≡ set (narrow.loads ++ wide.loads) (k + n) (slice_index (narrow.loads ++ new.loads) (k + n)))
      (loads_count ∙ sym count) (second_others 0 narrow.loads wide.loads new.loads n l.other_loads))
      (subst (λ k. slice_index (narrow.loads ++ wide.loads) (k + n) ≡ slice_index wide.loads n) (loads_count ∙ sym count)
      (get_or-append-add narrow.loads wide.loads n 0))
      (subst (λ k. slice_index (narrow.loads ++ new.loads) (k + n) ≡ slice_index new.loads n) (loads_count ∙ sym count)
      (get_or-append-add narrow.loads new.loads n 0))
      version l)

  module _ (pen other : PagesPen) (pen_count : length pen.all ≡ length pen.cells) (same : length narrow.cells ≡ length pen.cells) where
    pub learns_narrow : (new : PagesReader) (n : ℕ) → n < length pen.cells → LearnsRecord pen narrow new n
        → LearnsRecord (both_pens pen other) (both_readers narrow wide) (both_readers new wide) n
    learns_narrow new n within l =
        let long : n < length narrow.seen = subst (λ k. n < k) (sym (count ∙ same)) within in
        learns_as n n (both_readers narrow wide) (both_readers new wide) narrow new
        (λ i. record { narrow = l.cells i; wide = wide.cells })
        (first_others [] narrow.seen new.seen wide.seen n long l.others)
        (get_or-append narrow.seen wide.seen [] n long)
        (first_at [] narrow.seen new.seen wide.seen n long l.others)
        (both_pens pen other) pen (narrow_versions pen other pen_count n within)
        (ap (λ (ls : List ℕ). ls ++ wide.loads) l.loads) l

    pub learns_wide : (new : PagesReader) (n : ℕ) → LearnsRecord other wide new n
        → LearnsRecord (both_pens pen other) (both_readers narrow wide) (both_readers narrow new) (length pen.cells + n)
    learns_wide new n l =
        subst (λ k. LearnsRecord (both_pens pen other) (both_readers narrow wide) (both_readers narrow new) (k + n)) (count ∙ same)
        (learns_as (length narrow.seen + n) n (both_readers narrow wide) (both_readers narrow new) wide new
        (λ i. record { narrow = narrow.cells; wide = l.cells i })
        (second_others [] narrow.seen wide.seen new.seen n l.others)
        (get_or-append-add narrow.seen wide.seen n [])
        (get_or-append-add narrow.seen new.seen n [])
        (both_pens pen other) other
        (subst (λ k. at (pen.all ++ other.all) (k + n) ≡ at other.all n) (sym (count ∙ same)) (wide_versions pen other pen_count n))
        (ap (λ (ls : List ℕ). narrow.loads ++ ls) l.loads) l)

-- who has seen all that the pens of both know
pub both_seen_all : (narrow wide : PagesPen) → both_readers (seen_all narrow) (seen_all wide) ≡ seen_all (both_pens narrow wide)
both_seen_all narrow wide = λ i. record {
  cells = record { narrow = narrow.cells; wide = wide.cells };
  seen = narrow.all ++ wide.all;
  loads = sym (map-append (λ (_ : List (List ℕ)). 0) narrow.all wide.all) i;
}
