-- The first versions of records, page by page.
use Rattle.std.proofs.Common.{◌≡◌, ℕ, zero, suc, ◌+◌, ◌*◌, ◌/◌, ◌%◌, ◌<◌, List, [], ◌∷◌, ◌++◌, map, length, get_or, set, replicate, refl, sym, ap, ◌∙◌, subst, arith, length-append, div-add-mod'}
use Rattle.std.specs.List.{flat_map}
use Rattle.std.proofs.Math.Seq.{map-set_same}
use Rattle.std.proofs.lemmas.List.{length-replicate, replicate-append-replicate, map-append}
use Rattle.cells.specs.declared.cells.Newest.{Newest}
use Rattle.cells.specs.First.{absent_version}
use Rattle.cells_holders.specs.Pages.{IsPaged}
use Rattle.cells_holders.proofs.Paged.{total, paged_more, stands, stands_within, found, set_in, flat_push}

abbrev pub joined : List (List Newest) → List Newest
joined pages = flat_map (λ page. page) pages

joined_count : (pages : List (List Newest)) → length (joined pages) ≡ total (map length pages)
joined_count [] = refl
joined_count (page ∷ pages) = length-append page (joined pages) ∙ ap (λ n. length page + n) (joined_count pages)

-- the page of a record
module _ (pages : List (List Newest)) (paged : IsPaged (map length pages)) (number : ℕ) (within : number < length (joined pages)) where
  same_number : number / 4096 * 4096 + number % 4096 < length (joined pages)
  same_number = subst (λ i. i < length (joined pages)) (sym (div-add-mod' number 4096)) within

  pub page_within : number / 4096 < length pages
  page_within = stands_within (λ (page : List Newest). page) pages (number / 4096) (number % 4096) paged (omega arith) same_number

  module _ (page : List Newest) (is : page ≡ get_or pages (number / 4096) page) where
    there : number % 4096 < length (get_or pages (number / 4096) page)
    there = (stands (λ (p : List Newest). p) page pages (number / 4096) (number % 4096) paged (omega arith) same_number).1

    pub place_within : number % 4096 < length page
    place_within = subst (λ (p : List Newest). number % 4096 < length p) (sym is) there

    pub version_is : (version : Newest) → version ≡ get_or page (number % 4096) version → version ≡ get_or (joined pages) number version
    version_is version e = e
        ∙ ap (λ (p : List Newest). get_or p (number % 4096) version) is
        ∙ sym (found (λ (p : List Newest). p) page pages (number / 4096) (number % 4096) version paged page_within there)
        ∙ ap (λ i. get_or (joined pages) i version) (div-add-mod' number 4096)

    module _ (next : List Newest) (count : length next ≡ length page) where
      sizes_same : map length (set pages (number / 4096) next) ≡ map length pages
      sizes_same = map-set_same (λ (p : List Newest). length p) pages (number / 4096) next page (count ∙ ap (λ (p : List Newest). length p) is)

      pub paged_after : IsPaged (map length (set pages (number / 4096) next))
      paged_after = subst IsPaged (sym sizes_same) paged

      pub count_after : length (joined (set pages (number / 4096) next)) ≡ length (joined pages)
      count_after = joined_count (set pages (number / 4096) next) ∙ ap total sizes_same ∙ sym (joined_count pages)

    pub versions_set : (next : List Newest) (version : Newest) → next ≡ set page (number % 4096) version
        → joined (set pages (number / 4096) next) ≡ set (joined pages) number version
    versions_set next version e = set_in (λ (p : List Newest). p) page pages (number / 4096) (number % 4096) next version paged page_within there
        (e ∙ ap (λ (p : List Newest). set p (number % 4096) version) is)
        ∙ ap (λ i. set (joined pages) i version) (div-add-mod' number 4096)

-- whole pages of absent records, and a last one
abbrev pub whole : ℕ → List (List Newest)
whole k = replicate k (replicate 4096 absent_version)

abbrev sizes : List (List Newest) → List ℕ
sizes pages = map length pages

pub whole_joined : (k : ℕ) → joined (whole k) ≡ replicate (k * 4096) absent_version
whole_joined zero = refl
whole_joined (suc k) = ap (λ (l : List Newest). replicate 4096 absent_version ++ l) (whole_joined k)
    ∙ replicate-append-replicate 4096 (k * 4096) absent_version ∙ ap (λ n. replicate n absent_version) (omega arith)

pub whole_paged : (k : ℕ) → IsPaged (sizes (whole k))
whole_paged zero = tt
whole_paged (suc zero) = (omega (arith, length-replicate 4096 absent_version), omega (arith, length-replicate 4096 absent_version))
whole_paged (suc (suc k)) = (length-replicate 4096 absent_version, whole_paged (suc k))

-- the pages of so many absent records
pub record AreAbsent (count : ℕ) (pages : List (List Newest)) : Type 0 where
  pub paged : IsPaged (map length pages)
  pub absent : joined pages ≡ replicate count absent_version

pub absent_whole : (count k : ℕ) → count ≡ k * 4096 → AreAbsent count (whole k)
absent_whole count k e = record { paged = whole_paged k; absent = whole_joined k ∙ ap (λ n. replicate n absent_version) (sym e) }

pub absent_and : (count k rest : ℕ) → count ≡ k * 4096 + rest → 0 < rest → rest < 4096 → AreAbsent count (whole k ++ replicate rest absent_version ∷ [])
absent_and count k rest e some few =
    let last = replicate rest absent_version in
    let size : length last ≡ rest = length-replicate rest absent_version in
    let full : total (map length (whole k)) ≡ k * 4096 = sym (joined_count (whole k)) ∙ ap length (whole_joined k) ∙ length-replicate (k * 4096) absent_version in
    record {
      paged = subst IsPaged (sym (map-append (λ (p : List Newest). length p) (whole k) (last ∷ [])))
          (paged_more (map length (whole k)) (length last) (whole_paged k) (omega (arith, full)) (omega (arith, size, some)) (omega (arith, size, few)));
      absent = flat_push (λ (p : List Newest). p) (whole k) last
          ∙ ap (λ (l : List Newest). l ++ last) (whole_joined k)
          ∙ replicate-append-replicate (k * 4096) rest absent_version
          ∙ ap (λ n. replicate n absent_version) (sym e);
    }
