-- Cells are made of a page's first versions, and then of those of the next pages: narrow ones or wide ones.
use Rattle.std.proofs.Common.{◌≡◌, ℕ, ◌+◌, ◌<◌, ◌≤◌, List, [], ◌∷◌, ◌++◌, map, length, sym, ap, ◌∙◌, subst, arith, length-append, append_assoc}
use Rattle.std.specs.List.{flat_map}
use Rattle.std.proofs.lemmas.List.{map-append, length-map}
use Rattle.atomic_table.specs.Seated.{TableId}
use Rattle.cells_pages.specs.Versions.{AllVersions}
use Rattle.cells_holders.specs.Records.{PagesPen}
use Rattle.cells_holders.specs.Pages.{IsPaged}
use Rattle.cells_holders.specs.Opening.{AreFull}

-- pages of these versions, of which each has these words
module _ {S A : Type 0} (versions : S → List A) (words : A → List ℕ) where
  abbrev sizes : List S → List ℕ
  sizes pages = map (λ page. length (versions page)) pages

  abbrev joined : List S → List A
  joined pages = flat_map versions pages

  abbrev only : List A → AllVersions
  only list = map (λ v. words v ∷ []) list

  first_paged : (page : S) (rest : List S) → IsPaged (sizes (page ∷ rest)) → (0 < length (versions page)) × (length (versions page) ≤ 4096)
  first_paged page [] h = h
  first_paged page (next ∷ rest) h = (omega (arith, h.0), omega (arith, h.0))

  rest_paged : (page : S) (rest : List S) → IsPaged (sizes (page ∷ rest)) → IsPaged (sizes rest)
  rest_paged page [] h = tt
  rest_paged page (next ∷ rest) h = h.1

  first_full : (page : S) (rest : List S) → IsPaged (sizes (page ∷ rest)) → 0 < length rest → length (versions page) ≡ 4096
  first_full page [] h some = absurd (omega (arith, some))
  first_full page (next ∷ rest) h some = h.0

  module _ (page : S) (rest left : List S) (is : left ≡ page ∷ rest) (paged : IsPaged (sizes left)) where
    this : IsPaged (sizes (page ∷ rest))
    this = subst (λ (l : List S). IsPaged (sizes l)) is paged

    pub some_left : 0 < length left
    some_left = omega (arith, ap length is)

    pub page_paged : (0 < length (versions page)) × (length (versions page) ≤ 4096)
    page_paged = first_paged page rest this

    pub paged_on : IsPaged (sizes rest)
    paged_on = rest_paged page rest this

    module _ (w : PagesPen) (cells : List TableId) (count : length cells ≡ length (only (versions page))) where
      cells_count : length (w.cells ++ cells) ≡ length w.cells + length (versions page)
      cells_count = length-append w.cells cells ∙ ap (λ n. length w.cells + n) (count ∙ length-map (versions page) _)

      pub cells_on : (first : List A) → length w.cells + length (joined left) ≡ length first → length (w.cells ++ cells) + length (joined rest) ≡ length first
      cells_on first e =
          let all : length (joined left) ≡ length (versions page) + length (joined rest) = ap (λ (l : List S). length (joined l)) is ∙ length-append (versions page) (joined rest) in
          omega (arith, cells_count, all, e)

      pub versions_on : (first : List A) → w.all ++ only (joined left) ≡ only first → (w.all ++ only (versions page)) ++ only (joined rest) ≡ only first
      versions_on first e = append_assoc w.all (only (versions page)) (only (joined rest))
          ∙ ap (λ l. w.all ++ l) (sym (map-append _ (versions page) (joined rest)) ∙ ap (λ (l : List S). only (joined l)) (sym is))
          ∙ e

      pub full_on : AreFull w.cells → 0 < length rest → AreFull (w.cells ++ cells)
      full_on full some = let whole_page = first_full page rest this some in omega (arith, cells_count, whole_page, full)
