-- The first versions of wide records, with one more behind them.
use Rattle.std.proofs.Common.{◌≡◌, ℕ, zero, suc, ◌+◌, ◌*◌, ◌/◌, ◌%◌, ◌<◌, ◌≤◌, List, [], ◌∷◌, ◌++◌, map, length, get_or, set, refl, sym, ap, ◌∙◌, subst, arith, length-append, append_assoc, append-nil, div-add-mod'}
use Rattle.std.specs.List.{flat_map}
use Rattle.std.proofs.Math.Seq.{map-set_same}
use Rattle.std.proofs.lemmas.List.{map-append}
use Rattle.cells_holders.specs.Pages.{IsPaged}
use Rattle.cells_holders.proofs.Paged.{total, paged_more, flat_push, set_same}

module _ {S A : Type 0} (versions : S → List A) where
  abbrev pub sizes : List S → List ℕ
  sizes pages = map (λ page. length (versions page)) pages

  abbrev joined : List S → List A
  joined pages = flat_map versions pages

  joined_count : (pages : List S) → length (joined pages) ≡ total (sizes pages)
  joined_count [] = refl
  joined_count (page ∷ pages) = length-append (versions page) (joined pages) ∙ ap (λ n. length (versions page) + n) (joined_count pages)

  -- a number in the last page has that page
  last_stands : (pages : List S) (k m : ℕ) → IsPaged (sizes pages) → 0 < m → m < 4096 → k * 4096 + m ≡ length (joined pages) → k < length pages
  last_stands [] k m paged some few e = absurd (omega arith)
  last_stands (p ∷ []) zero m paged some few e = omega arith
  last_stands (p ∷ []) (suc k) m paged some few e =
      let one : length (versions p ++ []) ≡ length (versions p) = ap length (append-nil (versions p)) in
      let most : length (versions p) ≤ 4096 = paged.1 in
      absurd (omega arith)
  last_stands (p ∷ r ∷ pages) zero m paged some few e = omega arith
  last_stands (p ∷ r ∷ pages) (suc k) m paged some few e =
      let full : length (versions p) ≡ 4096 = paged.0 in
      let all = length-append (versions p) (joined (r ∷ pages)) in
      let rest = last_stands (r ∷ pages) k m paged.1 some few (omega arith) in
      omega arith

  module _ (a : A) where
    -- pages of one version more
    pub record Longer (pages next : List S) : Type 0 where
      pub paged : IsPaged (sizes next)
      pub more : joined next ≡ joined pages ++ a ∷ []

    longer : (d q : S) (pages : List S) (k m : ℕ) → IsPaged (sizes pages) → 0 < m → m < 4096 → k * 4096 + m ≡ length (joined pages)
        → versions q ≡ versions (get_or pages k d) ++ a ∷ [] → Longer pages (set pages k q)
    longer d q [] k m paged some few e is = absurd (omega arith)
    longer d q (p ∷ []) zero m paged some few e is =
        let one : length (versions p ++ []) ≡ length (versions p) = ap length (append-nil (versions p)) in
        let count : length (versions q) ≡ length (versions p) + 1 = ap length is ∙ length-append (versions p) (a ∷ []) in
        record {
          paged = (omega arith, omega arith);
          more = append-nil (versions q) ∙ is ∙ ap (λ (l : List A). l ++ a ∷ []) (sym (append-nil (versions p)));
        }
    longer d q (p ∷ []) (suc k) m paged some few e is =
        let one : length (versions p ++ []) ≡ length (versions p) = ap length (append-nil (versions p)) in
        let most : length (versions p) ≤ 4096 = paged.1 in
        absurd (omega arith)
    longer d q (p ∷ r ∷ pages) zero m paged some few e is =
        let full : length (versions p) ≡ 4096 = paged.0 in
        let all = length-append (versions p) (joined (r ∷ pages)) in
        absurd (omega arith)
    longer d q (p ∷ r ∷ pages) (suc zero) m paged some few e is =
        let full : length (versions p) ≡ 4096 = paged.0 in
        let all = length-append (versions p) (joined (r ∷ pages)) in
        let rest = longer d q (r ∷ pages) zero m paged.1 some few (omega arith) is in
        record {
          paged = (full, rest.paged);
          more = ap (λ (l : List A). versions p ++ l) rest.more ∙ sym (append_assoc (versions p) (joined (r ∷ pages)) (a ∷ []));
        }
    longer d q (p ∷ r ∷ pages) (suc (suc k)) m paged some few e is =
        let full : length (versions p) ≡ 4096 = paged.0 in
        let all = length-append (versions p) (joined (r ∷ pages)) in
        let rest = longer d q (r ∷ pages) (suc k) m paged.1 some few (omega arith) is in
        record {
          paged = (full, rest.paged);
          more = ap (λ (l : List A). versions p ++ l) rest.more ∙ sym (append_assoc (versions p) (joined (r ∷ pages)) (a ∷ []));
        }

  module _ (pages : List S) (count : ℕ) (paged : IsPaged (sizes pages)) (is : count ≡ length (joined pages)) where
    -- in the last page, where that isn't full
    module _ (some : 0 < count % 4096) where
      same_count : count / 4096 * 4096 + count % 4096 ≡ length (joined pages)
      same_count = div-add-mod' count 4096 ∙ is

      pub has_last : count / 4096 < length pages
      has_last = last_stands pages (count / 4096) (count % 4096) paged some (omega arith) same_count

      module _ (page : S) (stands : page ≡ get_or pages (count / 4096) page) (q : S) where
        pub pushed : (a : A) → versions q ≡ versions page ++ a ∷ [] → Longer a pages (set pages (count / 4096) q)
        pushed a e = longer a page q pages (count / 4096) (count % 4096) paged some (omega arith) same_count
            (e ∙ ap (λ (p : S). versions p ++ a ∷ []) stands)

        -- where it stays as it was
        same_versions : versions q ≡ versions page → versions q ≡ versions (get_or pages (count / 4096) page)
        same_versions e = e ∙ ap versions stands

        pub kept_sizes : versions q ≡ versions page → IsPaged (sizes (set pages (count / 4096) q))
        kept_sizes e = subst IsPaged
            (sym (map-set_same (λ (p : S). length (versions p)) pages (count / 4096) q page (ap length (same_versions e)))) paged

        pub kept : versions q ≡ versions page → joined (set pages (count / 4096) q) ≡ joined pages
        kept e = set_same versions page pages (count / 4096) q (same_versions e)

    -- in a page of its own, where all are full
    pub added : (q : S) (a : A) → count % 4096 ≡ 0 → versions q ≡ a ∷ [] → Longer a pages (pages ++ q ∷ [])
    added q a none one =
        let size : length (versions q) ≡ 1 = ap length one in
        let sum = joined_count pages in
        record {
          paged = subst IsPaged (sym (map-append (λ (p : S). length (versions p)) pages (q ∷ [])))
              (paged_more (sizes pages) (length (versions q)) paged (omega (arith, is, sum, none)) (omega arith) (omega arith));
          more = flat_push versions pages q ∙ ap (λ (l : List A). joined pages ++ l) one;
        }
