-- The first versions of records, as a list by record number.
use Rattle.std.proofs.Common.{◌≡◌, ◌≢◌, ℕ, ◌+◌, ◌-◌, ◌<◌, ◌≤◌, zero, suc, Option, Some, None, IsSome, true≢false, List, [], ◌∷◌, ◌++◌, length, get_or, refl, sym, ap, ◌∙◌, subst, arith, ⊎_elim}
use Rattle.std.proofs.lemmas.Bool.{cases_lt}
use Rattle.std.proofs.lemmas.List.{get_or_append_left, get_or-append_right, get_or-set_same, length-map, length-set}
use Rattle.std.proofs.lemmas.List.FromFn.{get_or-map-range_with_len, length-map-range_with_len}
use Rattle.std.proofs.lemmas.Option.{slice_get-get_or}
use Rattle.std.specs.Prelude.{unwrap_or}
use Rattle.std.specs.Option.{option_map, option_map_or}
use Rattle.std.specs.List.{slice_get, slice_set, slice_index_or}
use Rattle.std.specs.FinMap.{get}
use Rattle.customer_data.specs.Words.{data_words}
use Rattle.tables.specs.Database.{Database}
use Rattle.tables.specs.Keys.{IsCustomerKey}
use Rattle.tables.specs.Records.{size, narrow_count, record_count, customer_at}
use Rattle.tables.specs.Rows.{row_at, rows}
use Rattle.tables.specs.WellFormed.{IsWellFormed}
use Rattle.tables.specs.declared.keys.CustomerKey.{CustomerKey}
use Rattle.tables.specs.declared.records.RecordKey.{RecordKey}
use Rattle.tables.specs.declared.records.Table.TheVariants as table
use Rattle.tables.proofs.Numbers.{customer_back, wide_named}
use Rattle.cells.specs.First.{first_version, firsts, wide_firsts, populated_word}
use Rattle.cells.specs.Versions.{AllVersions, newest as newest_of, value_in}
use Rattle.cells.specs.Records.{PenView, at, held_by, newest_words, wide_newest_words}
use Rattle.cells.specs.declared.cells.Newest.{Newest}
use Rattle.cells.specs.declared.wide.WideNewest.{WideNewest}
use Rattle.encoding.specs.Newest.{words_at, AreFirst, text_version_of, text_versions_of}

-- the words of the version found at a number
pub words_found : (newest : List Newest) (n : ℕ) (v : Newest) → n < length newest → v ≡ slice_index_or newest n v → words_at newest n ≡ newest_words v
words_found newest n v h e = ap (λ (w : Option Newest). option_map_or newest_words w []) (slice_get-get_or newest n v h ∙ ap Some (sym e))

-- the record whose version is replaced, and the others
pub same_here : (newest : List Newest) (m : ℕ) (v : Newest) → m < length newest → words_at (slice_set newest m v) m ≡ newest_words v
same_here newest m v h = words_found (slice_set newest m v) m v (subst (λ k. m < k) (sym (length-set newest m v)) h) (sym (get_or-set_same newest m v v h))

pub same_there : (newest : List Newest) (m n : ℕ) (v : Newest) → n ≢ m → slice_get (slice_set newest m v) n ≡ slice_get newest n
same_there [] m n v h = refl
same_there (x ∷ xs) zero zero v h = absurd (h refl)
same_there (x ∷ xs) zero (suc n) v h = refl
same_there (x ∷ xs) (suc m) zero v h = refl
same_there (x ∷ xs) (suc m) (suc n) v h = same_there xs m n v (λ e. h (ap suc e))

-- the version of a cell that begins with these
pub at_first : (newest : List Newest) (n : ℕ) → n < length newest → at (firsts newest) n ≡ words_at newest n ∷ []
at_first [] n h = absurd (omega (arith, h))
at_first (v ∷ vs) zero h = refl
at_first (v ∷ vs) (suc n) h = at_first vs n (omega (arith, h))

-- and what it holds
pub held_first : (first : List Newest) (pen : PenView) → pen.all ≡ firsts first → (n : ℕ) → n < length first → held_by pen n ≡ value_in (words_at first n)
held_first first pen is n h = ap (λ (l : List (List ℕ)). value_in (newest_of l)) (ap (λ (all : AllVersions). at all n) is ∙ at_first first n h)

-- what a first version says is what it begins with
pub first_value : (w : Option (List ℕ)) → value_in (first_version w) ≡ w
first_value (Some words) = refl
first_value None = refl

-- ---- of C_DATA
-- the version of a cell that begins with these
at_wide : (newest : List WideNewest) (n : ℕ) (d : WideNewest) → n < length newest → at (wide_firsts newest) n ≡ wide_newest_words (get_or newest n d) ∷ []
at_wide [] n d h = absurd (omega (arith, h))
at_wide (v ∷ vs) zero d h = refl
at_wide (v ∷ vs) (suc n) d h = at_wide vs n d (omega (arith, h))

module _ (t : Database) (wf : IsWellFormed t) where
  -- a customer's text is there
  text_first : (k : CustomerKey) → IsCustomerKey t.scale k
      → populated_word ∷ data_words (unwrap_or (get t.texts k) []) ≡ first_version (option_map data_words (get t.texts k))
  text_first k is = found (get t.texts k) ((wf.texts k).1 is)
    where
      found : (o : Option (List ℕ)) → IsSome o → populated_word ∷ data_words (unwrap_or o []) ≡ first_version (option_map data_words o)
      found None some = absurd (true≢false (sym some))
      found (Some text) some = refl

  at_text : (p : ℕ) → p < size t.scale table.CustomerData → at (wide_firsts (text_versions_of t)) p ≡ first_version (rows t (narrow_count t.scale + p)) ∷ []
  at_text p h =
      let count : ℕ = size t.scale table.CustomerData in
      let long = length-map-range_with_len (text_version_of t) 0 count in
      let own : get_or (text_versions_of t) p (text_version_of t p) ≡ text_version_of t p =
      get_or-map-range_with_len (text_version_of t) 0 count p p (text_version_of t p) h (omega arith) in
      at_wide (text_versions_of t) p (text_version_of t p) (omega (arith, h, long))
      ∙ ap (λ (v : WideNewest). wide_newest_words v ∷ []) own
      ∙ ap (λ (w : List ℕ). w ∷ []) (text_first (customer_at t.scale p) (customer_back t.scale p h).0
      ∙ ap (λ (k : RecordKey). first_version (row_at t k)) (sym (wide_named t.scale p h)))

  -- what all records begin with: narrow ones with these versions, and wide ones with the texts of the tables
  module _ (first : List Newest) (count : length first ≡ narrow_count t.scale) where
    counted : length (firsts first) ≡ narrow_count t.scale
    counted = length-map first (λ v. newest_words v ∷ []) ∙ count

    pub at_narrow : (n : ℕ) → n < narrow_count t.scale → at (firsts first ++ wide_firsts (text_versions_of t)) n ≡ words_at first n ∷ []
    at_narrow n low =
        get_or_append_left (firsts first) (wide_firsts (text_versions_of t)) [] n (omega (arith, low, counted))
        ∙ at_first first n (omega (arith, low, count))

    pub at_behind : (n : ℕ) → narrow_count t.scale ≤ n → n < record_count t.scale
        → at (firsts first ++ wide_firsts (text_versions_of t)) n ≡ first_version (rows t n) ∷ []
    at_behind n high h =
        let p : ℕ = n - narrow_count t.scale in
        let back : narrow_count t.scale + p ≡ n = omega (arith, high) in
        get_or-append_right (firsts first) (wide_firsts (text_versions_of t)) (narrow_count t.scale) n [] counted high
        ∙ at_text p (omega (arith, h, high)) ∙ ap (λ m. first_version (rows t m) ∷ []) back

  pub at_begin : (first : List Newest) → AreFirst t first → (n : ℕ) → n < record_count t.scale
      → at (firsts first ++ wide_firsts (text_versions_of t)) n ≡ first_version (rows t n) ∷ []
  at_begin first are n h = ⊎_elim
      (λ low. at_narrow first are.count n low ∙ ap (λ (w : List ℕ). w ∷ []) (are.words n low))
      (λ high. at_behind first are.count n high h) (cases_lt n (narrow_count t.scale))

  -- one for each
  pub count_begin : length (text_versions_of t) ≡ size t.scale table.CustomerData
  count_begin = length-map-range_with_len (text_version_of t) 0 (size t.scale table.CustomerData)
