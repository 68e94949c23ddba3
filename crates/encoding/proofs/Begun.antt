-- What a pass over a table's entries leaves of first versions.
use Rattle.std.proofs.Common.{◌≡◌, ◌≢◌, ℕ, ◌<◌, ◌==◌, true, false, cond, Option, Some, List, [], ◌∷◌, length, get_or, set, refl, sym, ap, ◌∙◌, arith}
use Rattle.std.proofs.Common.{length-set, get_or-set_other}
use Rattle.std.specs.List.{fold}
use Rattle.std.specs.Option.{option_map_or}
use Rattle.std.proofs.lemmas.Bool.Decides.{nat_tests}
use Rattle.std.proofs.lemmas.Grind.{get_or-set_at}
use Rattle.std.proofs.lemmas.Option.{slice_get-get_or}
use Rattle.tables.specs.Sizes.{Sizes}
use Rattle.tables.specs.Records.{number_of_key}
use Rattle.tables.specs.declared.records.RecordKey.{RecordKey}
use Rattle.cells.specs.Records.{newest_words}
use Rattle.cells.specs.First.{populated_word}
use Rattle.cells.specs.declared.cells.Newest.{Newest}
use Rattle.encoding.specs.Newest.{words_at}
use Rattle.encoding.specs.Begun.{begun_by, data_of}

words_in : Option Newest → List ℕ
words_in o = option_map_or newest_words o []

-- one version is written
written : (xs : List Newest) (i n : ℕ) (v : Newest) → i < length xs → n < length xs → words_at (set xs i v) n ≡ cond (n == i) (newest_words v) (words_at xs n)
unfolding words_in
written xs i n v hi hn =
    let longer : n < length (set xs i v) = omega (arith, length-set xs i v) in
    ap words_in (slice_get-get_or (set xs i v) n v longer)
    ∙ (elim (n == i) as (λ b. (n == i) ≡ b → words_in (Some (get_or (set xs i v) n v)) ≡ cond b (newest_words v) (words_at xs n)) [
      | true ↦ λ t. let same : n ≡ i = grind (arith, nat_tests) in ap newest_words (get_or-set_at xs i n v v same hi)
      | false ↦ λ t. let other : n ≢ i = grind (arith, nat_tests) in ap newest_words (get_or-set_other xs i n v v other)
          ∙ ap words_in (sym (slice_get-get_or xs n v hn))
    ] refl)

-- one entry more
module _ {K X : Type 0} (s : Sizes) (record_of : K → X → RecordKey) (words_of : List ℕ → K → X → List ℕ) (n : ℕ) where
  pub one_begun : (xs : List Newest) (i : ℕ) (k : K) (r : X) (v before : Newest) → i < length xs → n < length xs → i ≡ number_of_key s (record_of k r)
      → before ≡ get_or xs i before
      → newest_words v ≡ populated_word ∷ words_of before.payload k r → words_at (set xs i v) n ≡ begun_by s record_of words_of n (words_at xs n) (k, r)
  unfolding words_in
  one_begun xs i k r v before hi hn number was is =
      written xs i n v hi hn
      ∙ (elim (n == i) as (λ b. (n == i) ≡ b → cond b (newest_words v) (words_at xs n) ≡ cond b (populated_word ∷ words_of (data_of (words_at xs n)) k r)
      (words_at xs n)) [
        | true ↦ λ t.
            let same : n ≡ i = grind (arith, nat_tests) in
            let held : words_at xs n ≡ newest_words before = ap (words_at xs) same ∙ ap words_in (slice_get-get_or xs i before hi)
            ∙ ap newest_words (sym was) in
            is ∙ ap (λ (ws : List ℕ). populated_word ∷ words_of ws k r) (sym (ap data_of held))
        | false ↦ λ t. refl
      ] refl)
      ∙ ap (λ m. cond (n == m) (populated_word ∷ words_of (data_of (words_at xs n)) k r) (words_at xs n)) number

  pub more_begun : (xs : List Newest) (i : ℕ) (k : K) (r : X) (v before : Newest) (left rest : List (K × X)) (all : List ℕ) → i < length xs → n < length xs
      → i ≡ number_of_key s (record_of k r) → before ≡ get_or xs i before
      → newest_words v ≡ populated_word ∷ words_of before.payload k r → left ≡ (k, r) ∷ rest → fold (begun_by s record_of words_of n) (words_at xs n) left ≡ all
      → fold (begun_by s record_of words_of n) (words_at (set xs i v) n) rest ≡ all
  more_begun xs i k r v before left rest all hi hn number was is next so_far =
      ap (λ (ws : List ℕ). fold (begun_by s record_of words_of n) ws rest) (one_begun xs i k r v before hi hn number was is)
      ∙ ap (fold (begun_by s record_of words_of n) (words_at xs n)) (sym next) ∙ so_far
