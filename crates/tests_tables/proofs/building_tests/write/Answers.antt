use Rattle.std.proofs.Common.{◌≡◌, ◌≢◌, ℕ, ◌<◌, List, [], length, slice_set, Option, Some, sym, ap, ◌∙◌, subst, arith, ⊎_elim}
use Rattle.std.specs.Option.{option_map_or}
use Rattle.std.proofs.lemmas.Bool.{cases_eq}
use Rattle.tables.specs.Sizes.{Sizes}
use Rattle.tables.specs.Records.{key_of}
use Rattle.tables.proofs.Numbers.{named, of_narrow}
use Rattle.cells.specs.Versions.{value_in}
use Rattle.cells.specs.Records.{newest_words}
use Rattle.cells.specs.declared.cells.Newest.{Newest}
use Rattle.encoding.specs.Newest.{words_at}
use Rattle.encoding.specs.Puts.{MayHold}
use Rattle.encoding.proofs.Positions.{same_here, same_there}
use Rattle.tests_tables.specs.Lawful.{AreLawfulRows}
use Rattle.tests_tables.proofs.building_tests.write.Goals as goal

-- one version is replaced by a lawful one
lawful : (xs : List Newest) (i : ℕ) (x : Newest) (s : Sizes) → i < length xs → AreLawfulRows s (λ n. value_in (words_at xs n))
    → MayHold s (key_of s i) (value_in (newest_words x)) → AreLawfulRows s (λ n. value_in (words_at (slice_set xs i x) n))
lawful xs i x s at before may n h = ⊎_elim
    (λ (e : n ≡ i). subst (λ m. MayHold s (key_of s m) (value_in (words_at (slice_set xs i x) m))) (sym e)
    (subst (λ w. MayHold s (key_of s i) (value_in w)) (sym (same_here xs i x at)) may))
    (λ (e : n ≢ i). subst (λ (o : Option Newest). MayHold s (key_of s n) (value_in (option_map_or newest_words o []))) (sym (same_there xs i n x e)) (before n h))
    (cases_eq n i)

pub returns-clause-lawful : goal.returns-clause-lawful
returns-clause-lawful c =
    let s = c.args.scale.now in
    let i = c.number_of_key-number.result in
    let version : Newest = record { word = 2; payload = c.args.words } in
    let key : key_of s i ≡ c.args.key = ap (key_of s) c.number_of_key-number.ensures.value ∙ (named s c.args.key (of_narrow s c.args.key c.requires.key)).1 in
    subst (λ (l : List Newest). AreLawfulRows s (λ n. value_in (words_at l n))) (sym c.in_ok-set.ensures.ok)
    (lawful c.args.first.now i version s (omega (arith, c.requires.count, c.number_of_key-number.ensures.narrow c.requires.key)) c.requires.lawful
    (subst (λ k. MayHold s k (Some c.args.words)) (sym key) c.requires.words))
