-- Tables into which the newest writes are put, in the order of the records.
use Rattle.std.proofs.Common.{◌≡◌, ◌≢◌, ⊎_elim, ℕ, ◌+◌, ◌<◌, ◌≤◌, true, false, cond, List, Option, Some, None, refl, sym, ap, ◌∙◌, arith}
use Rattle.std.specs.Prelude.{nat_lt}
use Rattle.std.proofs.lemmas.Bool.Decides.{eqb_tells, nat_tests}
use Rattle.tables.specs.Sizes.{Sizes}
use Rattle.tables.specs.Database.{Database}
use Rattle.tables.specs.Records.{record_count, number_of_key, key_of, IsRecordKey}
use Rattle.tables.specs.declared.records.RecordKey.{RecordKey}
use Rattle.tables.proofs.Numbers.{named, numbered}
use Rattle.encoding.specs.Held.{by_key, AreTables}
use Rattle.encoding.specs.Puts.{Puts}
use Rattle.log_text.specs.Writes.{words_of_value}
use Rattle.recover_newest.specs.Putting.{left_in}
use Rattle.recover_newest.specs.declared.latest.Latest.{Latest}

-- what record n holds once those below `next` are put
abbrev pub put_below : ℕ → (ℕ → Option Latest) → (ℕ → Option (List ℕ)) → ℕ → Option (List ℕ)
put_below next known first n = cond (nat_lt n next) (left_in (known n) (first n)) (first n)

module _ (known : ℕ → Option Latest) (first : ℕ → Option (List ℕ)) where
  is_put : (next n : ℕ) → n < next → put_below next known first n ≡ left_in (known n) (first n)
  is_put next n less = let it : nat_lt n next ≡ true = grind (arith, nat_tests) in ap (λ b. cond b (left_in (known n) (first n)) (first n)) it

  not_put : (next n : ℕ) → next ≤ n → put_below next known first n ≡ first n
  not_put next n more = let not_it : nat_lt n next ≡ false = grind (arith, nat_tests) in ap (λ b. cond b (left_in (known n) (first n)) (first n)) not_it

  pub none_put : (n : ℕ) → put_below 0 known first n ≡ first n
  none_put n = not_put 0 n (omega arith)

  -- with no record past the last one known, all are put
  pub all_put : (count : ℕ) → ((n : ℕ) → count ≤ n → known n ≡ None) → (n : ℕ) → put_below count known first n ≡ left_in (known n) (first n)
  all_put count none n =
      elim (nat_lt n count) as (λ b. nat_lt n count ≡ b → put_below count known first n ≡ left_in (known n) (first n)) [
        | true ↦ λ t. is_put count n (grind (arith, nat_tests))
        | false ↦ λ f.
            let more : count ≤ n = grind (arith, nat_tests) in not_put count n more ∙ sym (ap (λ o. left_in o (first n)) (none n more))
      ] refl

  -- a record other than the next one
  other_same : (next n : ℕ) → n ≢ next → put_below (next + 1) known first n ≡ put_below next known first n
  other_same next n other =
      elim (nat_lt n next) as (λ b. nat_lt n next ≡ b → put_below (next + 1) known first n ≡ put_below next known first n) [
        | true ↦ λ t.
            let less : n < next = grind (arith, nat_tests) in is_put (next + 1) n (omega (arith, less)) ∙ sym (is_put next n less)
        | false ↦ λ f.
            let more : next ≤ n = grind (arith, nat_tests) in not_put (next + 1) n (omega (arith, more, other)) ∙ sym (not_put next n more)
      ] refl

  -- where nothing is known of the next record, it stays
  pub next_stays : (next : ℕ) → known next ≡ None → (n : ℕ) → put_below (next + 1) known first n ≡ put_below next known first n
  next_stays next none n =
      ⊎_elim (λ same. ap (put_below (next + 1) known first) same.1 ∙ is_put (next + 1) next (omega arith)
      ∙ ap (λ o. left_in o (first next)) none ∙ sym (not_put next next (omega arith)) ∙ sym (ap (put_below next known first) same.1))
      (λ other. other_same next n other.1) (eqb_tells n next)

  module _ (t0 : Database) where
    -- the next record is put, as its newest write left it
    pub next_put : (next : ℕ) (w : Latest) (old new : Database) → next < record_count t0.scale → known next ≡ Some w
        → AreTables t0 (by_key t0.scale (put_below next known first)) old → Puts t0 (key_of t0.scale next) (words_of_value w.value) old new
        → AreTables t0 (by_key t0.scale (put_below (next + 1) known first)) new
    next_put next w old new small is are puts =
        puts.tables (by_key s (put_below next known first)) (by_key s (put_below (next + 1) known first)) here others are
      where
        s : Sizes
        s = t0.scale

        here : put_below (next + 1) known first (number_of_key s (key_of s next)) ≡ words_of_value w.value
        here = ap (put_below (next + 1) known first) (numbered s next small).1 ∙ is_put (next + 1) next (omega arith)
            ∙ ap (λ o. left_in o (first next)) is

        others : (j : RecordKey) → IsRecordKey s j → j ≢ key_of s next
            → put_below (next + 1) known first (number_of_key s j) ≡ put_below next known first (number_of_key s j)
        others j is other = other_same next (number_of_key s j) (λ same. other (sym (named s j is).1 ∙ ap (key_of s) same))
