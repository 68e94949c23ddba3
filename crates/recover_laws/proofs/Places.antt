-- A record's number names its table and its place there.
use Rattle.std.proofs.Common.{◌≡◌, ℕ, ◌+◌, ◌-◌, ◌<◌, ◌≤◌, Bool, true, false, cond, List, [], ◌∷◌, refl, ap, ◌∙◌, arith}
use Rattle.std.proofs.Common.{not-suc-le-zero}
use Rattle.std.specs.Prelude.{nat_lt}
use Rattle.std.specs.List.{sum_by}
use Rattle.std.proofs.lemmas.Bool.{lt-ltb, le-ltb, ltb-true, ltb-false}
use Rattle.std.proofs.lemmas.List.Sums.{sum_by-cons}
use Rattle.tables.specs.Sizes.{Sizes}
use Rattle.tables.specs.Records.{tables, size, first_number, record_count, record_number, table_among, place_among, table_at, place_at}
use Rattle.tables.specs.declared.records.Table.{Table}

module _ (s : Sizes) where
  -- each of these tables begins where those before it end
  abbrev Begin : ℕ → List Table → Type 0
  Begin sum [] = Unit {0}
  Begin sum (t ∷ ts) = (first_number s t ≡ sum) × Begin (sum + size s t) ts

  all_begin : Begin 0 tables
  all_begin = (refl, (omega arith, (omega arith, (omega arith, (omega arith, (omega arith, (omega arith, (omega arith, (omega arith, (omega arith, (omega arith, (omega arith, tt))))))))))))

  abbrev number_among : List Table → ℕ → ℕ
  number_among ts n = record_number s (table_among s ts n) (place_among s ts n)

  here : (t : Table) (ts : List Table) (n : ℕ) → n < size s t → number_among (t ∷ ts) n ≡ record_number s t n
  unfolding table_among place_among
  here t ts n h = ap (λ (b : Bool). record_number s (cond b t (table_among s ts (n - size s t))) (cond b n (place_among s ts (n - size s t)))) (lt-ltb n (size s t) h)

  there : (t : Table) (ts : List Table) (n : ℕ) → size s t ≤ n → number_among (t ∷ ts) n ≡ number_among ts (n - size s t)
  unfolding table_among place_among
  there t ts n h = ap (λ (b : Bool). record_number s (cond b t (table_among s ts (n - size s t))) (cond b n (place_among s ts (n - size s t)))) (le-ltb n (size s t) h)

  found : (sum n : ℕ) (ts : List Table) → Begin sum ts → n < sum_by (size s) ts → number_among ts n ≡ sum + n
  found sum n [] begin h = absurd (not-suc-le-zero h)
  found sum n (t ∷ ts) begin h =
      elim (nat_lt n (size s t)) as (λ b. nat_lt n (size s t) ≡ b → number_among (t ∷ ts) n ≡ sum + n) [
        | true ↦ λ e. here t ts n (ltb-true n (size s t) e) ∙ ap (λ (m : ℕ). m + n) begin.0
        | false ↦ λ e.
            let low : size s t ≤ n = ltb-false n (size s t) e in
            let less : n - size s t < sum_by (size s) ts = (let all = sum_by-cons (size s) t ts in omega (arith, all, h, low)) in
            let rest : sum + size s t + (n - size s t) ≡ sum + n = omega (arith, low) in
            there t ts n low ∙ found (sum + size s t) (n - size s t) ts begin.1 less ∙ rest
      ] refl

  -- the number of a record's table and place is its own
  pub number_back : (n : ℕ) → n < record_count s → record_number s (table_at s n) (place_at s n) ≡ n
  number_back n h = found 0 n tables all_begin h ∙ plain n
    where
      plain : (n : ℕ) → 0 + n ≡ n
      plain n = omega arith
