-- Records of tables that no sum counts.
use Rattle.std.proofs.Common.{◌≡◌, ℕ, ◌+◌, ◌-◌, ◌<◌, ◌≤◌, ◌⊎◌, inl, inr, refl, sym, ap, ◌∙◌, subst, arith}
use Rattle.tables.specs.Sizes.{Sizes}
use Rattle.tables.specs.Records.{number_of_key, key_of, size, narrow_count, record_count, IsRecordKey}
use Rattle.tables.specs.declared.records.Table.TheVariants as table
use Rattle.tables.specs.declared.records.RecordKey.{RecordKey}
use Rattle.tables.specs.declared.records.RecordKey.TheVariants as key
use Rattle.tables.proofs.Numbers.{narrow_among, wide_named, one_to_one, district_there, order_there, line_there}
use Rattle.totals.specs.Counted.{counted_in, IsOfAnotherTable}
use Rattle.totals.proofs.Moving.{IsOther}

-- a number of a counted table isn't past
not_past : (a b c d n : ℕ) → ((a ≤ n) × (n < b)) ⊎ ((c ≤ n) × (n < d)) → a ≤ b → b ≤ c → c ≤ d
    → (n < a) ⊎ (((b ≤ n) × (n < c)) ⊎ (d ≤ n)) → ⊥
not_past a b c d n (inl h) e f g (inl p) = omega (arith, h.0, p)
not_past a b c d n (inl h) e f g (inr (inl p)) = omega (arith, h.1, p.0)
not_past a b c d n (inl h) e f g (inr (inr p)) = omega (arith, h.1, f, g, p)
not_past a b c d n (inr h) e f g (inl p) = omega (arith, h.0, e, f, p)
not_past a b c d n (inr h) e f g (inr (inl p)) = omega (arith, h.0, p.1)
not_past a b c d n (inr h) e f g (inr (inr p)) = omega (arith, h.1, p)

module _ (s : Sizes) (n : ℕ) where
  counted : ((counted_in s).first_district ≤ n) × (n < (counted_in s).end_districts) ⊎ (((counted_in s).first_new_order ≤ n) × (n < (counted_in s).end_lines))
      → IsOfAnotherTable (counted_in s) n → ⊥
  counted among past = not_past (counted_in s).first_district (counted_in s).end_districts (counted_in s).first_new_order (counted_in s).end_lines n among
      (omega arith) (omega arith) (omega arith) past

  of_kind : IsOfAnotherTable (counted_in s) n → (k : RecordKey) → IsRecordKey s k → number_of_key s k ≡ n → IsOther k
  of_kind past (key.Warehouse w) is same = λ order words. ((λ w. refl), (λ w. refl), (λ w. refl), (λ w. refl), (λ w. refl), (λ w. refl))
  of_kind past (key.District k) is same = let h = (district_there s k is).0 in
      absurd (counted (inl (omega (arith, same), omega (arith, same, h))) past)
  of_kind past (key.Customer k) is same = λ order words. ((λ w. refl), (λ w. refl), (λ w. refl), (λ w. refl), (λ w. refl), (λ w. refl))
  of_kind past (key.NewOrder k) is same = let h = (order_there s k is).0 in
      absurd (counted (inr (omega (arith, same), omega (arith, same, h))) past)
  of_kind past (key.Order k) is same = let h = (order_there s k is).0 in
      absurd (counted (inr (omega (arith, same), omega (arith, same, h))) past)
  of_kind past (key.OrderLine k) is same = let h = (line_there s k is).0 in
      absurd (counted (inr (omega (arith, same), omega (arith, same, h))) past)
  of_kind past (key.Stock k) is same = λ order words. ((λ w. refl), (λ w. refl), (λ w. refl), (λ w. refl), (λ w. refl), (λ w. refl))
  of_kind past (key.Oldest k) is same = λ order words. ((λ w. refl), (λ w. refl), (λ w. refl), (λ w. refl), (λ w. refl), (λ w. refl))
  of_kind past (key.Last k) is same = λ order words. ((λ w. refl), (λ w. refl), (λ w. refl), (λ w. refl), (λ w. refl), (λ w. refl))
  of_kind past (key.CustomerData k) is same = λ order words. ((λ w. refl), (λ w. refl), (λ w. refl), (λ w. refl), (λ w. refl), (λ w. refl))

  pub other_there : n < narrow_count s → IsOfAnotherTable (counted_in s) n → IsOther (key_of s n)
  other_there below past = let back = (one_to_one s).1 n (narrow_among s n below) in of_kind past (key_of s n) back.0 back.1

  -- a wide record is of C_DATA, which no sum counts
  pub wide_other : narrow_count s ≤ n → n < record_count s → IsOther (key_of s n)
  wide_other behind below =
      let there : narrow_count s + (n - narrow_count s) ≡ n = omega (arith, behind) in
      let inside : n - narrow_count s < size s table.CustomerData = omega (arith, behind, below) in
      subst IsOther (sym (wide_named s (n - narrow_count s) inside) ∙ ap (key_of s) there)
      (λ order words. ((λ w. refl), (λ w. refl), (λ w. refl), (λ w. refl), (λ w. refl), (λ w. refl)))
