-- Whether an order number is left, by the record of the order's district.
use Rattle.std.proofs.Common.{◌≡◌, ℕ, ◌<◌, ◌≤◌, true, false, MatchBool, leb, ⊎_elim, Option, Some, None, List, slice_index, refl, sym, ap, ◌∙◌, subst, arith}
use Rattle.std.proofs.lemmas.Bool.Decides.{leb_tells}
use Rattle.std.specs.Option.{option_map, option_map_or}
use Rattle.std.specs.FinMap.{get}
use Rattle.tables.specs.Sizes.{Sizes}
use Rattle.tables.specs.Database.{Database}
use Rattle.tables.specs.NewOrder.{IsNewOrder, home, HasNumber}
use Rattle.tables.specs.OrderNumbers.{next_order}
use Rattle.tables.specs.Records.{number_of_key, key_of}
use Rattle.tables.specs.Rows.{rows, row_at, district_words}
use Rattle.tables.specs.declared.records.RecordKey.TheVariants as key
use Rattle.tables.specs.declared.rows.District.{District}
use Rattle.tables.specs.declared.new_order.NewOrderInput.{NewOrderInput}
use Rattle.tables.proofs.Numbers.{named}

-- the second word of a district's record is D_NEXT_O_ID; a missing row counts as 0
abbrev next_in : Option (List ℕ) → ℕ
next_in words = option_map_or (λ w. slice_index w 1) words 0

next_of : (r : Option District) → next_in (option_map district_words r) ≡ option_map_or (λ d. d.next_order) r 0
next_of None = refl
next_of (Some r) = refl

within_is : (a b : ℕ) → MatchBool (leb a b) (a ≤ b) (¬ (a ≤ b))
within_is a b = ⊎_elim
    (λ (h : (leb a b ≡ true) × (a ≤ b)). subst (λ v. MatchBool v (a ≤ b) (¬ (a ≤ b))) (sym h.0) h.1)
    (λ (h : (leb a b ≡ false) × (b < a)). subst (λ v. MatchBool v (a ≤ b) (¬ (a ≤ b))) (sym h.0) (λ le. omega arith))
    (leb_tells a b)

module _ (s : Sizes) (t : Database) (x : NewOrderInput) (scale : t.scale ≡ s) (is : IsNewOrder s x) where
  next_read : (words : Option (List ℕ)) → words ≡ rows t (number_of_key s (key.District (home x))) → next_in words ≡ next_order t (home x)
  next_read words read =
      ap next_in (read ∙ ap (λ (q : Sizes). row_at t (key_of q (number_of_key s (key.District (home x))))) scale
      ∙ ap (row_at t) (named s (key.District (home x)) (is.warehouse, is.district)).1)
      ∙ next_of (get t.districts (home x))

  pub number_by : (words : List ℕ) (cap : ℕ) → Some words ≡ rows t (number_of_key s (key.District (home x))) → cap ≡ s.orders
      → MatchBool (leb (slice_index words 1) cap) (HasNumber t x) (¬ HasNumber t x)
  number_by words cap read same = subst (λ (q : ℕ × ℕ). MatchBool (leb (slice_index words 1) cap) (q.0 ≤ q.1) (¬ (q.0 ≤ q.1)))
      (λ i. (next_read (Some words) read i, (same ∙ sym (ap (λ (q : Sizes). q.orders) scale)) i)) (within_is (slice_index words 1) cap)

  pub number_at_none : None ≡ rows t (number_of_key s (key.District (home x))) → HasNumber t x
  number_at_none read = let none : 0 ≡ next_order t (home x) = next_read None read in omega arith
