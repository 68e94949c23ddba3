-- The lines of the order that is taken get their dates, one after another.
use Rattle.std.proofs.Common.{◌≡◌, ◌≢◌, ℕ, ◌+◌, ◌≤◌, nat_le, Bool, true, false, cond, ◌&&◌, ◌||◌, [], ◌∷◌, Option, Some, None, refl, sym, ap, ◌∙◌, arith}
use Rattle.std.proofs.lemmas.Bool.Decides.{nat_tests}
use Rattle.std.specs.Option.{option_map}
use Rattle.std.specs.FinMap.{get}
use Rattle.tables.specs.Keys.{is_order, order_of}
use Rattle.tables.specs.Database.{Database}
use Rattle.tables.specs.Records.{IsRecordKey}
use Rattle.tables.specs.NewOrder.{line_key}
use Rattle.tables.specs.Rows.{row_at, line_words}
use Rattle.tables.specs.Delivery.{dated}
use Rattle.tables.specs.declared.keys.OrderKey.{OrderKey}
use Rattle.tables.specs.declared.keys.LineKey.{LineKey}
use Rattle.tables.specs.declared.rows.OrderLine.{OrderLine}
use Rattle.tables.specs.declared.delivery.DeliveryInput.{DeliveryInput}
use Rattle.tables.specs.declared.records.RecordKey.{RecordKey}
use Rattle.tables.specs.declared.records.RecordKey.TheVariants as key
use Rattle.tables.proofs.Orders.{exact_line}
use Rattle.tables_laws.proofs.Touched.{self}
use Rattle.tables_laws.proofs.Updates.{get-map_rows}
use Rattle.tables_laws.proofs.OrderAmount.{order_named}
use Rattle.readset.specs.Changes.{Changes, Says, Apart}
use Rattle.delivery.specs.Steps.{next_key, is_early_line, with_dates, is_taken_by, after_districts}
use Rattle.delivery.proofs.Taking.{is_taken_before, up_to_next}

module _ (t : Database) (x : DeliveryInput) (n o : ℕ) where
  abbrev k : OrderKey
  k = next_key x n o

  abbrev test : ℕ → LineKey → Bool
  test m j = is_taken_by t x n (order_of j) || is_early_line k m j

  line_at : (m : ℕ) (j : LineKey) → get (with_dates t x n k m).lines j ≡ option_map (λ l. cond (test m j) (dated x l) l) (get t.lines j)
  line_at m j = get-map_rows exact_line (λ q l. cond (test m q) (dated x l) l) t.lines j

  same_lines : (a b : ℕ) (j : LineKey) → is_early_line k a j ≡ is_early_line k b j → row_at (with_dates t x n k a) (key.OrderLine j) ≡ row_at (with_dates t x n k b)
      (key.OrderLine j)
  same_lines a b j same = ap (option_map line_words)
      (line_at a j ∙ ap (λ c. option_map (λ l. cond (is_taken_by t x n (order_of j) || c) (dated x l) l) (get t.lines j)) same ∙ sym (line_at b j))

  -- before the first line
  none_among : (j : LineKey) → 1 ≤ j.line → is_early_line k 0 j ≡ false
  none_among j first =
      let zero_not : nat_le j.line 0 ≡ false = grind (arith, nat_tests, first) in
      elim (is_order k.warehouse k.district k.order (order_of j)) as (λ b. (b && nat_le j.line 0) ≡ false) [ true ↦ zero_not | false ↦ refl ]

  or_none : (b c : Bool) → c ≡ false → (b || c) ≡ b
  or_none true c e = refl
  or_none false c e = e

  pub begun : (j : RecordKey) → IsRecordKey t.scale j → row_at (with_dates t x n k 0) j ≡ row_at (after_districts t x n) j
  begun (key.Warehouse w) is = refl
  begun (key.District h) is = refl
  begun (key.Customer c) is = refl
  begun (key.NewOrder j) is = refl
  begun (key.Order j) is = refl
  begun (key.OrderLine j) is =
      ap (option_map line_words)
      (line_at 0 j ∙ ap (λ b. option_map (λ l. cond b (dated x l) l) (get t.lines j))
      (or_none (is_taken_by t x n (order_of j)) (is_early_line k 0 j) (none_among j is.3.0))
      ∙ sym (get-map_rows exact_line (λ q l. cond (is_taken_by t x n (order_of q)) (dated x l) l) t.lines j))
  begun (key.Stock h) is = refl
  begun (key.Oldest h) is = refl
  begun (key.Last c) is = refl
  begun (key.CustomerData c) is = refl

  -- one line more: its row, where there is one, gets its date
  abbrev pub dating : ℕ → OrderLine → Changes
  dating m r = (key.OrderLine (line_key k (m + 1)), Some (line_words (dated x r))) ∷ []

  module _ (m : ℕ) where
    last_among : is_early_line k (m + 1) (line_key k (m + 1)) ≡ true
    last_among =
        let up_to : nat_le (m + 1) (m + 1) ≡ true = grind (arith, nat_tests) in
        λ i. ((self x.warehouse i && self (n + 1) i) && self o i) && up_to i

    pub dated_line : (r : OrderLine) → get t.lines (line_key k (m + 1)) ≡ Some r → Says (row_at (with_dates t x n k (m + 1))) (dating m r)
    dated_line r found = (
      ap (option_map line_words)
          (line_at (m + 1) (line_key k (m + 1))
          ∙ (λ i. option_map (λ l. cond (is_taken_before t x n o i || last_among i) (dated x l) l) (found i))),
      tt,
    )

    other_line : (j : LineKey) → j ≢ line_key k (m + 1) → is_early_line k (m + 1) j ≡ is_early_line k m j
    other_line j apart = elim (is_order k.warehouse k.district k.order (order_of j)) as
        (λ b. is_order k.warehouse k.district k.order (order_of j) ≡ b → (b && nat_le j.line (m + 1)) ≡ (b && nat_le j.line m)) [
          | true ↦ λ e.
              let named : k ≡ order_of j = order_named x.warehouse (n + 1) o (order_of j) e in
              up_to_next j.line m (λ same. apart
              (λ i. record { warehouse = (sym named i).warehouse; district = (sym named i).district; order = (sym named i).order; line = same i }))
          | false ↦ λ e. refl
        ] refl

    pub dated_others : (r : OrderLine) (j : RecordKey) → Apart j (dating m r) → row_at (with_dates t x n k (m + 1)) j ≡ row_at (with_dates t x n k m) j
    dated_others r (key.Warehouse w) apart = refl
    dated_others r (key.District h) apart = refl
    dated_others r (key.Customer c) apart = refl
    dated_others r (key.NewOrder j) apart = refl
    dated_others r (key.Order j) apart = refl
    dated_others r (key.OrderLine j) apart = same_lines (m + 1) m j (other_line j (λ same. apart.0 (ap key.OrderLine same)))
    dated_others r (key.Stock h) apart = refl
    dated_others r (key.Oldest h) apart = refl
    dated_others r (key.Last c) apart = refl
    dated_others r (key.CustomerData c) apart = refl

    -- where there is no row, nothing changes
    pub none_dated : get t.lines (line_key k (m + 1)) ≡ None → (j : RecordKey) → row_at (with_dates t x n k (m + 1)) j ≡ row_at (with_dates t x n k m) j
    none_dated none (key.Warehouse w) = refl
    none_dated none (key.District h) = refl
    none_dated none (key.Customer c) = refl
    none_dated none (key.NewOrder j) = refl
    none_dated none (key.Order j) = refl
    none_dated none (key.OrderLine j) = go (get t.lines j) refl
      where
        go : (w : Option OrderLine) → get t.lines j ≡ w
            → row_at (with_dates t x n k (m + 1)) (key.OrderLine j) ≡ row_at (with_dates t x n k m) (key.OrderLine j)
        go None e =
            let still : (a : ℕ) → get (with_dates t x n k a).lines j ≡ None = λ a. line_at a j ∙ ap (option_map (λ l. cond (test a j) (dated x l) l)) e in
            ap (option_map line_words) (still (m + 1) ∙ sym (still m))
        go (Some l) e = same_lines (m + 1) m j (other_line j (λ same. let gone : Some l ≡ None = sym e ∙ ap (get t.lines) same ∙ none in absurd cc))
    none_dated none (key.Stock h) = refl
    none_dated none (key.Oldest h) = refl
    none_dated none (key.Last c) = refl
    none_dated none (key.CustomerData c) = refl
