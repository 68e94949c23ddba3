-- OLDEST of the districts, at last: what was read of it, and one district more.
use Rattle.std.proofs.Common.{◌≡◌, ℕ, ◌+◌, ◌<◌, ◌≤◌, List, [], ◌∷◌, get_or, Option, Some, None, IsSome, ⊎_elim, inr, refl, sym, ap, ◌∙◌, subst, arith}
use Rattle.std.proofs.lemmas.Bool.{cases_lt}
use Rattle.std.proofs.lemmas.List.FromFn.{get_or-map-range_with_len}
use Rattle.tables.specs.Sizes.{Sizes}
use Rattle.tables.specs.Keys.{IsDistrictKey}
use Rattle.tables.specs.OrderNumbers.{next_order, numbers_in}
use Rattle.tables.specs.Database.{Database}
use Rattle.tables.specs.Records.{number_of_key}
use Rattle.tables.specs.Rows.{number_words}
use Rattle.tables.specs.Delivery.{waiting}
use Rattle.tables.specs.declared.keys.DistrictKey.{DistrictKey}
use Rattle.tables.specs.declared.delivery.DeliveryInput.{DeliveryInput}
use Rattle.tables.specs.declared.delivery.DeliveredOrder.{DeliveredOrder}
use Rattle.tables.specs.declared.records.RecordKey.{RecordKey}
use Rattle.tables.specs.declared.records.RecordKey.TheVariants as key
use Rattle.tables_laws.proofs.NumbersLeft.{IsGapless}
use Rattle.readset.specs.Reads.{ReadSetView, Keeps, held}
use Rattle.readset.specs.Writes.{WriteSetView}
use Rattle.readset.specs.Changes.{Holds, Apart, puts_all}
use Rattle.readset.specs.Explains.{IsCandidate}
use Rattle.readset.specs.Transaction.{TransactionView}
use Rattle.readset.proofs.HoldsChanges.{holds-changes, not_taken}
use Rattle.readset.proofs.MoreReads.{still_read}
use Rattle.delivery.specs.Steps.{next_home, after_districts, with_oldest, AreDone, AreOldestRead, AreTold}
use Rattle.delivery.specs.Ending.{oldest_changes}
use Rattle.delivery.proofs.WithOldest.{of_same}
use Rattle.delivery.proofs.Taking.{taken_other}
use Rattle.delivery.proofs.Rows.{same_oldest}
use Rattle.delivery.proofs.Done.{none_changed, oldest_next}

-- one district more was read
pub one_more_read : (t0 : Database) (x : DeliveryInput) (n : ℕ) (old new : TransactionView) → Keeps old.reads new.reads → AreOldestRead t0 x n old
    → IsSome (held new.reads (number_of_key t0.scale (key.Oldest (next_home x n)))) → AreOldestRead t0 x (n + 1) new
one_more_read t0 x n old new keeps before here m below = ⊎_elim
    (λ (h : m < n). still_read old.reads new.reads _ keeps (before m h))
    (λ (h : n ≤ m). let same : n ≡ m = omega (arith, h, below) in
    subst (λ i. IsSome (held new.reads (number_of_key t0.scale (key.Oldest (next_home x i))))) same here)
    (cases_lt m n)

module _ (t : Database) (x : DeliveryInput) (m : ℕ) (all : Database) where
  -- only that district's row of OLDEST changes
  others_kept : (value : Option (List ℕ)) (j : RecordKey) → Apart j ((key.Oldest (next_home x m), value) ∷ [])
      → with_oldest (after_districts t x (m + 1)) all j ≡ with_oldest (after_districts t x m) all j
  others_kept value (key.Warehouse w) apart = refl
  others_kept value (key.District k) apart = refl
  others_kept value (key.Customer k) apart = refl
  others_kept value (key.NewOrder k) apart = refl
  others_kept value (key.Order k) apart = refl
  others_kept value (key.OrderLine k) apart = refl
  others_kept value (key.Stock k) apart = refl
  others_kept value (key.Oldest k) apart =
      ap (λ a. Some (number_words a)) (same_oldest t x (m + 1) m k (taken_other t x m k (λ same. apart.0 (ap key.Oldest same))))
  others_kept value (key.Last k) apart = refl
  others_kept value (key.CustomerData k) apart = refl

-- OLDEST is written of one district more
module _ (t0 : Database) (x : DeliveryInput) (n m : ℕ) (old new : TransactionView) (orders : List DeliveredOrder) (o : Option ℕ)
    (below : m < n) (there : IsDistrictKey t0.scale (next_home x m))
    (done : AreDone t0 x n m old) (read : AreOldestRead t0 x n old) (told : AreTold t0 x n old orders)
    (d : DeliveredOrder) (taken : (get_or orders m d).order ≡ o)
    (same : new.reads ≡ old.reads) (named : DistrictKey) (is : named ≡ next_home x m)
    (written : new.writes ≡ puts_all t0.scale old.writes (oldest_changes named o))
  where
    abbrev home : DistrictKey
    home = next_home x m

    abbrev rows_with : Database → ℕ → RecordKey → Option (List ℕ)
    rows_with t i = with_oldest (after_districts t x i) (after_districts t x n)

    waits : (t : Database) → IsCandidate t0 old.reads t → waiting t home ≡ o
    waits t h =
        let f : ℕ → DeliveredOrder = λ d. record { district = d; order = waiting t (record { warehouse = x.warehouse; district = d }) } in
        let next : 1 + m ≡ m + 1 = omega arith in
        sym (ap (λ (d : DeliveredOrder). d.order) (get_or-map-range_with_len f 1 n m (m + 1) d below next))
        ∙ ap (λ (os : List DeliveredOrder). (get_or os m d).order) (told t h) ∙ taken

    rows_then : (t : Database) → IsCandidate t0 old.reads t → (w : Option ℕ) → waiting t home ≡ w
        → Holds t (puts_all t0.scale old.writes (oldest_changes home w)) (rows_with t (m + 1))
    rows_then t h None none = holds-changes t [] old.writes (rows_with t m) (rows_with t (m + 1)) (done t h) tt tt tt
        (λ j _ _. of_same (after_districts t x n) (after_districts t x (m + 1)) (after_districts t x m) j (none_changed t x m none j))
    rows_then t h (Some number) some =
        let s : t.scale ≡ t0.scale = h.of_population.scale in
        let is_home : IsDistrictKey t.scale home = subst (λ (q : Sizes). IsDistrictKey q home) (sym s) there in
        let conditions = h.numbered home is_home
        (inr (subst (λ (q : Sizes). IsSome (held old.reads (number_of_key q (key.Oldest home)))) (sym s) (read m below))) in
        let gapless : IsGapless (next_order t home) (numbers_in home t.new_orders) = (conditions.condition_2.1, conditions.condition_3) in
        subst (λ (q : Sizes). Holds t (puts_all q old.writes (oldest_changes home (Some number))) (rows_with t (m + 1))) s
        (holds-changes t (oldest_changes home (Some number)) old.writes (rows_with t m) (rows_with t (m + 1)) (done t h) (is_home, tt)
        (not_taken _ _, tt) (oldest_next t x m number some gapless, tt)
        (λ j _ apart. others_kept t x m (after_districts t x n) (Some (number_words (number + 1))) j apart))

    pub raised : AreDone t0 x n (m + 1) new
    raised t h =
        let before = subst (λ (r : ReadSetView). IsCandidate t0 r t) same h in
        subst (λ (w : WriteSetView). Holds t w (rows_with t (m + 1)))
        (ap (λ (k : DistrictKey). puts_all t0.scale old.writes (oldest_changes k o)) (sym is) ∙ sym written)
        (rows_then t before o (waits t before))
