-- One line more has its date and is added to the sum.
use Rattle.std.proofs.Common.{◌≡◌, ℕ, suc, ◌+◌, ℤ, pos, ◌+ℤ◌, List, [], ◌∷◌, Option, Some, None, refl, sym, ap, ◌∙◌, subst, arith}
use Rattle.std.specs.Option.{option_map_or}
use Rattle.std.specs.FinMap.{get}
use Rattle.tables.specs.Sizes.{Sizes}
use Rattle.tables.specs.Keys.{IsLineKey}
use Rattle.tables.specs.Maps.{column}
use Rattle.tables.specs.Database.{Database}
use Rattle.tables.specs.Records.{number_of_key}
use Rattle.tables.specs.Rows.{line_words}
use Rattle.tables.specs.NewOrder.{line_key}
use Rattle.tables.specs.Delivery.{dated}
use Rattle.tables.specs.declared.keys.OrderKey.{OrderKey}
use Rattle.tables.specs.declared.keys.LineKey.{LineKey}
use Rattle.tables.specs.declared.rows.OrderLine.{OrderLine}
use Rattle.tables.specs.declared.delivery.DeliveryInput.{DeliveryInput}
use Rattle.tables.specs.declared.records.RecordKey.{RecordKey}
use Rattle.tables.specs.declared.records.RecordKey.TheVariants as key
use Rattle.readset.specs.Reads.{ReadSetView}
use Rattle.readset.specs.Writes.{WriteSetView, puts}
use Rattle.readset.specs.Changes.{Holds}
use Rattle.readset.specs.Explains.{IsCandidate}
use Rattle.readset.proofs.HoldsChanges.{holds-changes, not_taken}
use Rattle.readset.specs.Transaction.{TransactionView, AtAll, ReadsMore}
use Rattle.readset.proofs.UnderWay.{candidate_still}
use Rattle.delivery.specs.Steps.{next_key, after_districts, with_dates, with_oldest, amount_up_to, AreDated}
use Rattle.delivery.proofs.WithOldest.{of_other}
use Rattle.delivery.proofs.Dated.{dated_line, dated_others, none_dated}

amount_next : (t : Database) (k : OrderKey) (m : ℕ) → amount_up_to t k (m + 1) ≡ amount_up_to t k m +ℤ column (λ r. r.amount) t.lines (line_key k (m + 1))
amount_next t k m = let next : suc m ≡ m + 1 = omega arith in
    subst (λ i. amount_up_to t k i ≡ amount_up_to t k m +ℤ column (λ r. r.amount) t.lines (line_key k i)) next refl

module _ (t0 : Database) (x : DeliveryInput) (k : OrderKey) (m : ℕ) (more : TransactionView) where
  -- the rows with these dates, and OLDEST as it was
  abbrev rows_at : Database → ℕ → ℕ → ℕ → RecordKey → Option (List ℕ)
  rows_at t n o i = with_oldest (after_districts t x 0) (with_dates t x n (next_key x n o) i)

  module _ (n : ℕ) (old : TransactionView) (sum : ℤ) (is_key : IsLineKey t0.scale (line_key k (m + 1))) (named : k ≡ next_key x n k.order)
      (so_far : AreDated t0 x n k.order m old sum) (on : ReadsMore 1 old more)
    where
      abbrev next_line : LineKey
      next_line = line_key (next_key x n k.order) (m + 1)

      earlier : AtAll t0 more (λ t. Holds t more.writes (rows_at t n k.order m))
      earlier t h = subst (λ (w : WriteSetView). Holds t w (rows_at t n k.order m)) (sym on.writes)
          (so_far.holds t (candidate_still t0 old more 1 on t h))

      same_line : (t : Database) → get t.lines next_line ≡ get t.lines (line_key k (m + 1))
      same_line t = ap (λ (j : OrderKey). get t.lines (line_key j (m + 1))) (sym named)

      -- the sum, of which this line's amount is the last
      sum_next : (amount : ℤ) → (t : Database) → IsCandidate t0 more.reads t → amount ≡ column (λ r. r.amount) t.lines (line_key k (m + 1))
          → amount_up_to t (next_key x n k.order) (m + 1) ≡ sum +ℤ amount
      sum_next amount t h last =
          amount_next t (next_key x n k.order) m
          ∙ (λ i. so_far.sum_is t (candidate_still t0 old more 1 on t h) i +ℤ column (λ r. r.amount) t.lines (line_key (sym named i) (m + 1)))
          ∙ ap (λ a. sum +ℤ a) (sym last)

      -- a line that isn't there
      pub none_there : AtAll t0 more (λ t. get t.lines (line_key k (m + 1)) ≡ None) → AreDated t0 x n k.order (m + 1) more (sum +ℤ pos 0)
      none_there absent = record {
        holds = λ t h. holds-changes t [] more.writes (rows_at t n k.order m)
            (rows_at t n k.order (m + 1)) (earlier t h) tt tt tt
            (λ j _ _. of_other (after_districts t x 0) (with_dates t x n (next_key x n k.order) (m + 1)) (with_dates t x n (next_key x n k.order) m) j (none_dated t x n k.order m (same_line t ∙ absent t h) j));
        sum_is = λ t h. sum_next (pos 0) t h (sym (ap (λ (w : Option OrderLine). option_map_or (λ r. r.amount) w (pos 0)) (absent t h)));
      }

      -- and one that is
      module _ (r : OrderLine) (read : AtAll t0 more (λ t. get t.lines (line_key k (m + 1)) ≡ Some r))
          (put : TransactionView) (same_reads : put.reads ≡ more.reads)
          (puts_it : put.writes ≡ puts more.writes (number_of_key t0.scale (key.OrderLine (line_key k (m + 1)))) (Some (line_words (dated x r))))
        where
          before : (t : Database) → IsCandidate t0 put.reads t → IsCandidate t0 more.reads t
          before t h = subst (λ (r : ReadSetView). IsCandidate t0 r t) same_reads h

          held_rows : (t : Database) → IsCandidate t0 more.reads t
              → Holds t (puts more.writes (number_of_key t0.scale (key.OrderLine (line_key k (m + 1)))) (Some (line_words (dated x r))))
              (rows_at t n k.order (m + 1))
          held_rows t h =
              let s : t.scale ≡ t0.scale = h.of_population.scale in
              let there : IsLineKey t.scale (line_key k (m + 1)) = subst (λ (q : Sizes). IsLineKey q (line_key k (m + 1))) (sym s) is_key in
              let held : Holds t (puts more.writes (number_of_key t.scale (key.OrderLine next_line)) (Some (line_words (dated x r))))
              (rows_at t n k.order (m + 1)) =
              holds-changes t ((key.OrderLine next_line, Some (line_words (dated x r))) ∷ []) more.writes
              (rows_at t n k.order m) (rows_at t n k.order (m + 1)) (earlier t h)
              (subst (λ (j : OrderKey). IsLineKey t.scale (line_key j (m + 1))) named there, tt)
              (not_taken (key.OrderLine next_line) (line_words (dated x r)), tt)
              (dated_line t x n k.order m r (same_line t ∙ read t h))
              (λ j _ apart. of_other (after_districts t x 0) (with_dates t x n (next_key x n k.order) (m + 1)) (with_dates t x n (next_key x n k.order) m) j
              (dated_others t x n k.order m r j apart)) in
              let record_is : number_of_key t.scale (key.OrderLine next_line) ≡ number_of_key t0.scale (key.OrderLine (line_key k (m + 1))) =
              λ i. number_of_key (s i) (key.OrderLine (line_key (sym named i) (m + 1))) in
              subst (λ (w : WriteSetView). Holds t w (rows_at t n k.order (m + 1)))
              (λ i. puts more.writes (record_is i) (Some (line_words (dated x r)))) held

          pub one_more : AreDated t0 x n k.order (m + 1) put (sum +ℤ r.amount)
          one_more = record {
            holds = λ t h. subst (λ (w : WriteSetView). Holds t w (rows_at t n k.order (m + 1))) (sym puts_it)
                (held_rows t (before t h));
            sum_is = λ t h.
                let now = before t h in
                sum_next r.amount t now (sym (ap (λ (w : Option OrderLine). option_map_or (λ r. r.amount) w (pos 0)) (read t now)));
          }
