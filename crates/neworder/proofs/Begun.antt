-- An order that is opened has D_NEXT_O_ID for its number, and none of its lines is taken yet.
use Rattle.std.proofs.Common.{◌≡◌, inl, ℕ, ◌≤◌, [], Some, IsSome, refl, sym, subst}
use Rattle.std.proofs.lemmas.List.Elements.{All-nil}
use Rattle.std.specs.Option.{option_map}
use Rattle.std.specs.FinMap.{get}
use Rattle.tables.specs.Sizes.{Sizes, IsNumber}
use Rattle.tables.specs.Keys.{IsDistrictKey}
use Rattle.tables.specs.Database.{Database}
use Rattle.tables.specs.Records.{number_of_key}
use Rattle.tables.specs.Rows.{row_at}
use Rattle.tables.specs.NewOrder.{IsRequestedLine, IsNewOrder, HasNumber, home, new_key}
use Rattle.tables.specs.declared.keys.OrderKey.{OrderKey}
use Rattle.tables.specs.declared.new_order.NewOrderInput.{NewOrderInput}
use Rattle.tables.specs.declared.records.RecordKey.TheVariants as key
use Rattle.rows.specs.Columns.{district_columns}
use Rattle.rows.specs.declared.columns.DistrictColumns.{DistrictColumns}
use Rattle.rows.specs.Laws.{found_row}
use Rattle.rows.proofs.Found.{column_read}
use Rattle.readset.specs.Reads.{held, Keeps}
use Rattle.readset.specs.Writes.{WriteSetView, no_writes}
use Rattle.readset.specs.Changes.{Holds, puts_all}
use Rattle.readset.specs.Explains.{IsCandidate}
use Rattle.readset.specs.Transaction.{TransactionView, AtAll}
use Rattle.readset.proofs.HoldsChanges.{holds_first}
use Rattle.readset.proofs.MoreReads.{candidate_before}
use Rattle.neworder.specs.Steps.{after_lines, numbered_columns, opening_changes, with_last, AreTaken}
use Rattle.neworder.specs.Opening.{IsHomeTaken}
use Rattle.neworder.proofs.Opened.{all_changes}
use Rattle.neworder.proofs.HoldsSteps.{holds_opened}

module _ (t0 : Database) (x : NewOrderInput) (c : DistrictColumns) (valid : IsNewOrder t0.scale x) where
  -- what was read of the order's district is so at all tables at which it may have been read
  pub home_taken : (under_way : TransactionView) → AtAll t0 under_way (λ t. option_map district_columns (get t.districts (home x)) ≡ Some c)
      → IsSome (held under_way.reads (number_of_key t0.scale (key.District (home x)))) → AtAll t0 under_way (IsHomeTaken x c)
  home_taken under_way found is_held t h =
      let s : t.scale ≡ t0.scale = h.of_population.scale in
      let v : IsNewOrder t.scale x = subst (λ (q : Sizes). IsNewOrder q x) (sym s) valid in
      let at_home : IsDistrictKey t.scale (home x) = (v.warehouse, v.district) in
      record {
        columns = found t h;
        next = column_read district_columns (λ (d : DistrictColumns). d.next_order) 0 (get t.districts (home x)) c (found t h);
        condition_2 = (h.numbered (home x) at_home
            (inl (subst (λ (q : Sizes). IsSome (held under_way.reads (number_of_key q (key.District (home x))))) (sym s) is_held))).condition_2;
      }

  -- an order is opened by the writes of its four records
  module _ (within : IsNumber t0.scale.orders c.next_order) (first : TransactionView) (homes : AtAll t0 first (IsHomeTaken x c)) where
    abbrev k : OrderKey
    k = record { warehouse = x.warehouse; district = x.district; order = c.next_order }

    named : (t : Database) → IsCandidate t0 first.reads t → new_key t x ≡ k
    named t h = let e = (homes t h).next in λ i. record { warehouse = x.warehouse; district = x.district; order = e i }

    held_rows : (t : Database) → IsCandidate t0 first.reads t
        → Holds t (puts_all t0.scale no_writes (all_changes x k (numbered_columns c))) (row_at (after_lines t x [] []))
    held_rows t h =
        let s : t.scale ≡ t0.scale = h.of_population.scale in
        let v : IsNewOrder t.scale x = subst (λ (q : Sizes). IsNewOrder q x) (sym s) valid in
        let taken = homes t h in
        let row = found_row district_columns (get t.districts (home x)) c taken.columns in
        let e : new_key t x ≡ k = named t h in
        let number : HasNumber t x = subst (λ (q : ℕ × Sizes). q.0 ≤ q.1.orders) (λ i. (sym taken.next i, sym s i)) within.1 in
        subst (λ (writes : WriteSetView). Holds t writes (row_at (after_lines t x [] [])))
        (λ i. puts_all (s i) no_writes (all_changes x (e i) (numbered_columns (row.2 i))))
        (holds_opened t x no_writes row.0 h.well_formed taken.condition_2 number (v.warehouse, v.district) (v.warehouse, v.district, v.customer) row.1
        (holds_first t))

    pub opened_taken : (last : TransactionView) → Keeps first.reads last.reads
        → last.writes ≡ puts_all t0.scale no_writes (opening_changes x k (numbered_columns c)) → AreTaken t0 x k [] [] (with_last t0 x k last) []
    opened_taken last keeps written = record {
      buyer = (valid.warehouse, valid.district, valid.customer);
      requested = All-nil (IsRequestedLine t0.scale);
      at_order = λ t h. named t (candidate_before t0 first.reads last.reads t keeps h);
      holds = λ t h. subst (λ (w : WriteSetView). Holds t (with_last t0 x k (record { reads = last.reads; writes = w })).writes
          (row_at (after_lines t x [] []))) (sym written)
          (held_rows t (candidate_before t0 first.reads last.reads t keeps h));
      supplied = λ t h. refl;
    }
