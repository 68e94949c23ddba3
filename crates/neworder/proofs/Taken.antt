-- Each step of a New-Order keeps how far it has come: a line's row, and all that lines draw. That the order is its buyer's
-- last one is written at the end.
use Rattle.std.proofs.Common.{Result, Ok, Err, OnOk}
use Rattle.std.proofs.Common.{◌≡◌, ◌≢◌, ◌+◌, ◌≤◌, ℕ, List, [], ◌∷◌, ◌++◌, length, All, ℤ, Option, Some, IsSome, sym, ap, ◌∙◌, subst, arith}
use Rattle.tables.specs.Sizes.{Sizes, IsNumber}
use Rattle.tables.specs.Keys.{IsOrderKey, IsStockKey}
use Rattle.tables.specs.Database.{Database}
use Rattle.tables.specs.Records.{number_of_key, IsRecordKey}
use Rattle.tables.specs.Rows.{row_at, line_words, number_words}
use Rattle.tables.specs.NewOrder.{IsRequestedLine, buyer, new_key, line_key, line_amount, line_row, supplied_lines}
use Rattle.tables.specs.declared.limits.TheConstants.{MAX_ORDER_LINES}
use Rattle.tables.specs.declared.keys.OrderKey.{OrderKey}
use Rattle.tables.specs.declared.keys.StockKey.{StockKey}
use Rattle.tables.specs.declared.keys.LineKey.{LineKey}
use Rattle.tables.specs.declared.rows.OrderLine.{OrderLine}
use Rattle.tables.specs.declared.new_order.RequestedLine.{RequestedLine}
use Rattle.tables.specs.declared.new_order.NewOrderInput.{NewOrderInput}
use Rattle.tables.specs.declared.new_order.SuppliedLine.{SuppliedLine}
use Rattle.tables.specs.declared.records.RecordKey.{RecordKey}
use Rattle.tables.specs.declared.records.RecordKey.TheVariants as key
use Rattle.readset.specs.Reads.{ReadSetView}
use Rattle.readset.specs.Writes.{WriteSetView, puts}
use Rattle.readset.specs.Changes.{Holds, puts_all}
use Rattle.readset.specs.Explains.{IsCandidate}
use Rattle.readset.specs.Transaction.{TransactionView, AtAll, ReadsMore}
use Rattle.readset.proofs.HoldsChanges.{holds_later}
use Rattle.readset.proofs.UnderWay.{candidate_still}
use Rattle.neworder.specs.Steps.{after_lines, with_last, AreTaken}
use Rattle.neworder.specs.Held.{keys_of, AreHeldStocks, stock_changes}
use Rattle.neworder.specs.declared.draws.HeldStock.{HeldStock}
use Rattle.neworder.proofs.HeldStocks.{stock_keys, holds_stocks, no_stock}
use Rattle.neworder.proofs.HoldsSteps.{holds_lined}
use Rattle.neworder.proofs.Supplied.{same_amount}

-- what follows once a write has had its memory
pub once_put : {X E P Q : Type 0} (result : Result X E) → OnOk result P → (P → Q) → OnOk result Q
once_put (Ok x) put then = then put
once_put (Err e) put then = tt

not_a_line : (x : NewOrderInput) (k : LineKey) → key.Last (buyer x) ≢ key.OrderLine k
not_a_line x k e = absurd cc

not_a_stock : (x : NewOrderInput) (k : StockKey) → key.Last (buyer x) ≢ key.Stock k
not_a_stock x k e = absurd cc

module _ (t0 : Database) (x : NewOrderInput) (order : OrderKey) (rows draws : List RequestedLine) (most : ℕ) (old read : TransactionView)
    (told : List SuppliedLine) (taken : AreTaken t0 x order rows draws (with_last t0 x order old) told) (more : ReadsMore most old read)
  where
    -- what is written at the end
    abbrev last_number : ℕ
    last_number = number_of_key t0.scale (key.Last (buyer x))

    abbrev last_words : Option (List ℕ)
    last_words = Some (number_words order.order)

    before : (t : Database) → IsCandidate t0 read.reads t → IsCandidate t0 old.reads t
    before t h = candidate_still t0 old read most more t h

    -- the read changes no row
    still : (t : Database) → IsCandidate t0 read.reads t → Holds t (puts read.writes last_number last_words) (row_at (after_lines t x rows draws))
    still t h = subst (λ (w : WriteSetView). Holds t (puts w last_number last_words) (row_at (after_lines t x rows draws))) (sym more.writes)
        (taken.holds t (before t h))

    -- by the scale of these tables, and back
    scaled : (t : Database) → IsCandidate t0 read.reads t
        → Holds t (puts read.writes (number_of_key t.scale (key.Last (buyer x))) last_words) (row_at (after_lines t x rows draws))
    scaled t h = subst (λ (q : Sizes). Holds t (puts read.writes (number_of_key q (key.Last (buyer x))) last_words) (row_at (after_lines t x rows draws)))
        (sym h.of_population.scale) (still t h)

    at_buyer : (t : Database) → IsCandidate t0 read.reads t → IsRecordKey t.scale (key.Last (buyer x))
    at_buyer t h = subst (λ (q : Sizes). IsRecordKey q (key.Last (buyer x))) (sym h.of_population.scale) taken.buyer

    -- once that is written, too
    pub last_written : (last : TransactionView) → last.reads ≡ read.reads → last.writes ≡ puts read.writes last_number last_words
        → AreTaken t0 x order rows draws last told
    last_written last reads written = record {
      buyer = taken.buyer;
      requested = taken.requested;
      at_order = λ t h. taken.at_order t (before t (back t h));
      holds = λ t h. subst (λ (w : WriteSetView). Holds t w (row_at (after_lines t x rows draws))) (sym written) (still t (back t h));
      supplied = λ t h. taken.supplied t (before t (back t h));
    }
      where
        back : (t : Database) → IsCandidate t0 last.reads t → IsCandidate t0 read.reads t
        back t h = subst (λ (r : ReadSetView). IsCandidate t0 r t) reads h

    -- a line more has its row
    module _ (l : RequestedLine) (at_order : IsOrderKey t0.scale order) (at_line : IsNumber MAX_ORDER_LINES (length rows + 1)) where
      abbrev row_key : LineKey
      row_key = line_key order (length rows + 1)

      pub row_added : (amount : ℤ) → amount ≡ line_amount t0 l
          → (row : OrderLine) → ((t : Database) → amount ≡ line_amount t l → row ≡ line_row t l)
          → (last : TransactionView) → last.reads ≡ read.reads
          → last.writes ≡ puts read.writes (number_of_key t0.scale (key.OrderLine row_key)) (Some (line_words row))
          → AreTaken t0 x order (rows ++ l ∷ []) draws (with_last t0 x order last) told
      row_added amount priced row are last reads written = record {
        buyer = taken.buyer;
        requested = taken.requested;
        at_order = λ t h. taken.at_order t (before t (back t h));
        holds = λ t h. subst (λ (w : WriteSetView). Holds t (puts w last_number last_words) (row_at (after_lines t x (rows ++ l ∷ []) draws)))
            (sym written) (held_row t (back t h));
        supplied = λ t h. taken.supplied t (before t (back t h));
      }
        where
          back : (t : Database) → IsCandidate t0 last.reads t → IsCandidate t0 read.reads t
          back t h = subst (λ (r : ReadSetView). IsCandidate t0 r t) reads h

          held_row : (t : Database) → IsCandidate t0 read.reads t
              → Holds t (puts (puts read.writes (number_of_key t0.scale (key.OrderLine row_key)) (Some (line_words row))) last_number last_words)
              (row_at (after_lines t x (rows ++ l ∷ []) draws))
          held_row t h =
              let s : t.scale ≡ t0.scale = h.of_population.scale in
              let is : new_key t x ≡ order = taken.at_order t (before t h) in
              let at_key : IsOrderKey t.scale (new_key t x) = subst (λ (q : Sizes × OrderKey). IsOrderKey q.0 q.1) (λ i. (sym s i, sym is i)) at_order in
              let row_is : line_row t l ≡ row = sym (are t (priced ∙ sym (same_amount t0 t l h.of_population.items))) in
              let own : LineKey = line_key (new_key t x) (length rows + 1) in
              subst (λ (w : WriteSetView). Holds t w (row_at (after_lines t x (rows ++ l ∷ []) draws)))
              (λ i. puts (puts read.writes (number_of_key (s i) (key.OrderLine (line_key (is i) (length rows + 1)))) (Some (line_words (row_is i))))
              (number_of_key (s i) (key.Last (buyer x))) last_words)
              (holds_later t (key.Last (buyer x)) last_words ((key.OrderLine own, Some (line_words (line_row t l))) ∷ []) read.writes
              (row_at (after_lines t x (rows ++ l ∷ []) draws)) (at_buyer t h) ((at_key.0, at_key.1, at_key.2, at_line), tt) (not_a_line x own, tt)
              (holds_lined t x (puts read.writes (number_of_key t.scale (key.Last (buyer x))) last_words) rows draws l at_key at_line (scaled t h)))

module _ (t0 : Database) (x : NewOrderInput) (order : OrderKey) (rows : List RequestedLine) (most : ℕ) (old read : TransactionView)
    (taken : AreTaken t0 x order rows [] (with_last t0 x order old) []) (more : ReadsMore most old read)
  where
    -- the stocks are written, once lines have drawn
    pub stocks_written : (draws : List RequestedLine) (told : List SuppliedLine) (hs : List HeldStock) → AreHeldStocks t0 x draws read hs
        → All (IsRequestedLine t0.scale) draws → AtAll t0 read (λ t. supplied_lines t x.warehouse t.stock draws ≡ told)
        → (last : TransactionView) → last.reads ≡ read.reads → last.writes ≡ puts_all t0.scale read.writes (stock_changes hs)
        → AreTaken t0 x order rows draws (with_last t0 x order last) told
    stocks_written draws told hs held requested supplied last reads written = record {
      buyer = taken.buyer;
      requested = requested;
      at_order = λ t h. taken.at_order t (candidate_still t0 old read most more t (back t h));
      holds = λ t h. subst (λ (w : WriteSetView). Holds t (puts w (number_of_key t0.scale (key.Last (buyer x))) (Some (number_words order.order)))
          (row_at (after_lines t x rows draws))) (sym written) (held_rows t (back t h));
      supplied = λ t h. supplied t (back t h);
    }
      where
        back : (t : Database) → IsCandidate t0 last.reads t → IsCandidate t0 read.reads t
        back t h = subst (λ (r : ReadSetView). IsCandidate t0 r t) reads h

        held_rows : (t : Database) → IsCandidate t0 read.reads t
            → Holds t (puts (puts_all t0.scale read.writes (stock_changes hs)) (number_of_key t0.scale (key.Last (buyer x))) (Some (number_words order.order)))
            (row_at (after_lines t x rows draws))
        held_rows t h =
            let s : t.scale ≡ t0.scale = h.of_population.scale in
            let there : All (IsStockKey t.scale) (keys_of hs) = subst (λ (q : Sizes). All (IsStockKey q) (keys_of hs)) (sym s) held.there in
            subst (λ (q : Sizes). Holds t (puts (puts_all q read.writes (stock_changes hs)) (number_of_key q (key.Last (buyer x)))
            (Some (number_words order.order))) (row_at (after_lines t x rows draws))) s
            (holds_later t (key.Last (buyer x)) (Some (number_words order.order)) (stock_changes hs) read.writes (row_at (after_lines t x rows draws))
            (at_buyer t0 x order rows [] most old read [] taken more t h) (stock_keys t x rows draws hs there)
            (no_stock (key.Last (buyer x)) hs (not_a_stock x))
            (holds_stocks t x rows draws hs there (puts read.writes (number_of_key t.scale (key.Last (buyer x))) (Some (number_words order.order)))
            held.covers (held.rows t h) (scaled t0 x order rows [] most old read [] taken more t h)))
