-- The rows that an entry adds to HISTORY are those that its log file says.
use Rattle.std.proofs.Common.{◌≡◌, inl, inr, ℕ, Bool, true, false, true≢false, cond, List, [], ◌∷◌, ◌++◌, map, Option, Some, None, refl, ap, ◌∙◌, arith}
use Rattle.std.specs.Prelude.{flat_map, ◌==◌}
use Rattle.std.specs.List.{All, filter}
use Rattle.std.proofs.lemmas.Grind.{flat_map-append}
use Rattle.std.proofs.lemmas.Int.{ints}
use Rattle.std.proofs.lemmas.List.{append-nil}
use Rattle.std.proofs.lemmas.List.Elements.{All-head}
use Rattle.tables.specs.Sizes.{Sizes, IsScale}
use Rattle.tables.specs.Records.{table_at, table_number}
use Rattle.tables.specs.WellFormed.{IsHistoryRow}
use Rattle.tables.specs.declared.rows.History.{History}
use Rattle.tables.specs.declared.records.Table.{Table}
use Rattle.tables.specs.declared.records.Table.TheVariants as table
use Rattle.readset.specs.Writes.{added}
use Rattle.book.specs.Loggable.{IsLoggable}
use Rattle.book.specs.declared.entry.Entry.{Entry}
use Rattle.log_text.specs.declared.write.Write.{Write}
use Rattle.log_text.specs.declared.write.Value.{Value}
use Rattle.log_entries.specs.Logged.{write_at, history_words, history_write, is_before_history, is_behind_history, logged_entry}
use Rattle.recover_found.specs.Rebuilt.{history_of_words, rows_in, added_by}
use Rattle.recover_found.proofs.Elements.{Has}
use Rattle.recover_laws.proofs.Logged.{no_history, distinct}

-- a write of another table adds none
no_rows : (t : Table) (v : Value) → (table_number t == 4) ≡ false → rows_in t v ≡ []
no_rows table.Warehouse v h = refl
no_rows table.District v h = refl
no_rows table.Customer v h = refl
no_rows table.History v h = absurd (true≢false h)
no_rows table.NewOrder v h = refl
no_rows table.Order v h = refl
no_rows table.OrderLine v h = refl
no_rows table.Item v h = refl
no_rows table.Stock v h = refl
no_rows table.Oldest v h = refl
no_rows table.Last v h = refl
no_rows table.CustomerData v h = refl

abbrev rows_of : Write → List History
rows_of w = rows_in w.table w.value

-- a row comes back from its words
row_back : (s : Sizes) (r : History) → IsHistoryRow s r → history_of_words (history_words r) ≡ r
row_back s r h = ap (λ a. record r { amount = a }) (omega (arith, ints))

module _ (s : Sizes) (scale : IsScale s) (e : Entry) (ok : IsLoggable s e) where
  none : (v : ℕ × Option (List ℕ)) → Has e.writes.values v → rows_of (write_at s v) ≡ []
  none v among = no_rows (table_at s v.0) (write_at s v).value (no_history s scale e ok v.0 (ok.records v.0 v.1 (distinct s scale e ok v among)))

  none_of : (p : ℕ × Option (List ℕ) → Bool) (es : List (ℕ × Option (List ℕ))) → ((v : ℕ × Option (List ℕ)) → Has es v → Has e.writes.values v)
      → flat_map rows_of (map (write_at s) (filter p es)) ≡ []
  none_of p [] among = refl
  none_of p (v ∷ es) among =
      let rest : flat_map rows_of (map (write_at s) (filter p es)) ≡ [] = none_of p es (λ u h. among u (inr h)) in
      elim (p v) as (λ b. flat_map rows_of (map (write_at s) (cond b (v ∷ filter p es) (filter p es))) ≡ []) [
        | true ↦ (λ i. none v (among v (inl refl)) i ++ rest i)
        | false ↦ rest
      ]

  row_added : (row : Option History) → All (IsHistoryRow s) (added row) → flat_map rows_of (map history_write (added row)) ≡ added row
  row_added None h = refl
  row_added (Some r) h = ap (λ (q : History). q ∷ []) (row_back s r (All-head (IsHistoryRow s) r [] h))

  pub added_rows : All (IsHistoryRow s) (added e.writes.history_row) → added_by (logged_entry s e) ≡ added e.writes.history_row
  added_rows h =
      let first = map (write_at s) (filter (is_before_history s) e.writes.values) in
      let second = map history_write (added e.writes.history_row) in
      let third = map (write_at s) (filter (is_behind_history s) e.writes.values) in
      flat_map-append rows_of first (second ++ third)
      ∙ ap (λ (l : List History). l ++ flat_map rows_of (second ++ third)) (none_of (is_before_history s) e.writes.values (λ v m. m))
      ∙ flat_map-append rows_of second third
      ∙ ap (λ (l : List History). flat_map rows_of second ++ l) (none_of (is_behind_history s) e.writes.values (λ v m. m))
      ∙ append-nil (flat_map rows_of second)
      ∙ row_added e.writes.history_row h
