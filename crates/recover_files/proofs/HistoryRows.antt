-- The row of HISTORY that the writes of an entry add: lawful ones add one at most.
use Rattle.std.proofs.Common.{◌≡◌, ℕ, ◌+◌, ◌*◌, ◌^◌, ◌<◌, ◌≤◌, true, false, ◌&&◌, not, Option, Some, None, List, [], ◌∷◌, ◌++◌, get_or, length, take, drop, flat_map, refl, sym, ap, ◌∙◌, subst, arith, add-one, drop-cons}
use Rattle.std.specs.Prelude.{slice_get, ◌==◌, nat_lt, nat_le}
use Rattle.std.specs.List.{list_all, count_by}
use Rattle.std.specs.Option.{option_to_list}
use Rattle.std.proofs.lemmas.Bool.Decides.{nat_tests}
use Rattle.std.proofs.lemmas.List.{take-append-drop}
use Rattle.std.proofs.lemmas.List.Concat.{flat_map-cons, flat_map-append}
use Rattle.tables.specs.Sizes.{Sizes}
use Rattle.tables.specs.Records.{table_number}
use Rattle.tables.specs.declared.limits.TheConstants.{MAX_WRITES}
use Rattle.tables.specs.declared.records.Table.{Table}
use Rattle.tables.specs.declared.records.Table.TheVariants as table
use Rattle.tables.specs.declared.rows.History.{History}
use Rattle.log_text.specs.Writes.{places, rank, is_history, is_value, is_write, rise_from, are_writes}
use Rattle.log_text.specs.declared.write.Write.{Write}
use Rattle.log_text.specs.declared.write.Value.{Value}
use Rattle.log_text.specs.declared.write.Value.TheVariants.{Absent, Columns, Text}
use Rattle.log_text.proofs.Fitting.{and_split}
use Rattle.recover_found.specs.Rebuilt.{history_of_words, rows_in}
use Rattle.recover_files.specs.Parts.{row_added}

abbrev pub rows_of : Write → List History
rows_of w = rows_in w.table w.value

-- the first write that adds a row
pub first_row : (writes : List Write) (i : ℕ) (d : Write) (words : List ℕ) → i < length writes → flat_map rows_of (take i writes) ≡ []
    → (get_or writes i d).table ≡ table.History → (get_or writes i d).value ≡ Columns words → row_added writes ≡ Some (history_of_words words)
first_row writes i d words less none of some =
    let w : Write = get_or writes i d in
    let parts : take i writes ++ w ∷ drop (i + 1) writes ≡ writes = rw (add-one, sym (drop-cons writes i d less)) (take-append-drop i writes) in
    let here : rows_of w ≡ history_of_words words ∷ [] = (λ j. rows_in (of j) (some j)) in
    let all : flat_map rows_of writes ≡ history_of_words words ∷ flat_map rows_of (drop (i + 1) writes)
    = ap (flat_map rows_of) (sym parts) ∙ flat_map-append rows_of (take i writes) (w ∷ drop (i + 1) writes)
    ∙ (λ j. none j ++ (flat_map-cons rows_of w (drop (i + 1) writes) ∙ ap (λ l. l ++ flat_map rows_of (drop (i + 1) writes)) here) j) in
    ap (λ (l : List History). slice_get l 0) all

-- only writes of HISTORY add rows
none_beside : (t : Table) (o : Value) → (table_number t == 4) ≡ false → rows_in t o ≡ []
none_beside table.Warehouse o h = refl
none_beside table.District o h = refl
none_beside table.Customer o h = refl
none_beside table.History o h = absurd (Rattle.std.proofs.Common.true≢false h)
none_beside table.NewOrder o h = refl
none_beside table.Order o h = refl
none_beside table.OrderLine o h = refl
none_beside table.Item o h = refl
none_beside table.Stock o h = refl
none_beside table.Oldest o h = refl
none_beside table.Last o h = refl
none_beside table.CustomerData o h = refl

-- and each of these adds one at most
one_at_most : (t : Table) (o : Value) → rows_in t o ≡ option_to_list (slice_get (rows_in t o) 0)
one_at_most table.History (Columns words) = refl
one_at_most table.History Absent = refl
one_at_most table.History (Text text) = refl
one_at_most table.Warehouse o = refl
one_at_most table.District o = refl
one_at_most table.Customer o = refl
one_at_most table.NewOrder o = refl
one_at_most table.Order o = refl
one_at_most table.OrderLine o = refl
one_at_most table.Item o = refl
one_at_most table.Stock o = refl
one_at_most table.Oldest o = refl
one_at_most table.Last o = refl
one_at_most table.CustomerData o = refl

-- HISTORY has the one place 0
at_place_0 : (s : Sizes) (t : Table) (p : ℕ) → (table_number t == 4) ≡ true → nat_lt p (places s t) ≡ true → p ≡ 0
at_place_0 s table.History p h less = grind (arith, nat_tests)
at_place_0 s table.Warehouse p h less = absurd (Rattle.std.proofs.Common.true≢false (sym h))
at_place_0 s table.District p h less = absurd (Rattle.std.proofs.Common.true≢false (sym h))
at_place_0 s table.Customer p h less = absurd (Rattle.std.proofs.Common.true≢false (sym h))
at_place_0 s table.NewOrder p h less = absurd (Rattle.std.proofs.Common.true≢false (sym h))
at_place_0 s table.Order p h less = absurd (Rattle.std.proofs.Common.true≢false (sym h))
at_place_0 s table.OrderLine p h less = absurd (Rattle.std.proofs.Common.true≢false (sym h))
at_place_0 s table.Item p h less = absurd (Rattle.std.proofs.Common.true≢false (sym h))
at_place_0 s table.Stock p h less = absurd (Rattle.std.proofs.Common.true≢false (sym h))
at_place_0 s table.Oldest p h less = absurd (Rattle.std.proofs.Common.true≢false (sym h))
at_place_0 s table.Last p h less = absurd (Rattle.std.proofs.Common.true≢false (sym h))
at_place_0 s table.CustomerData p h less = absurd (Rattle.std.proofs.Common.true≢false (sym h))

module _ (s : Sizes) where
  -- the rank of a write of HISTORY
  of_history : (w : Write) → is_write s w ≡ true → is_history w ≡ true → rank w ≡ 4 * 2 ^ 32
  of_history w is h =
      let place : w.place ≡ 0 = at_place_0 s w.table w.place h (and_split (nat_lt w.place (places s w.table)) (is_value s w.table w.value) is).0 in
      let number : table_number w.table ≡ 4 = grind (arith, nat_tests) in
      (λ i. number i * 2 ^ 32 + place i)

  none_later : (least : ℕ) (ws : List Write) → 4 * 2 ^ 32 < least → list_all (is_write s) ws ≡ true → rise_from least ws ≡ true → flat_map rows_of ws ≡ []
  none_later least [] more are rise = refl
  none_later least (w ∷ ws) more are rise =
      let each = and_split (is_write s w) (list_all (is_write s) ws) are in
      let up = and_split (nat_le least (rank w)) (rise_from (rank w + 1) ws) rise in
      let high : least ≤ rank w = (let h = up.0 in grind (arith, nat_tests)) in
      let other : is_history w ≡ false =
      elim (is_history w) as (λ b. is_history w ≡ b → is_history w ≡ false) [
        | true ↦ λ t. absurd (omega (arith, high, more, of_history w each.0 t))
        | false ↦ λ f. f
      ] refl in
      flat_map-cons rows_of w ws
      ∙ (λ j. none_beside w.table w.value other j ++ none_later (rank w + 1) ws (omega (arith, high, more)) each.1 up.1 j)

  one_in : (least : ℕ) (ws : List Write) → list_all (is_write s) ws ≡ true → rise_from least ws ≡ true → flat_map rows_of ws ≡ option_to_list (row_added ws)
  one_in least [] are rise = refl
  one_in least (w ∷ ws) are rise =
      let each = and_split (is_write s w) (list_all (is_write s) ws) are in
      let up = and_split (nat_le least (rank w)) (rise_from (rank w + 1) ws) rise in
      elim (is_history w) as (λ b. is_history w ≡ b → flat_map rows_of (w ∷ ws) ≡ option_to_list (row_added (w ∷ ws))) [
        | true ↦ λ t.
            let rest = none_later (rank w + 1) ws (omega (arith, of_history w each.0 t)) each.1 up.1 in
            let whole : flat_map rows_of (w ∷ ws) ≡ rows_of w
            = flat_map-cons rows_of w ws ∙ ap (λ l. rows_of w ++ l) rest ∙ Rattle.std.proofs.Common.append-nil (rows_of w) in
            whole ∙ one_at_most w.table w.value ∙ sym (ap (λ (l : List History). option_to_list (slice_get l 0)) whole)
        | false ↦ λ f.
            let whole : flat_map rows_of (w ∷ ws) ≡ flat_map rows_of ws
            = flat_map-cons rows_of w ws ∙ ap (λ l. l ++ flat_map rows_of ws) (none_beside w.table w.value f) in
            whole ∙ one_in (rank w + 1) ws each.1 up.1 ∙ sym (ap (λ (l : List History). option_to_list (slice_get l 0)) whole)
      ] refl

  pub one_row : (ws : List Write) → are_writes s ws ≡ true → flat_map rows_of ws ≡ option_to_list (row_added ws)
  one_row ws lawful =
      let all = and_split (list_all (is_write s) ws) (rise_from 0 ws && nat_le (count_by (λ w. not (is_history w)) ws) MAX_WRITES) lawful in
      one_in 0 ws all.0 (and_split (rise_from 0 ws) (nat_le (count_by (λ w. not (is_history w)) ws) MAX_WRITES) all.1).0
