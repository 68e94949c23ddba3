-- What an entry of the history leaves in records is what its log file says.
use Rattle.std.proofs.Common.{◌≡◌, inl, inr, ⊎_elim, ℕ, ◌<◌, Bool, true, false, true≢false, not, List, ◌++◌, map, Option, Some, None, refl, sym, ap, ◌∙◌, subst, arith}
use Rattle.std.specs.List.{filter}
use Rattle.std.specs.Ordering.{nat_cmp}
use Rattle.std.specs.Prelude.{nat_lt, ◌==◌}
use Rattle.std.proofs.lemmas.Bool.{ltb-true, ltb-false}
use Rattle.std.proofs.lemmas.Bool.Decides.{nat_tests}
use Rattle.std.proofs.lemmas.Cmp.{eq_by_cmp_equiv, nat_cmp_total}
use Rattle.std.proofs.lemmas.Map.Keys.{IsDistinct-from_sorted}
use Rattle.std.proofs.lemmas.Map.Lookups.{exact_unsigned}
use Rattle.std.proofs.lemmas.Map.Views.{Contains-from_lookup, lookup-from_Contains, tells_apart}
use Rattle.tables.specs.Sizes.{Sizes, IsScale}
use Rattle.tables.specs.Records.{record_number, record_count, table_at, place_at, table_number, first_number}
use Rattle.tables.specs.declared.rows.History.{History}
use Rattle.tables.specs.declared.records.Table.TheVariants as table
use Rattle.readset.specs.Writes.{value_for, added}
use Rattle.book.specs.Loggable.{IsLoggable}
use Rattle.book.specs.declared.entry.Entry.{Entry}
use Rattle.log_text.specs.Writes.{is_history, words_of_value}
use Rattle.log_text.specs.declared.write.Write.{Write}
use Rattle.log_entries.specs.Logged.{write_at, history_write, is_before_history, is_behind_history, writes_of, logged_entry}
use Rattle.log_entries.proofs.Parts.{words_logged}
use Rattle.log_entries.proofs.Turns.{before_history, behind_history}
use Rattle.recover_found.specs.Rebuilt.{number_of, LeavesInRecord}
use Rattle.recover_laws.proofs.Places.{number_back}
use Rattle.recover_found.proofs.Elements.{Has, has_from, has_to, has_left, has_right, has_either, passed, passes, mapped, maps}

abbrev pub Value : Type 0
Value = ℕ × Option (List ℕ)

module _ (s : Sizes) (scale : IsScale s) (e : Entry) (ok : IsLoggable s e) where
  -- a write that isn't HISTORY's is of a value
  of_value : (w : Write) → Has (writes_of s e.writes) w → is_history w ≡ false → (v : Value) × Has e.writes.values v × (write_at s v ≡ w)
  of_value w h other =
      ⊎_elim (λ k. in_part (is_before_history s) w k)
      (λ k. ⊎_elim (λ m. absurd (not_history e.writes.history_row w m other)) (λ m. in_part (is_behind_history s) w m)
      (has_either (map history_write (added e.writes.history_row)) _ w k))
      (has_either (map (write_at s) (filter (is_before_history s) e.writes.values)) _ w h)
    where
      in_part : (p : Value → Bool) (w : Write) → Has (map (write_at s) (filter p e.writes.values)) w → (v : Value) × Has e.writes.values v × (write_at s v ≡ w)
      in_part p w k = let found = mapped (write_at s) (filter p e.writes.values) w k in (found.0, (passed p e.writes.values found.0 found.1).0, found.2)

      not_history : (row : Option History) (w : Write) → Has (map history_write (added row)) w → is_history w ≡ false → ⊥
      not_history None w m e = m
      not_history (Some r) w (inl same) e = true≢false (ap is_history same ∙ e)
      not_history (Some r) w (inr m) e = m

  pub distinct : (v : Value) → Has e.writes.values v → value_for e.writes v.0 ≡ Some v.1
  distinct v h =
      lookup-from_Contains (eq_by_cmp_equiv nat_cmp_total) v.0 v.1 e.writes.values (IsDistinct-from_sorted nat_cmp _ ok.ordered)
      (has_to e.writes.values v h)

  -- what it leaves in a record is what it wrote there
  pub leaves_value : (n : ℕ) (value : Option (List ℕ)) → LeavesInRecord s (logged_entry s e) n value → value_for e.writes n ≡ Some value
  leaves_value n value h =
      let found = of_value h.write (has_from _ h.write h.among) h.of_record in
      let v = found.0 in
      let here = distinct v found.1 in
      let number : record_number s (table_at s v.0) (place_at s v.0) ≡ n = ap (number_of s) found.2 ∙ h.number in
      let same : v.0 ≡ n = sym (number_back s v.0 (ok.records v.0 v.1 here)) ∙ number in
      subst (λ (m : ℕ). value_for e.writes m ≡ Some value) same (here ∙ sym (ap Some (words_logged s e ok v.0 v.1 here)) ∙ ap (λ (w : Write). Some (words_of_value w.value)) found.2 ∙ ap Some h.words)

  -- its record isn't HISTORY's
  pub no_history : (n : ℕ) → n < record_count s → (table_number (table_at s n) == 4) ≡ false
  no_history n h =
      elim (nat_lt n (first_number s table.NewOrder)) as (λ b. nat_lt n (first_number s table.NewOrder) ≡ b → (table_number (table_at s n) == 4) ≡ false) [
        | true ↦ λ e. let low = before_history s n h (ltb-true n (first_number s table.NewOrder) e) in grind (arith, nat_tests)
        | false ↦ λ e. let high = behind_history s n h (ltb-false n (first_number s table.NewOrder) e) in grind (arith, nat_tests)
      ] refl

  -- and what it wrote there is what it leaves
  pub value_leaves : (n : ℕ) (value : Option (List ℕ)) → value_for e.writes n ≡ Some value → LeavesInRecord s (logged_entry s e) n value
  value_leaves n value here = record {
    write = write_at s (n, value);
    among = has_to _ (write_at s (n, value)) among;
    of_record = no_history n (ok.records n value here);
    number = number_back s n (ok.records n value here);
    words = words_logged s e ok n value here;
  }
    where
      there : Has e.writes.values (n, value)
      there = has_from e.writes.values (n, value) (Contains-from_lookup (tells_apart exact_unsigned) n value e.writes.values here)

      first : List Write
      first = map (write_at s) (filter (is_before_history s) e.writes.values)

      second : List Write
      second = map history_write (added e.writes.history_row)

      third : List Write
      third = map (write_at s) (filter (is_behind_history s) e.writes.values)

      among : Has (first ++ (second ++ third)) (write_at s (n, value))
      among =
          elim (is_before_history s (n, value)) as (λ b. is_before_history s (n, value) ≡ b → Has (first ++ (second ++ third)) (write_at s (n, value))) [
            | true ↦ λ t. has_left first _ _ (maps (write_at s) _ _ (passes (is_before_history s) e.writes.values (n, value) there t))
            | false ↦ λ t. has_right first _ _ (has_right second third _
                (maps (write_at s) _ _ (passes (is_behind_history s) e.writes.values (n, value) there (ap not t))))
          ] refl
