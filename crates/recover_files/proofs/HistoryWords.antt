-- The words of a lawful write of HISTORY, and the row that they are.
use Rattle.std.proofs.Common.{◌≡◌, ℕ, ◌<◌, lit<, true, List, slice_index, get_or, length, subst}
use Rattle.std.specs.Prelude.{nat_lt}
use Rattle.std.proofs.lemmas.List.Elements.{Contains-get_or}
use Rattle.tables.specs.Sizes.{Sizes}
use Rattle.tables.specs.WellFormed.{IsHistoryRow}
use Rattle.tables.specs.declared.limits.TheConstants.{MAX_DATE, MIN_PAYMENT, MAX_PAYMENT}
use Rattle.tables.specs.declared.records.Table.TheVariants as table
use Rattle.log_text.specs.Columns.{ranges, are_within}
use Rattle.log_text.specs.Writes.{places, is_value, are_writes}
use Rattle.log_text.specs.declared.write.Write.{Write}
use Rattle.log_text.specs.declared.write.Value.TheVariants.{Columns}
use Rattle.log_text.proofs.Fitting.{and_split}
use Rattle.recover_found.specs.Rebuilt.{history_of_words}
use Rattle.recover_files.proofs.LawfulWrites.{each_lawful}
use Rattle.recover_files.proofs.Ranges.{IsIn, each_in, between}

module _ (s : Sizes) (words : List ℕ) (e : are_within (ranges s table.History) words ≡ true) where
  pub row_in_ranges : IsHistoryRow s (history_of_words words)
  row_in_ranges =
      let each = each_in (ranges s table.History) words e in
      let amount : IsIn MIN_PAYMENT MAX_PAYMENT (slice_index words 6) = each 6 (lit< tt) in
      record {
        customer = between 1 s.customers (slice_index words 0) (each 0 (lit< tt));
        customer_district = between 1 s.districts (slice_index words 1) (each 1 (lit< tt));
        customer_warehouse = between 1 s.warehouses (slice_index words 2) (each 2 (lit< tt));
        district = between 1 s.districts (slice_index words 3) (each 3 (lit< tt));
        warehouse = between 1 s.warehouses (slice_index words 4) (each 4 (lit< tt));
        date = between 1 MAX_DATE (slice_index words 5) (each 5 (lit< tt));
        at_least = amount.low;
        at_most = amount.high;
      }

-- what a lawful write of HISTORY adds is within its ranges
pub history_row : (s : Sizes) (writes : List Write) (i : ℕ) (d : Write) (words : List ℕ) → are_writes s writes ≡ true → i < length writes
    → (get_or writes i d).table ≡ table.History → (get_or writes i d).value ≡ Columns words → IsHistoryRow s (history_of_words words)
history_row s writes i d words lawful less of some =
    let w = get_or writes i d in
    let write = each_lawful s writes lawful w (Contains-get_or writes i d less) in
    let value : is_value s w.table w.value ≡ true = (and_split (nat_lt w.place (places s w.table)) (is_value s w.table w.value) write).1 in
    row_in_ranges s words (subst (λ o. is_value s table.History o ≡ true) some (subst (λ t. is_value s t w.value ≡ true) of value))
