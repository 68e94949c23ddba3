-- An entry of the book's history, as an entry of a log file.
use Rattle.std.specs.Prelude.{ℕ, Bool, true, false, not, nat_lt, Option, Some, None, List, [], ◌∷◌, ◌++◌, map, take, drop}
use Rattle.std.specs.List.{filter, flat_map}
use Rattle.byteorder.specs.Endian.{little_number, little_bytes}
use Rattle.tables.specs.Sizes.{Sizes}
use Rattle.tables.specs.Records.{first_number, table_at, place_at}
use Rattle.tables.specs.Rows.{money_word, payload_of}
use Rattle.tables.specs.declared.rows.History.{History}
use Rattle.tables.specs.declared.records.Table.TheVariants as table
use Rattle.readset.specs.Writes.{WriteSetView, added}
use Rattle.book.specs.declared.entry.Entry.{Entry}
use Rattle.log_text.specs.Columns.{has_text}
use Rattle.log_text.specs.Entries.{EntryView}
use Rattle.log_text.specs.declared.write.Write.{Write}
use Rattle.log_text.specs.declared.write.Value.{Value}
use Rattle.log_text.specs.declared.write.Value.TheVariants as value

-- the text in the bytes of words: the first two tell its length
abbrev pub text_behind : List ℕ → List ℕ
text_behind bytes = take (little_number 2 bytes) (drop 2 bytes)

-- the text that words stand for: the one of which they are `data_words`. Opaque, since that is all that is asked of it
unfoldable pub text_of_words : List ℕ → List ℕ
text_of_words words = text_behind (flat_map (little_bytes 8) words)

-- what a record holds, as a log file has it: of C_DATA the text, and of others the columns
abbrev pub value_as : (holds_text : Bool) → Option (List ℕ) → Value
value_as holds_text None = value.Absent
value_as true (Some words) = value.Text (text_of_words words)
value_as false (Some words) = value.Columns words

-- what the record of a number holds, as a write
abbrev pub write_at : Sizes → ℕ × Option (List ℕ) → Write
write_at s e = record {
  table = table_at s e.0;
  place = place_at s e.0;
  value = value_as (has_text (table_at s e.0)) e.1;
}

-- the columns of a HISTORY row, one word each
abbrev pub history_words : History → List ℕ
history_words r = payload_of (r.customer ∷ r.customer_district ∷ r.customer_warehouse ∷ r.district ∷ r.warehouse
    ∷ r.date ∷ money_word r.amount ∷ [])

-- a row that HISTORY gets, as a write
abbrev pub history_write : History → Write
history_write r = record { table = table.History; place = 0; value = value.Columns (history_words r) }

-- whether a record is one of WAREHOUSE, DISTRICT or CUSTOMER, which come before HISTORY
abbrev pub is_before_history : Sizes → ℕ × Option (List ℕ) → Bool
is_before_history s e = nat_lt e.0 (first_number s table.NewOrder)

abbrev pub is_behind_history : Sizes → ℕ × Option (List ℕ) → Bool
is_behind_history s e = not (is_before_history s e)

-- what a transaction wrote, in the order of the tables: HISTORY's row stands between the records before and behind it
abbrev pub writes_of : Sizes → WriteSetView → List Write
writes_of s writes = map (write_at s) (filter (is_before_history s) writes.values)
    ++ (map history_write (added writes.history_row)
    ++ map (write_at s) (filter (is_behind_history s) writes.values))

-- its commit number, TID and terminal, and what it wrote
abbrev pub logged_entry : Sizes → Entry → EntryView
logged_entry s e = record { number = e.number; tid = e.tid; terminal = e.terminal; writes = writes_of s e.writes }
