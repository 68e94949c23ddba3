-- What an entry says of records: the text of a write, and which writes an entry may have.
use Rattle.std.specs.Prelude.{ℕ, ◌+◌, ◌*◌, ◌^◌, nat_lt, nat_le, ◌==◌, ◌&&◌, ◌||◌, not, Bool, true, Option, Some, None}
use Rattle.std.specs.Prelude.{List, [], ◌∷◌, ◌++◌, length, take, flat_map}
use Rattle.std.specs.List.{list_all, count_by}
use Rattle.customer_data.specs.Words.{data_words}
use Rattle.customer_data.specs.declared.words.TheConstants.{MIN_DATA, MAX_DATA}
use Rattle.log_codec.specs.Numbers.{number}
use Rattle.log_header.specs.declared.header.TheConstants.{VERSION}
use Rattle.tables.specs.Sizes.{Sizes}
use Rattle.tables.specs.Records.{size, table_number}
use Rattle.tables.specs.declared.records.Table.{Table}
use Rattle.tables.specs.declared.records.Table.TheVariants as table
use Rattle.log_text.specs.Columns.{has_text, width, ranges, are_within}
use Rattle.tables.specs.declared.limits.TheConstants.{MAX_WRITES}
use Rattle.log_text.specs.declared.write.Write.{Write}
use Rattle.log_text.specs.declared.write.Value.{Value}
use Rattle.log_text.specs.declared.write.Value.TheVariants as value

-- what the record then holds: its words, or nothing
abbrev pub words_of_value : Value → Option (List ℕ)
words_of_value value.Absent = None
words_of_value (value.Columns words) = Some words
words_of_value (value.Text text) = Some (data_words text)

-- a text: its length in two bytes, and its bytes
abbrev pub text_text : List ℕ → List ℕ
text_text text = number 2 (length text) ++ text

-- 0 where the record is absent, and where it is present 1, and its columns or its text
abbrev pub value_text : Table → Value → List ℕ
value_text t value.Absent = number 1 0
value_text t (value.Columns words) = number 1 1 ++ flat_map (number 8) (take (width t) words)
value_text t (value.Text text) = number 1 1 ++ text_text text

abbrev pub write_text : Write → List ℕ
write_text w = number 1 (table_number w.table) ++ (number 4 w.place ++ value_text w.table w.value)

abbrev pub is_history : Write → Bool
is_history w = table_number w.table == 4

-- the number of places of a table in a log: HISTORY has the one place 0
abbrev pub places : Sizes → Table → ℕ
places s table.History = 1
places s t = size s t

-- a text is one of C_DATA: it has 300 to 500 characters, printable ones of ASCII
abbrev pub is_data : List ℕ → Bool
is_data text = (nat_le MIN_DATA (length text) && nat_le (length text) MAX_DATA)
    && list_all (λ b. nat_le 32 b && nat_le b 126) text

-- only NEW-ORDER rows are taken out; what is present has its columns in their ranges, and in C_DATA a text
abbrev pub is_value : Sizes → Table → Value → Bool
is_value s t value.Absent = table_number t == 5
is_value s t (value.Columns words) = not (has_text t) && are_within (ranges s t) words
is_value s t (value.Text text) = has_text t && is_data text

abbrev pub is_write : Sizes → Write → Bool
is_write s w = nat_lt w.place (places s w.table) && is_value s w.table w.value

-- places are below 2 ^ 32, so this orders writes by table, and those of a table by place
abbrev pub rank : Write → ℕ
rank w = table_number w.table * 2 ^ 32 + w.place

abbrev pub rise_from : ℕ → List Write → Bool
rise_from least [] = true
rise_from least (w ∷ ws) = nat_le least (rank w) && rise_from (rank w + 1) ws

-- writes that rise strictly by table and place, at most 200 beside that of HISTORY
abbrev pub are_writes : Sizes → List Write → Bool
are_writes s ws =
    list_all (is_write s) ws && (rise_from 0 ws && nat_le (count_by (λ w. not (is_history w)) ws) MAX_WRITES)

-- in a file of an older version than the one that is written today stands no text
abbrev pub are_of_version : ℕ → List Write → Bool
are_of_version version ws = (version == VERSION) || list_all (λ w. not (has_text w.table)) ws
