-- How bytes are read as writes, entries and bodies, before their rules are asked.
use Rattle.std.specs.Prelude.{◌≡◌, ◌≢◌, ℕ, ◌+◌, ◌-◌, nat_le, nat_lt, ◌==◌, ◌&&◌, Bool, true, false, Option, Some, None}
use Rattle.std.specs.Prelude.{if◌then◌else◌, List, length, take, drop, Result, Ok, Err}
use Rattle.std.specs.Option.{option_map, option_and_then}
use Rattle.log_codec.specs.Numbers.{Reader, number_at}
use Rattle.log_codec.specs.Read.{both, chosen, many, filled}
use Rattle.money.specs.declared.refusal.Refusal.{Refusal}
use Rattle.money.specs.declared.refusal.Refusal.TheVariants.{OutOfMemory, Damaged}
use Rattle.tables.specs.Records.{table_numbered}
use Rattle.tables.specs.Rows.{payload_of}
use Rattle.tables.specs.declared.records.Table.{Table}
use Rattle.log_text.specs.Columns.{has_text, width}
use Rattle.log_text.specs.Entries.{EntryView}
use Rattle.log_text.specs.Bodies.{BodyView, Entries, Void}
use Rattle.log_text.specs.declared.body.TheConstants.{VOID_MARK}
use Rattle.tables.specs.declared.limits.TheConstants.{MAX_WRITES}
use Rattle.log_text.specs.declared.write.Write.{Write}
use Rattle.log_text.specs.declared.write.Value.{Value}
use Rattle.log_text.specs.declared.write.Value.TheVariants as value

unfoldable pub table_from : Reader Table
table_from bytes = chosen table_numbered (number_at 1) bytes

-- columns, and zeros past them
unfoldable pub words_from : ℕ → Reader (List ℕ)
words_from n bytes = chosen (λ words. Some (payload_of words)) (many n (number_at 8)) bytes

-- a text, whose length stands in front of it
unfoldable pub text_from : Reader (List ℕ)
text_from bytes = option_and_then (λ n. if nat_lt (length n.1) n.0 then None else Some (take n.0 n.1, drop n.0 n.1))
    (number_at 2 bytes)

-- whether a record of this kind is present
abbrev pub kind_numbered : ℕ → Option Bool
kind_numbered n = if n == 1 then Some true else if n == 0 then Some false else None

-- what a present record holds: a text, or so many columns
unfoldable pub present_from : Bool → ℕ → Reader Value
present_from true n bytes = chosen (λ text. Some (value.Text text)) text_from bytes
present_from false n bytes = chosen (λ words. Some (value.Columns words)) (words_from n) bytes

abbrev pub value_if : Table → Bool → Reader Value
value_if t true bytes = present_from (has_text t) (width t) bytes
value_if t false bytes = Some (value.Absent, bytes)

unfoldable pub value_from : Table → Reader Value
value_from t bytes = chosen (λ x. Some x.1) (both (chosen kind_numbered (number_at 1)) (value_if t)) bytes

unfoldable pub write_from : Reader Write
write_from bytes = chosen (λ x. Some (record { table = x.0; place = x.1.0; value = x.1.1 }))
    (both table_from (λ t. both (number_at 4) (λ place. value_from t))) bytes

-- no entry has more writes than these, that of HISTORY among them
abbrev pub count_numbered : ℕ → Option ℕ
count_numbered n = if nat_le n (MAX_WRITES + 1) then Some n else None

unfoldable pub entry_from : Reader EntryView
entry_from bytes = chosen (λ x. Some (record { number = x.0; tid = x.1.0; terminal = x.1.1.0; writes = x.1.1.1.1 }))
    (both (number_at 8) (λ number. both (number_at 8) (λ tid. both (number_at 2) (λ terminal.
    both (chosen count_numbered (number_at 2)) (λ count. many count write_from))))) bytes

-- entries up to the last byte
unfoldable pub entries_from : List ℕ → Option (List EntryView)
entries_from bytes = filled entry_from bytes (length bytes)

-- two numbers, and nothing behind them
unfoldable pub void_from : List ℕ → Option BodyView
void_from bytes = option_and_then (λ low. option_and_then (λ high.
    if length high.1 == 0 then Some (Void low.0 high.0) else None) (number_at 8 low.1)) (number_at 8 bytes)

unfoldable pub content_from : List ℕ → Option BodyView
content_from bytes = option_and_then (λ mark. if mark.0 == VOID_MARK then void_from mark.1
    else option_map (λ entries. Entries mark.0 entries) (entries_from mark.1)) (number_at 8 bytes)

unfoldable pub body_from : Reader BodyView
body_from bytes = option_and_then (λ size. if nat_le 9 size.0 && nat_le (size.0 - 1) (length size.1)
    then option_map (λ b. (b, drop (size.0 - 1) size.1)) (content_from (take (size.0 - 1) size.1)) else None)
    (number_at 8 bytes)

-- what a call gives of what is read: just that, or, unless memory was short, `Damaged` where nothing is read
abbrev pub Gives : {X Y : Type 0} → (X → Y) → Result X Refusal → Option Y → Type 0
Gives view (Ok x) read = read ≡ Some (view x)
Gives view (Err refusal) read = (refusal ≢ OutOfMemory) → (refusal ≡ Damaged) × (read ≡ None)
