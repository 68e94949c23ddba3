-- What the newest writes make of tables.
use Rattle.std.specs.Prelude.{◌≡◌, ℕ, ◌<◌, ◌≤◌, Option, Some, None, List}
use Rattle.customer_data.specs.Text.{IsData}
use Rattle.tables.specs.Sizes.{Sizes}
use Rattle.tables.specs.Records.{narrow_count, record_count, key_of}
use Rattle.tables.specs.declared.keys.OrderKey.{OrderKey}
use Rattle.tables.specs.declared.records.RecordKey.TheVariants as key
use Rattle.encoding.specs.Puts.{MayHold}
use Rattle.log_text.specs.Writes.{words_of_value}
use Rattle.log_text.specs.declared.write.Value.{Value}
use Rattle.log_text.specs.declared.write.Value.TheVariants as value
use Rattle.recover_newest.specs.declared.latest.Latest.{Latest}

-- a value may be put into the record of this number: what it may hold, columns in a narrow one and a text in a wide
-- one, and nothing only where the row is of NEW-ORDER
pub record MayPut (s : Sizes) (n : ℕ) (v : Value) : Type 0 where
  pub number : n < record_count s
  pub may_hold : MayHold s (key_of s n) (words_of_value v)
  pub columns : (words : List ℕ) → v ≡ value.Columns words → n < narrow_count s
  pub text : (text : List ℕ) → v ≡ value.Text text → (narrow_count s ≤ n) × IsData text
  pub taken_out : v ≡ value.Absent → (k : OrderKey) × (key_of s n ≡ key.NewOrder k)

-- what a record holds that held this at first
abbrev pub left_in : Option Latest → Option (List ℕ) → Option (List ℕ)
left_in None first = first
left_in (Some w) first = words_of_value w.value
