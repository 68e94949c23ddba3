-- How much room the text of a reply takes.
use Rattle.std.specs.Prelude.{◌≡◌, ℕ, ◌+◌, ◌≤◌, Option, Some, None, List, ◌++◌, length, String, string_bytes}
use Rattle.std.specs.String.{string_len, string_capacity}
use Rattle.tables.specs.declared.order_status.LastOrder.{LastOrder}
use Rattle.tables.specs.declared.reply.Reply.{Reply}
use Rattle.tables.specs.declared.reply.Reply.TheVariants as reply

-- how many lines are told of a customer's last order
abbrev pub last_line_count : Option LastOrder → ℕ
last_line_count (Some o) = length o.lines
last_line_count None = 0

-- how many lines, or districts, a reply has
abbrev pub line_count : Reply → ℕ
line_count (reply.Payment r) = 0
line_count (reply.NewOrder r) = length r.lines
line_count (reply.Delivery r) = length r.orders
line_count (reply.OrderStatus r) = last_line_count r.order
line_count (reply.StockLevel r) = 0

-- these bytes, at most so many, are appended to a text, which keeps its room
pub record Pushes {Z : Type 0} (old new : String Z) (bytes : List ℕ) (most : ℕ) : Type 0 where
  pub text : string_bytes new ≡ string_bytes old ++ bytes
  pub len : string_len new ≤ string_len old + most
  pub capacity : string_capacity old ≤ string_capacity new
