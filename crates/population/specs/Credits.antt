-- Whose credit is bad, in the order of the customers' keys.
use Rattle.std.specs.Prelude.{Bool, List, map}
use Rattle.std.specs.List.{range_with_len}
use Rattle.tables.specs.Records.{size, customer_at}
use Rattle.tables.specs.Payment.{has_bad_credit}
use Rattle.tables.specs.Database.{Database}
use Rattle.tables.specs.declared.records.Table.TheVariants as table

-- whether C_CREDIT of each customer of the scale is BC
abbrev pub bad_credits_of : Database → List Bool
bad_credits_of t = map (λ p. has_bad_credit t (customer_at t.scale p)) (range_with_len 0 (size t.scale table.Customer))
