-- Which customer a terminal means (TPC-C 2.5.1.2, 2.6.1.2).
use Rattle.std.specs.Prelude.{ℕ, ◌<◌}
use Rattle.std.specs.Option.{unwrap_or}
use Rattle.tables.specs.Sizes.{Sizes, IsNumber}
use Rattle.tables.specs.Names.{names, customer_named}
use Rattle.tables.specs.Database.{Database}
use Rattle.tables.specs.declared.limits.TheConstants.{LAST_NAMES}
use Rattle.tables.specs.declared.keys.DistrictKey.{DistrictKey}
use Rattle.tables.specs.declared.customer.Who.{Who}
use Rattle.tables.specs.declared.customer.Who.TheVariants.{Id, Last}

-- a customer of the scale, or one of the last names that somebody has in each district
abbrev pub IsWho : Sizes → Who → Type 0
IsWho s (Id c) = IsNumber s.customers c
IsWho s (Last n) = (n < s.customers) × (n < LAST_NAMES)

-- the C_ID that is meant in a district, and 0 where nobody has the last name
abbrev pub customer_number : Database → DistrictKey → Who → ℕ
customer_number t d (Id c) = c
customer_number t d (Last n) = unwrap_or (customer_named (names t.customers) d n) 0
