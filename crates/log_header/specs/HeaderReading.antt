-- The reader of a header: a step between its bytes and their value, which no public clause names.
use Rattle.std.specs.Prelude.{ℕ, Bool, ◌&&◌, ◌==◌, nat_le, nat_lt, Option, Some, None, if◌then◌else◌}
use Rattle.log_codec.specs.Numbers.{Reader, number_at}
use Rattle.log_codec.specs.Read.{both, chosen}
use Rattle.tables.specs.Sizes.{Sizes, sizes}
use Rattle.tables.specs.declared.limits.TheConstants.{MAX_WAREHOUSES, MAX_DISTRICTS, MIN_CUSTOMERS, MAX_CUSTOMERS}
use Rattle.tables.specs.declared.limits.TheConstants.{MIN_ITEMS, MAX_ITEMS, MAX_ORDERS, MAX_COMMITS, MAX_LOGGERS}
use Rattle.log_header.specs.declared.header.TheConstants.{MAGIC, OLDEST_VERSION, VERSION}
use Rattle.log_header.specs.Header.{HeaderView, header_of_version}

abbrev pub is_between : ℕ → ℕ → ℕ → Bool
is_between low high n = nat_le low n && nat_le n high

-- whether these are the numbers of a scale
unfoldable pub is_scale : Sizes → Bool
is_scale s =
    is_between 1 MAX_WAREHOUSES s.warehouses && (is_between 1 MAX_DISTRICTS s.districts
    && (is_between MIN_CUSTOMERS MAX_CUSTOMERS s.customers && (is_between MIN_ITEMS MAX_ITEMS s.items
    && (is_between s.customers MAX_ORDERS s.orders && is_between 1 MAX_COMMITS s.commits))))

abbrev pub SixNumbers : Type 0
SixNumbers = ℕ × (ℕ × (ℕ × (ℕ × (ℕ × ℕ))))

abbrev pub sizes_of : SixNumbers → Sizes
sizes_of n = sizes n.0 n.1.0 n.1.1.0 n.1.1.1.0 n.1.1.1.1.0 n.1.1.1.1.1

unfoldable pub scale_if : SixNumbers → Option Sizes
scale_if n = if is_scale (sizes_of n) then Some (sizes_of n) else None

abbrev pub six_numbers : Reader SixNumbers
six_numbers =
    both (number_at 4) (λ _. both (number_at 4) (λ _. both (number_at 4) (λ _. both (number_at 4) (λ _.
    both (number_at 4) (λ _. number_at 4)))))

-- reads a scale
abbrev pub scale_from : Reader Sizes
scale_from = chosen scale_if six_numbers

-- what stands in a header: the name of the format, the version, and the fields
abbrev pub Parts : Type 0
Parts = ℕ × (ℕ × (ℕ × (ℕ × (Sizes × ℕ))))

-- whether a logger has this number, among so many
unfoldable pub is_logger : ℕ → ℕ → Bool
is_logger logger loggers = is_between 1 MAX_LOGGERS loggers && nat_lt logger loggers

abbrev pub view_of : Parts → HeaderView
view_of p = header_of_version p.1.0 p.1.1.0 p.1.1.1.0 p.1.1.1.1.0 p.1.1.1.1.1

unfoldable pub header_if : Parts → Option HeaderView
header_if p =
    if p.0 == MAGIC && (is_between OLDEST_VERSION VERSION p.1.0 && is_logger p.1.1.0 p.1.1.1.0)
    then Some (view_of p) else None

abbrev pub parts : Reader Parts
parts =
    both (number_at 8) (λ _. both (number_at 4) (λ _. both (number_at 2) (λ _. both (number_at 2) (λ _.
    both scale_from (λ _. number_at 8)))))

-- reads a header
unfoldable pub header_from : Reader HeaderView
header_from = chosen header_if parts
