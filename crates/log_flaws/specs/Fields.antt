-- The fields of a log file's header.
use Rattle.std.specs.Prelude.{ℕ, List, ◌==◌, not, Bool, codes}
use Rattle.log_header.specs.Header.{HeaderView}
use Rattle.log_flaws.specs.declared.field.HeaderField.{HeaderField}
use Rattle.log_flaws.specs.declared.field.HeaderField.TheVariants as field

-- the number that a header has in a field
abbrev pub number_in : HeaderField → HeaderView → ℕ
number_in field.Version h = h.version
number_in field.Logger h = h.logger
number_in field.Loggers h = h.loggers
number_in field.Warehouses h = h.scale.warehouses
number_in field.Districts h = h.scale.districts
number_in field.Customers h = h.scale.customers
number_in field.Items h = h.scale.items
number_in field.Orders h = h.scale.orders
number_in field.Commits h = h.scale.commits
number_in field.Population h = h.seed

abbrev pub differs : HeaderView → HeaderView → HeaderField → Bool
differs g h f = not (number_in f g == number_in f h)

-- what a command line calls it: an option, but for the version and the number of a logger
abbrev pub field_name : HeaderField → List ℕ
field_name field.Version = codes "version"
field_name field.Logger = codes "logger"
field_name field.Loggers = codes "--loggers"
field_name field.Warehouses = codes "--warehouses"
field_name field.Districts = codes "--districts"
field_name field.Customers = codes "--customers"
field_name field.Items = codes "--items"
field_name field.Orders = codes "--orders"
field_name field.Commits = codes "--commits"
field_name field.Population = codes "--population"
