-- How much memory a command line takes, about: what was measured (docs/PERFORMANCE.md).
use Rattle.std.specs.Prelude.{ℕ, ◌+◌, ◌*◌, ◌/◌, nat_lt, Bool, true, false, List, ◌++◌, codes, if◌then◌else◌}
use Rattle.std.specs.Fmt.{decimal}
use Rattle.tables.specs.Records.{narrow_count, record_count, size}
use Rattle.tables.specs.Sizes.{Sizes}
use Rattle.tables.specs.declared.limits.TheConstants.{MIN_CUSTOMERS, MIN_ITEMS}
use Rattle.tables.specs.declared.records.Table.TheVariants as table
use Rattle.program_options.specs.declared.asked.Subcommand.{Subcommand}
use Rattle.program_options.specs.declared.asked.Subcommand.TheVariants.{Script, Run, Recover, Check}
use Rattle.program.specs.declared.memory.TheConstants.{NARROW_BYTES, WIDE_BYTES, READ_BYTES, CUSTOMER_BYTES, STOCK_BYTES}
use Rattle.program.specs.declared.memory.TheConstants.{ITEM_BYTES, PROGRAM_BYTES, MEGABYTE}
use Rattle.program.specs.declared.memory.Sizing.{Sizing}
use Rattle.program.specs.declared.memory.Sizing.TheVariants.{Warehouses, Districts, Customers, Items, Orders}

-- the cells of all records
unfoldable pub cells_bytes : Sizes → ℕ
cells_bytes s = NARROW_BYTES * narrow_count s + WIDE_BYTES * size s table.CustomerData

-- the rows of the first tables, with those of each customer's first order
unfoldable pub rows_bytes : Sizes → ℕ
rows_bytes s = CUSTOMER_BYTES * size s table.Customer + (STOCK_BYTES * size s table.Stock + ITEM_BYTES * s.items)

-- whether a subcommand runs transactions, so that each record has its cell
abbrev pub runs : Subcommand → Bool
runs (Script options) = true
runs (Run options) = true
runs (Recover options) = false
runs (Check options) = false

-- whether it reads log files that are there: then there are the first tables, and those that are recovered
abbrev pub reads_files : Subcommand → Bool
reads_files (Script options) = false
reads_files (Run options) = options.resume
reads_files (Recover options) = true
reads_files (Check options) = true

-- what a subcommand takes at a scale, before it commits or reads any entry
unfoldable pub memory_of : Subcommand → Sizes → ℕ
memory_of c s = PROGRAM_BYTES + ((if runs c then cells_bytes s else READ_BYTES * record_count s)
    + (if reads_files c then 2 * rows_bytes s else rows_bytes s))

-- a scale with the least lawful number for an option
abbrev pub with_least : Sizing → Sizes → Sizes
with_least Warehouses s = record s { warehouses = 1 }
with_least Districts s = record s { districts = 1 }
with_least Customers s = record s { customers = MIN_CUSTOMERS }
with_least Items s = record s { items = MIN_ITEMS }
with_least Orders s = record s { orders = s.customers }

abbrev pub sizing_name : Sizing → List ℕ
sizing_name Warehouses = codes "warehouses"
sizing_name Districts = codes "districts"
sizing_name Customers = codes "customers"
sizing_name Items = codes "items"
sizing_name Orders = codes "orders"

-- the option of two with which less is taken so, and the one of all; of those with which as little is, the first
abbrev pub cheaper : Subcommand → Sizes → Sizing → Sizing → Sizing
cheaper c s a b = if nat_lt (memory_of c (with_least b s)) (memory_of c (with_least a s)) then b else a

abbrev pub dearest : Subcommand → Sizes → Sizing
dearest c s = cheaper c s (cheaper c s (cheaper c s Warehouses Districts) (cheaper c s Customers Items)) Orders

-- whether less is taken with the least lawful number for an option
abbrev pub saves : Subcommand → Sizes → Sizing → Bool
saves c s option = nat_lt (memory_of c (with_least option s)) (memory_of c s)

abbrev pub megabytes : ℕ → ℕ
megabytes bytes = (bytes + MEGABYTE / 2) / MEGABYTE

-- what is told of so many megabytes: where the options are those of log files, and where they may be others, of which
-- lowering this one saves most, or none saves anything
abbrev pub line_on_files : ℕ → List ℕ
line_on_files n = codes "some " ++ (decimal n ++ codes " MB for these options, and more for what the log files hold\n")

abbrev pub line_with_advice : ℕ → List ℕ → List ℕ
line_with_advice n option = codes "some "
    ++ (decimal n ++ (codes " MB for these options: a lower --" ++ (option ++ codes " takes the least\n")))

abbrev pub bare_line : ℕ → List ℕ
bare_line n = codes "some " ++ (decimal n ++ codes " MB for these options\n")

-- `some 36 MB for these options: a lower --orders takes the least`, with a line feed
abbrev pub memory_line : Subcommand → Sizes → List ℕ
memory_line c s = if reads_files c then line_on_files (megabytes (memory_of c s))
    else if saves c s (dearest c s) then line_with_advice (megabytes (memory_of c s)) (sizing_name (dearest c s))
    else bare_line (megabytes (memory_of c s))
