-- The text of what was recovered.
use Rattle.std.specs.Prelude.{ℕ, List, [], ◌++◌, codes}
use Rattle.std.specs.Option.{option_map_or}
use Rattle.std.specs.Fmt.{decimal}
use Rattle.std.specs.List.{flat_map, join_with_byte}
use Rattle.std.specs.FinMap.{get}
use Rattle.tables.specs.Database.{Database, database}
use Rattle.tables.specs.declared.keys.DistrictKey.{DistrictKey}
use Rattle.population_tables.specs.Plain.{numbers}
use Rattle.program_script_text.specs.Output.{row_words}
use Rattle.program_script_text.specs.declared.shown.ShownRow.{ShownRow}
use Rattle.program_script_text.specs.declared.shown.ShownRow.TheVariants.{Warehouse, District}
use Rattle.recover_files.specs.declared.recovering.Recovered.{Recovered}

-- a row's line, as a script shows it, with its line feed
abbrev pub row_line : ShownRow → List ℕ
row_line row = join_with_byte 32 (row_words row) ++ codes "\n"

-- the line of a warehouse, and of a district, where there is one
abbrev pub warehouse_line : Database → ℕ → List ℕ
warehouse_line t w = option_map_or (λ row. row_line (Warehouse w row)) (get t.warehouses w) []

abbrev pub district_line : Database → DistrictKey → List ℕ
district_line t key = option_map_or (λ row. row_line (District key row)) (get t.districts key) []

-- the lines of the first districts of a warehouse
abbrev pub district_lines : Database → ℕ → ℕ → List ℕ
district_lines t w n = flat_map (λ d. district_line t (record { warehouse = w; district = d })) (numbers n)

-- the lines of the first warehouses, each with those of its districts behind it
abbrev pub warehouse_lines : Database → ℕ → List ℕ
warehouse_lines t n = flat_map (λ w. warehouse_line t w ++ district_lines t w t.scale.districts) (numbers n)

-- `durable 5`, `commits 2`, and those lines
abbrev pub recovery_text : Recovered → List ℕ
recovery_text r = codes "durable " ++ (decimal r.durable ++ (codes "\ncommits " ++ (decimal r.commits ++ (codes "\n"
    ++ warehouse_lines (database r.tables) (database r.tables).scale.warehouses))))
