-- What a list of writes keeps beside the values of narrow records.
use Rattle.std.specs.Prelude.{ℕ, Option, Some, None, List, []}
use Rattle.tables.specs.declared.rows.History.{History}
use Rattle.readset.specs.declared.beside.Beside.{Beside}
use Rattle.readset.specs.declared.beside.Beside.TheVariants.{Nothing, Row, Texts}

-- the words of wide records, by record number
abbrev pub texts_of : Beside → List (ℕ × List ℕ)
texts_of Nothing = []
texts_of (Row row) = []
texts_of (Texts texts) = texts.value.wide.entries.items

-- the HISTORY row, if there is one
abbrev pub history_row_of : Beside → Option History
history_row_of Nothing = None
history_row_of (Row row) = Some row
history_row_of (Texts texts) = texts.value.history_row
