-- An entry of a log file: what one transaction committed.
use Rattle.std.specs.Prelude.{ℕ, List, ◌++◌, length, flat_map}
use Rattle.log_codec.specs.Numbers.{number}
use Rattle.log_text.specs.Writes.{write_text}
use Rattle.log_text.specs.declared.write.Write.{Write}
use Rattle.log_text.specs.declared.entry.LoggedEntry.{LoggedEntry}

-- its commit number, its TID, the terminal that asked for it, and what it wrote
pub record EntryView : Type 0 where
  pub number : ℕ
  pub tid : ℕ
  pub terminal : ℕ
  pub writes : List Write

abbrev pub logged : LoggedEntry → EntryView
logged e = record { number = e.number; tid = e.tid; terminal = e.terminal; writes = e.writes.items }

-- what stands in front of its writes, of which there are so many
abbrev pub front_text : ℕ → ℕ → ℕ → ℕ → List ℕ
front_text n tid terminal count = number 8 n ++ (number 8 tid ++ (number 2 terminal ++ number 2 count))

abbrev pub entry_text : EntryView → List ℕ
entry_text e = number 8 e.number ++ (number 8 e.tid ++ (number 2 e.terminal
    ++ (number 2 (length e.writes) ++ flat_map write_text e.writes)))
