use Rattle.std.specs.Prelude.{ℕ, List, ◌++◌, codes}
use Rattle.std.specs.Fmt.{decimal}
use Rattle.money.specs.declared.refusal.Refusal.{Refusal}
use Rattle.money.specs.declared.refusal.Refusal.TheVariants.{OutOfMemory, BadInput, Stale, Conflict, ItemNotValid}
use Rattle.money.specs.declared.refusal.Refusal.TheVariants.{OrdersFull, CommitsFull, EpochFull, Device, Damaged, Gap}
use Rattle.money.specs.declared.refusal.Refusal.TheVariants.{GaveUp, BadScale, BadLine}

-- the number by which a refusal is printed
abbrev pub refusal_number : Refusal → ℕ
refusal_number OutOfMemory = 1
refusal_number BadInput = 2
refusal_number Stale = 3
refusal_number Conflict = 4
refusal_number (ItemNotValid item) = 5
refusal_number OrdersFull = 6
refusal_number CommitsFull = 7
refusal_number EpochFull = 8
refusal_number Device = 9
refusal_number Damaged = 10
refusal_number Gap = 11
refusal_number GaveUp = 12
refusal_number BadScale = 13
refusal_number BadLine = 14

-- the name by which a refusal is printed
abbrev pub refusal_name : Refusal → List ℕ
refusal_name OutOfMemory = codes "OutOfMemory"
refusal_name BadInput = codes "BadInput"
refusal_name Stale = codes "Stale"
refusal_name Conflict = codes "Conflict"
refusal_name (ItemNotValid item) = codes "ItemNotValid"
refusal_name OrdersFull = codes "OrdersFull"
refusal_name CommitsFull = codes "CommitsFull"
refusal_name EpochFull = codes "EpochFull"
refusal_name Device = codes "Device"
refusal_name Damaged = codes "Damaged"
refusal_name Gap = codes "Gap"
refusal_name GaveUp = codes "GaveUp"
refusal_name BadScale = codes "BadScale"
refusal_name BadLine = codes "BadLine"

-- what a refusal prints: its number, a space and its name
abbrev pub refusal_text : Refusal → List ℕ
refusal_text r = decimal (refusal_number r) ++ codes " " ++ refusal_name r
