use Rattle.std.proofs.Common.{◌≡◌, ◌+◌, ◌≤◌, length}
use Rattle.std.specs.List.{fold}
use Rattle.std.specs.BTreeMap.{btree_map_len}
use Rattle.tables.specs.declared.keys.DistrictKey.{DistrictKey}
use Rattle.conditions.specs.Numbers.{no_numbers, with_number, gathered_at, numbers_among}
use Rattle.conditions.proofs.numbers.numbers_by.Given as goal

-- what the entries that are left make of the state now is what all make of none
abbrev pub invariant-loop-key : goal.invariant-loop-key
invariant-loop-key g l = record {
  numbers : (k : DistrictKey) → fold with_number (gathered_at l.gathered k) (numbers_among k l.key-iterator) ≡ fold with_number no_numbers
      (numbers_among k l.rows.entries);
  few : (k : DistrictKey) → (gathered_at l.gathered k).count + length l.key-iterator ≤ btree_map_len l.rows;
}
