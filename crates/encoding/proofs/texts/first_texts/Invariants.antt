use Rattle.std.proofs.Common.{◌≡◌, map}
use Rattle.std.specs.List.{range_with_len}
use Rattle.tables.specs.Database.{database}
use Rattle.encoding.specs.Newest.{text_version_of}
use Rattle.encoding.proofs.texts.first_texts.Given as goal

-- so many customers have their texts
abbrev pub invariant-loop-place : goal.invariant-loop-place
invariant-loop-place l = record {
  listed : l.texts ≡ map (text_version_of (database l.tables)) (range_with_len 0 l.place);
}
