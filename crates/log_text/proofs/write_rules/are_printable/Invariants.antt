use Rattle.std.proofs.Common.{◌≡◌, ◌&&◌, drop}
use Rattle.std.specs.Prelude.{nat_le}
use Rattle.std.specs.List.{list_all}
use Rattle.log_text.proofs.write_rules.are_printable.Given as goal

abbrev pub invariant-loop-byte : goal.invariant-loop-byte
invariant-loop-byte l = list_all (λ b. nat_le 32 b && nat_le b 126) l.text ≡ list_all (λ b. nat_le 32 b && nat_le b 126) (drop l.byte-index l.text)
