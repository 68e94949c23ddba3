use Rattle.std.proofs.Common.{ℕ, List, sym, subst}
use Rattle.std.specs.Ordering.{nat_cmp}
use Rattle.std.specs.Map.{keys_of}
use Rattle.std.specs.List.Sorted.{IsStrictlySortedBy}
use Rattle.readset.proofs.Entries.{none_ordered}
use Rattle.readset.proofs.few.Few.new.Goals as goal

pub invariant_of-result : goal.invariant_of-result
invariant_of-result g c = record {
  ordered = subst (λ (es : List (ℕ × g.row.V.Denot)). IsStrictlySortedBy nat_cmp (keys_of es)) (sym c.new.ensures.items) (none_ordered g.row.V.Denot);
}
