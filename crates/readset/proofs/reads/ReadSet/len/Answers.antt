use Rattle.std.proofs.Common.{◌≡◌, ◌++◌, Some, All, map, subst}
use Rattle.std.specs.Ordering.{nat_cmp}
use Rattle.std.specs.Map.{keys_of}
use Rattle.std.specs.List.Sorted.{IsStrictlySortedBy}
use Rattle.readset.specs.Reads.{ReadSetView, as_read, held}
use Rattle.readset.specs.Arrived.{arrived}
use Rattle.readset.proofs.Entries.{each_found}
use Rattle.readset.proofs.reads.ReadSet.len.Goals as goal

pub returns-clause-found : goal.returns-clause-found
returns-clause-found c = subst (λ (r : ReadSetView). All (λ e. held r e.0 ≡ Some e.1) r) c.self.view_is
    (each_found (arrived c.self.inside.versions ++ map as_read c.self.inside.wide.entries.items) c.self.invariant.ordered)

pub returns-clause-ordered : goal.returns-clause-ordered
returns-clause-ordered c = subst (λ (r : ReadSetView). IsStrictlySortedBy nat_cmp (keys_of r)) c.self.view_is c.self.invariant.ordered
