use Rattle.std.proofs.Common.{◌≡◌, ◌||◌, map}
use Rattle.std.specs.List.{list_any}
use Rattle.std.specs.Ordering.{eq_by_cmp}
use Rattle.std.specs.BTreeSet as tree
use Rattle.tables.specs.Names.{name_cmp}
use Rattle.tables.specs.declared.names.NameKey.{NameKey}
use Rattle.population.proofs.NameIndexMade.{named_entry}
use Rattle.population.proofs.name_index.NameIndex.new.Given as goal

-- the names so far are those of the customers before the iterator
abbrev pub invariant-loop-key : goal.invariant-loop-key
invariant-loop-key l = record {
  rising : tree.IsOrdered name_cmp l.names;
  names : (q : NameKey) → (list_any (eq_by_cmp name_cmp q) l.names.keys || list_any (eq_by_cmp name_cmp q) (map named_entry l.key-iterator)) ≡ list_any
      (eq_by_cmp name_cmp q) (map named_entry l.customers.entries);
}
