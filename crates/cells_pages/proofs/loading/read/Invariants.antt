use Rattle.std.proofs.Common.{◌≡◌}
use Rattle.cells_pages.proofs.loading.read.Given as goal

abbrev pub invariant-loop : goal.invariant-loop
invariant-loop g l = record {
  own : l.reader.table_id ≡ l.initial.reader.table_id;
  seen : l.reader.me.0.seen ≡ l.initial.reader.me.0.seen;
  loads : l.reader.me.0.loads ≡ l.initial.reader.me.0.loads;
}
