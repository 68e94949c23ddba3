use Rattle.tables.specs.declared.keys.CustomerKey.{CustomerKey}
use Rattle.tables.specs.declared.rows.Customer.{Customer}
use Rattle.population.proofs.NameIndexMade.{named_entry, more, all_names, none_left, inserted}
use Rattle.population.proofs.name_index.NameIndex.new.Goals as goal

pub loop-key-preserved : goal.loop-key-preserved
loop-key-preserved c = record {
  rising = c.in_ok-insert.ensures.ordered;
  names = λ q.
      let e : CustomerKey × Customer = (c.in-Some.key.now, c.in-Some.row.now) in
      more q e _ _ c.args.customers.now.entries c.loop-key.key-iterator c.next.new.self c.in-Some.ensures.steps
      (inserted (named_entry e) q _ _ (c.in_ok-insert.ensures.updates.0 q)) (c.loop-key.invariant.names q);
}

pub returns : goal.returns
returns c = all_names c.args.customers.now c.loop-key.names.keys c.iter-key-items.ensures.ordered c.loop-key.invariant.rising
    (λ q. none_left q _ _ c.loop-key.key-iterator c.in-None.ensures.steps.0 (c.loop-key.invariant.names q))
