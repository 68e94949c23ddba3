use Rattle.std.proofs.Common.{Some, ap, ◌∙◌}
use Rattle.tables.specs.Records.{number_of_key}
use Rattle.tables.specs.Rows.{number_words}
use Rattle.tables.specs.declared.keys.CustomerKey.{CustomerKey}
use Rattle.tables.specs.declared.records.RecordKey.TheVariants as key
use Rattle.readset.specs.Writes.{puts}
use Rattle.neworder.proofs.Taken.{once_put, last_written}
use Rattle.neworder.proofs.opening.write_last.Goals as goal

pub returns-clause-written : goal.returns-clause-written
returns-clause-written g c = λ rows draws told taken.
    let t0 = g.K.Start.tables in
    let k = c.args.key in
    let read = c.read.new.self in
    once_put c.put_row.result c.put_row.ensures.puts (λ put.
    last_written t0 c.args.order.now k rows draws 1 c.args.transaction.now read told taken c.read.ensures.reads c.put_row.new.transaction
    c.put_row.ensures.reads
    (put ∙ ap (λ (b : CustomerKey). puts read.writes (number_of_key t0.scale (key.Last b)) (Some (number_words k.order))) c.buyer-2.ensures))
