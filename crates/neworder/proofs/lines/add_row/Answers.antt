use Rattle.std.proofs.Common.{[], Some, ap, ◌∙◌, subst, arith}
use Rattle.tables.specs.Sizes.{IsNumber}
use Rattle.tables.specs.Records.{number_of_key}
use Rattle.tables.specs.Rows.{line_words}
use Rattle.tables.specs.NewOrder.{line_key}
use Rattle.tables.specs.declared.limits.TheConstants.{MAX_ORDER_LINES}
use Rattle.tables.specs.declared.keys.LineKey.{LineKey}
use Rattle.tables.specs.declared.records.RecordKey.TheVariants as key
use Rattle.readset.specs.Writes.{puts}
use Rattle.readset.proofs.UnderWay.{goes_on, goes_on_twice}
use Rattle.neworder.proofs.Taken.{once_put, row_added}
use Rattle.neworder.proofs.lines.add_row.Goals as goal

pub returns-clause-added : goal.returns-clause-added
returns-clause-added g c = λ rows number taken.
    let t0 = g.K.Start.tables in
    let k = c.args.key in
    let read = c.read.new.self in
    once_put c.put_row.result c.put_row.ensures.puts (λ put.
    row_added t0 c.args._order.now k rows [] 1 c.args.transaction.now read [] taken c.read.ensures.reads c.args.line.now c.requires.key
    (subst (IsNumber MAX_ORDER_LINES) number c.requires.number) c.args.amount c.requires.amount c.line_row.result c.line_row.ensures
    c.put_row.new.transaction c.put_row.ensures.reads
    (put ∙ ap (λ (j : LineKey). puts read.writes (number_of_key t0.scale (key.OrderLine j)) (Some (line_words c.line_row.result)))
    (c.line_key-own.ensures ∙ ap (line_key k) number)))

pub returns-clause-goes_on : goal.returns-clause-goes_on
returns-clause-goes_on g c = goes_on_twice c.args.transaction.now c.read.new.self c.put_row.new.transaction 1 0 0 1 1 1
    (goes_on 1 0 c.args.transaction.now c.read.new.self c.read.ensures.reads) c.put_row.ensures.goes_on (omega arith) (omega arith)
