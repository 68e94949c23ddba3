use Rattle.std.proofs.Common.{◌≡◌, ◌+◌, ◌-◌, ℤ, ◌+ℤ◌, Some, None, ℕ, sym, ap, ◌∙◌, subst, arith}
use Rattle.std.specs.FinMap.{get}
use Rattle.tables.specs.Keys.{IsLineKey}
use Rattle.tables.specs.Records.{number_of_key}
use Rattle.tables.specs.Rows.{line_words}
use Rattle.tables.specs.NewOrder.{line_key}
use Rattle.tables.specs.Delivery.{dated}
use Rattle.tables.specs.declared.keys.LineKey.{LineKey}
use Rattle.tables.specs.declared.records.RecordKey.TheVariants as key
use Rattle.readset.specs.Writes.{WriteSetView, puts}
use Rattle.readset.specs.Transaction.{AtAll}
use Rattle.readset.proofs.UnderWay.{goes_on, goes_on_twice}
use Rattle.delivery.specs.Steps.{AreDated}
use Rattle.delivery.proofs.DatedLine.{none_there, one_more}
use Rattle.delivery.proofs.Ended.{next_is}
use Rattle.delivery.proofs.lines.date_line.Goals as goal

pub returns-in_default-clause-dated : goal.returns-in_default-clause-dated
returns-in_default-clause-dated g c = λ sum so_far.
    let k = c.args.order in
    let x = c.args.delivery.now in
    let n = k.district - 1 in
    let t0 = g.K.Start.tables in
    let more = c.read_row.new.transaction in
    let next : c.args.number ≡ c.args.number - 1 + 1 = omega (arith, c.requires.number.0) in
    subst (λ (q : ℕ × ℤ). AreDated t0 x n k.order q.0 more (sum +ℤ q.1)) (λ i. (sym next i, sym c.new.ensures i))
    (none_there t0 x k (c.args.number - 1) more n c.args.transaction.now sum
    (subst (λ m. IsLineKey t0.scale (line_key k m)) next (c.requires.order.0, c.requires.order.1, c.requires.order.2, c.requires.number))
    (next_is x k c.requires.home c.requires.order.1.0) so_far c.read_row.ensures.reads
    (subst (λ m. AtAll t0 more (λ t. get t.lines (line_key k m) ≡ None)) next (λ t h. ap (get t.lines) (sym c.line_key-key.ensures) ∙ c.in_ok-line.ensures.row t h ∙ c.in_default.is)))

pub returns-in_err-put_row-clause-goes_on : goal.returns-in_err-put_row-clause-goes_on
returns-in_err-put_row-clause-goes_on g c =
    goes_on_twice c.args.transaction.now c.read_row.new.transaction c.put_row.new.transaction 1 0 0 1 1 1
    (goes_on 1 0 c.args.transaction.now c.read_row.new.transaction c.read_row.ensures.reads) c.put_row.ensures.goes_on (omega arith) (omega arith)

pub returns-clause-goes_on : goal.returns-clause-goes_on
returns-clause-goes_on g c =
    goes_on_twice c.args.transaction.now c.read_row.new.transaction c.put_row.new.transaction 1 0 0 1 1 1
    (goes_on 1 0 c.args.transaction.now c.read_row.new.transaction c.read_row.ensures.reads) c.put_row.ensures.goes_on (omega arith) (omega arith)

pub returns-clause-range : goal.returns-clause-range
returns-clause-range g c = let is = c.in_ok-line.ensures.range c.in-Some.line c.in-Some.is in (is.at_least, is.at_most)

pub returns-clause-dated : goal.returns-clause-dated
returns-clause-dated g c = λ sum so_far.
    let k = c.args.order in
    let x = c.args.delivery.now in
    let n = k.district - 1 in
    let t0 = g.K.Start.tables in
    let more = c.read_row.new.transaction in
    let line = c.in-Some.line in
    let next : c.args.number ≡ c.args.number - 1 + 1 = omega (arith, c.requires.number.0) in
    let written : ℕ → WriteSetView = λ m. puts more.writes (number_of_key t0.scale (key.OrderLine (line_key k m))) (Some (line_words (dated x line))) in
    subst (λ m. AreDated t0 x n k.order m c.put_row.new.transaction (sum +ℤ line.amount)) (sym next)
    (one_more t0 x k (c.args.number - 1) more n c.args.transaction.now sum
    (subst (λ m. IsLineKey t0.scale (line_key k m)) next (c.requires.order.0, c.requires.order.1, c.requires.order.2, c.requires.number))
    (next_is x k c.requires.home c.requires.order.1.0) so_far c.read_row.ensures.reads line
    (subst (λ m. AtAll t0 more (λ t. get t.lines (line_key k m) ≡ Some line)) next (λ t h. ap (get t.lines) (sym c.line_key-key.ensures) ∙ c.in_ok-line.ensures.row t h ∙ c.in-Some.is))
    c.put_row.new.transaction c.put_row.ensures.reads (c.in_ok-put_row.ensures.puts
    ∙ ap (λ (j : LineKey). puts more.writes (number_of_key t0.scale (key.OrderLine j)) (Some (line_words (dated x line)))) c.line_key-key.ensures
    ∙ ap written next))
