use Rattle.std.proofs.Common.{◌≡◌, Some, List, subst}
use Rattle.tables.specs.Database.{Database}
use Rattle.tables.specs.Keys.{IsItemKey}
use Rattle.tables.specs.Maps.{RowsWithin}
use Rattle.tables.specs.NewOrder.{first_missing}
use Rattle.tables.specs.declared.input.Input.TheVariants as input
use Rattle.tables.specs.declared.new_order.RequestedLine.{RequestedLine}
use Rattle.money.specs.declared.refusal.Refusal.TheVariants.{OutOfMemory, ItemNotValid}
use Rattle.readset.specs.Reads.{ReadSetView}
use Rattle.readset.specs.Writes.{WriteSetView}
use Rattle.readset.proofs.UnderWay.{refused}
use Rattle.neworder.specs.Priced.{ArePriced}
use Rattle.neworder.specs.Executed.{IsOrderWork}
use Rattle.neworder.proofs.Ended.{order_ended}
use Rattle.neworder.proofs.Explained.{items_there}
use Rattle.neworder.proofs.Refusals.{none_missing, rolled_back}
use Rattle.neworder.proofs.transaction.execute.Goals as goal

pub take_order-reply-requires-clause-lines : goal.take_order-reply-requires-clause-lines
take_order-reply-requires-clause-lines g c =
    let x = c.args.order.now in
    let prices = subst (λ (ls : List RequestedLine). ArePriced g.K.Start.tables ls c.in-Priced.priced) c.as_slice.ensures
    (subst (λ (t : Database). ArePriced t c.as_slice.result.now c.in-Priced.priced) c.population.ensures c.in-Priced.ensures) in
    items_there g.K.Start.tables x.lines
    (subst (λ (t : Database). RowsWithin (IsItemKey t.scale) t.items) c.population.ensures c.population.result.now.well_formed.items) prices.none_missing
    c.requires.input.lines

pub returns-in-ItemMissing : goal.returns-in-ItemMissing
returns-in-ItemMissing g c =
    let t0 = g.K.Start.tables in
    let x = c.args.order.now in
    let missing = subst (λ (ls : List RequestedLine). first_missing t0 ls ≡ Some c.in-ItemMissing.item) c.as_slice.ensures
    (subst (λ (t : Database). first_missing t c.as_slice.result.now ≡ Some c.in-ItemMissing.item) c.population.ensures c.in-ItemMissing.ensures) in
    refused t0 (input.NewOrder x) g.K.Start.reader c.into_parts.result.0 (ItemNotValid c.in-ItemMissing.item) c.into_parts.ensures.under_way.grown
    (rolled_back t0 x c.in-ItemMissing.item missing)

pub returns-in-OutOfMemory : goal.returns-in-OutOfMemory
returns-in-OutOfMemory g c =
    refused g.K.Start.tables (input.NewOrder c.args.order.now) g.K.Start.reader c.into_parts-in-OutOfMemory.result.0 OutOfMemory
    c.into_parts-in-OutOfMemory.ensures.under_way.grown tt

pub returns : goal.returns
returns g c =
    let t0 = g.K.Start.tables in
    let x = c.args.order.now in
    let last = c.take_order-reply.new.transaction in
    let parts = c.into_parts-reader.result in
    let is = c.into_parts-reader.ensures in
    let prices = subst (λ (ls : List RequestedLine). ArePriced t0 ls c.in-Priced.priced) c.as_slice.ensures
    (subst (λ (t : Database). ArePriced t c.as_slice.result.now c.in-Priced.priced) c.population.ensures c.in-Priced.ensures) in
    order_ended t0 x g.K.Start.reader parts.0 last (none_missing t0 x prices.none_missing) is.under_way c.take_order-reply.ensures.reads
    c.take_order-reply.ensures.writes
    c.take_order-reply.result c.work_of.result c.take_order-reply.ensures.reply c.take_order-reply.ensures.refused
    (subst (λ (q : ReadSetView × WriteSetView). IsOrderWork x q.0 q.1 c.take_order-reply.result c.work_of.result) (λ i. (is.reads i, is.writes i))
    c.work_of.ensures)
