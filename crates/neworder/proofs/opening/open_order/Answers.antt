use Rattle.std.proofs.Common.{◌≡◌, [], ap, sym, ◌∙◌, subst}
use Rattle.tables.specs.Keys.{order_key}
use Rattle.tables.specs.declared.keys.DistrictKey.{DistrictKey}
use Rattle.tables.specs.declared.keys.OrderKey.{OrderKey}
use Rattle.readset.specs.Changes.{puts_all}
use Rattle.readset.specs.Transaction.{TransactionView}
use Rattle.readset.specs.Writes.{no_writes}
use Rattle.neworder.specs.Steps.{AreTaken, opening_changes, with_last}
use Rattle.neworder.proofs.Begun.{opened_taken}
use Rattle.neworder.proofs.Refusals.{still_within}
use Rattle.neworder.proofs.opening.open_order.Goals as goal

pub returns-clause-opened : goal.returns-clause-opened
returns-clause-opened g c =
    let t0 = g.K.Start.tables in
    let x = c.args.order.now in
    let district = c.in_ok-district.district in
    let k : OrderKey = record { warehouse = x.warehouse; district = x.district; order = district.next_order } in
    let key_is : c.order_key-key.result ≡ k = c.order_key-key.ensures ∙ ap (λ (h : DistrictKey). order_key h district.next_order) c.home.ensures in
    let before : c.read_rows.new.transaction.writes ≡ no_writes = c.read_rows.ensures.reads.writes ∙ c.read_home.ensures.reads.writes
    ∙ ap (λ (y : TransactionView). y.writes) c.requires.begun in
    subst (λ (j : OrderKey). AreTaken t0 x j [] [] (with_last t0 x j c.write_rows.new.transaction) []) (sym key_is)
    (opened_taken t0 x district c.requires.input c.in_ok-district.ensures.number c.read_home.new.transaction c.in_ok-district.ensures.taken
    c.write_rows.new.transaction
    (λ n v found. c.write_rows.ensures.goes_on.keeps n v (c.read_rows.ensures.reads.keeps n v found))
    (c.in_ok-write_rows.ensures.written ∙ (λ i. puts_all t0.scale (before i) (opening_changes x (key_is i) (c.numbered.ensures i)))))

pub returns-clause-within_cap : goal.returns-clause-within_cap
returns-clause-within_cap g c =
    still_within g.K.Start.tables.scale c.args.order.now c.read_home.new.transaction.reads c.write_rows.new.transaction.reads
    (λ n v found. c.write_rows.ensures.goes_on.keeps n v (c.read_rows.ensures.reads.keeps n v found)) c.in_ok-district.ensures.within_cap
