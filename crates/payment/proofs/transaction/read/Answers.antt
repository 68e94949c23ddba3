use Rattle.std.proofs.Common.{sym, ap, ◌∙◌, arith}
use Rattle.std.specs.Option.{option_map}
use Rattle.std.specs.FinMap.{get}
use Rattle.tables.specs.declared.keys.DistrictKey.{DistrictKey}
use Rattle.tables.specs.declared.keys.CustomerKey.{CustomerKey}
use Rattle.rows.specs.Columns.{district_columns, customer_columns}
use Rattle.readset.proofs.UnderWay.{reads_twice, candidate_still}
use Rattle.payment.proofs.transaction.read.Goals as goal

pub returns-clause-rows : goal.returns-clause-rows
returns-clause-rows g c = λ t h.
    let t0 = g.K.Start.tables in
    let before = candidate_still t0 c.read_present-2.new.transaction c.read_present-3.new.transaction 1 c.read_present-3.ensures.reads t h in
    record {
      warehouse = c.in_ok-warehouse.ensures.row t (candidate_still t0 c.read_present.new.transaction c.read_present-2.new.transaction 1 c.read_present-2.ensures.reads t before);
      district = ap (λ (k : DistrictKey). option_map district_columns (get t.districts k)) (sym c.home.ensures) ∙ c.in_ok-district.ensures.row t before;
      customer = ap (λ (k : CustomerKey). option_map customer_columns (get t.customers k)) (sym c.payer.ensures) ∙ c.in_ok-customer.ensures.row t h;
    }

pub returns-clause-reads : goal.returns-clause-reads
returns-clause-reads g c =
    reads_twice c.args.transaction.now c.read_present-2.new.transaction c.read_present-3.new.transaction 2 1 3
    (reads_twice c.args.transaction.now c.read_present.new.transaction c.read_present-2.new.transaction 1 1 2 c.read_present.ensures.reads
    c.read_present-2.ensures.reads (omega arith))
    c.read_present-3.ensures.reads (omega arith)

pub returns-in_err-customer-clause-reads : goal.returns-in_err-customer-clause-reads
returns-in_err-customer-clause-reads g c =
    reads_twice c.args.transaction.now c.read_present-2.new.transaction c.read_present-3.new.transaction 2 1 3
    (reads_twice c.args.transaction.now c.read_present.new.transaction c.read_present-2.new.transaction 1 1 2 c.read_present.ensures.reads
    c.read_present-2.ensures.reads (omega arith))
    c.read_present-3.ensures.reads (omega arith)
