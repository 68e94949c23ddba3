use Rattle.std.proofs.Common.{◌≡◌, ℕ, ◌+◌, ◌<◌, sym, ap, ◌∙◌, subst}
use Rattle.tables.specs.Sizes.{Sizes}
use Rattle.tables.specs.Keys.{order_of}
use Rattle.tables.specs.Records.{narrow_count, key_of, number_of_key, IsNarrowKey}
use Rattle.tables.specs.Rows.{row_at}
use Rattle.tables.specs.Database.{Database}
use Rattle.tables.specs.declared.records.RecordKey.{RecordKey}
use Rattle.tables.specs.declared.records.RecordKey.TheVariants as record_key
use Rattle.tables.proofs.Numbers.{named, numbered, narrow_among, narrow_named, narrow_numbered, of_narrow}
use Rattle.cells.specs.Records.{PenView, held_by}
use Rattle.totals.specs.Counts.{AreHeld}
use Rattle.totals_report.specs.Found.{IsFound}
use Rattle.totals_report.proofs.Arms.{passed_absent, passed_other, are_other}
use Rattle.totals_report.proofs.asking.ask.Goals as goal

-- the record of a number, by its key
record IsOf (t : Database) (pen : PenView) (n : ℕ) (k : RecordKey) : Type 0 where
  number : number_of_key t.scale k ≡ n
  row : row_at t k ≡ held_by pen n

of_key : (t : Database) (pen : PenView) (s : Sizes) → s ≡ t.scale → AreHeld pen t → (k : RecordKey) → IsNarrowKey s k
    → IsOf t pen (number_of_key s k) k
of_key t pen s scale are k is =
    let at = subst (λ z. IsNarrowKey z k) scale is in
    let same : number_of_key t.scale k ≡ number_of_key s k = ap (λ z. number_of_key z k) (sym scale) in
    record {
      number = same;
      row = ap (row_at t) (sym (named t.scale k (of_narrow t.scale k at)).1) ∙ sym (are (number_of_key t.scale k) (narrow_among t.scale _ (narrow_named t.scale k at)))
          ∙ ap (held_by pen) same;
    }

of_number : (t : Database) (pen : PenView) (s : Sizes) → s ≡ t.scale → AreHeld pen t → (n : ℕ) → n < narrow_count s → (k : RecordKey) → k ≡ key_of s n
    → IsOf t pen n k
of_number t pen s scale are n below k key =
    let is : IsNarrowKey s k = subst (IsNarrowKey s) (sym key) (narrow_numbered s n below) in
    subst (λ m. IsOf t pen m k) (ap (number_of_key s) key ∙ (numbered s n (narrow_among s n below)).1) (of_key t pen s scale are k is)

pub returns-in_default-clause-found : goal.returns-in_default-clause-found
returns-in_default-clause-found c = λ t totals are found.
    let scale : c.args.scale.now ≡ t.scale = sym c.requires.sums ∙ totals.sums_scale in
    let of = of_number t c.args.pen.now c.args.scale.now scale are c.args.number c.requires.number (key_of c.args.scale.now c.args.number) (λ i. key_of c.args.scale.now c.args.number) in
    passed_absent t totals.well_formed c.args.number c.args.report.now
    (ap (λ z. row_at t (key_of z c.args.number)) (sym scale) ∙ of.row ∙ sym c.held.ensures.held ∙ c.in_default.is) found

pub returns-in-Warehouse-clause-found : goal.returns-in-Warehouse-clause-found
returns-in-Warehouse-clause-found c = λ t totals are found.
    let k = record_key.Warehouse c.in-Warehouse.warehouse in
    let of = of_number t c.args.pen.now c.args.scale.now (sym c.requires.sums ∙ totals.sums_scale) are c.args.number c.requires.number k c.in-Warehouse.ensures.value in
    subst (λ n. IsFound t (n + 1) c.ask_warehouse.new.report) of.number
    (c.ask_warehouse.ensures t totals (of.row ∙ sym c.in-Some.ensures.held) (subst (λ n. IsFound t n c.args.report.now) (sym of.number) found))

pub returns-in-District-clause-found : goal.returns-in-District-clause-found
returns-in-District-clause-found c = λ t totals are found.
    let k = record_key.District c.in-District.key in
    let of = of_number t c.args.pen.now c.args.scale.now (sym c.requires.sums ∙ totals.sums_scale) are c.args.number c.requires.number k c.in-District.ensures.value in
    subst (λ n. IsFound t (n + 1) c.ask_district.new.report) of.number
    (c.ask_district.ensures t totals (of.row ∙ sym c.in-Some.ensures.held) (subst (λ n. IsFound t n c.args.report.now) (sym of.number) found))

pub returns-in-Customer-clause-found : goal.returns-in-Customer-clause-found
returns-in-Customer-clause-found c = λ t totals are found.
    let k = record_key.Customer c.in-Customer.key in
    let of = of_number t c.args.pen.now c.args.scale.now (sym c.requires.sums ∙ totals.sums_scale) are c.args.number c.requires.number k c.in-Customer.ensures.value in
    subst (λ n. IsFound t (n + 1) c.ask_customer.new.report) of.number
    (c.ask_customer.ensures t totals (of.row ∙ sym c.in-Some.ensures.held) (subst (λ n. IsFound t n c.args.report.now) (sym of.number) found))

pub returns-in-Order-clause-found : goal.returns-in-Order-clause-found
returns-in-Order-clause-found c = λ t totals are found.
    let k = record_key.Order c.in-Order.key in
    let scale : c.args.scale.now ≡ t.scale = sym c.requires.sums ∙ totals.sums_scale in
    let of = of_number t c.args.pen.now c.args.scale.now scale are c.args.number c.requires.number k c.in-Order.ensures.value in
    let beside = of_key t c.args.pen.now c.args.scale.now scale are (record_key.NewOrder c.in-Order.key) c.in-Order.ensures.key in
    subst (λ n. IsFound t (n + 1) c.ask_order.new.report) of.number
    (c.ask_order.ensures t totals (of.row ∙ sym c.in-Some.ensures.held) (beside.row ∙ ap (held_by c.args.pen.now) (sym c.number_of_key-number.ensures.value) ∙ sym (c.held-new_order.ensures.held ∙ ap (λ p. held_by p c.number_of_key-number.result) c.held.ensures.pen))
    (subst (λ n. IsFound t n c.args.report.now) (sym of.number) found))

pub returns-in-OrderLine-clause-found : goal.returns-in-OrderLine-clause-found
returns-in-OrderLine-clause-found c = λ t totals are found.
    let k = record_key.OrderLine c.in-OrderLine.key in
    let scale : c.args.scale.now ≡ t.scale = sym c.requires.sums ∙ totals.sums_scale in
    let of = of_number t c.args.pen.now c.args.scale.now scale are c.args.number c.requires.number k c.in-OrderLine.ensures.value in
    let beside = of_key t c.args.pen.now c.args.scale.now scale are (record_key.Order (order_of c.in-OrderLine.key))
    (c.in-OrderLine.ensures.key.0, c.in-OrderLine.ensures.key.1, c.in-OrderLine.ensures.key.2) in
    subst (λ n. IsFound t (n + 1) c.ask_line.new.report) of.number
    (c.ask_line.ensures t totals (of.row ∙ sym c.in-Some.ensures.held) (beside.row ∙ ap (held_by c.args.pen.now) (sym (c.number_of_key-number-in-OrderLine.ensures.value
    ∙ ap (λ k. number_of_key c.args.scale.now (record_key.Order k)) c.order_key.ensures)) ∙ sym (c.held-order.ensures.held ∙ ap (λ p. held_by p c.number_of_key-number-in-OrderLine.result) c.held.ensures.pen))
    (subst (λ n. IsFound t n c.args.report.now) (sym of.number) found))

pub returns-in-NewOrder-clause-found : goal.returns-in-NewOrder-clause-found
returns-in-NewOrder-clause-found c = λ t totals are found.
    passed_other t c.args.number c.args.report.now c.key_of.result
    (ap (λ z. key_of z c.args.number) (sym (sym c.requires.sums ∙ totals.sums_scale)) ∙ sym c.key_of.ensures.value) (are_other c.key_of.result c.in-NewOrder.is) found
