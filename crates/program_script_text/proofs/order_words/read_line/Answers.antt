use Rattle.program_script_text.proofs.OrderLines.{no_colon, one_colon, numbers_between}
use Rattle.program_script_text.proofs.order_words.read_line.Goals as goal

pub returns-in_err-item-clause-word : goal.returns-in_err-item-clause-word
returns-in_err-item-clause-word c = rw c.from_residual.ensures (no_colon c.args.word.now c.in_err-item.ensures.parts)

pub returns-in_err-supply_warehouse-clause-word : goal.returns-in_err-supply_warehouse-clause-word
returns-in_err-supply_warehouse-clause-word c =
    rw c.from_residual-in_err-supply_warehouse.ensures
    (one_colon c.args.word.now c.in_ok-item.item.now c.in_ok-item.rest.now c.in_ok-item.ensures.parts c.in_err-supply_warehouse.ensures.parts)

pub returns-in_err-item-2-clause-word : goal.returns-in_err-item-2-clause-word
returns-in_err-item-2-clause-word c =
    let between = numbers_between c.args.word.now c.in_ok-item.item.now c.in_ok-item.rest.now c.in_ok-supply_warehouse.supply_warehouse.now
    c.in_ok-supply_warehouse.quantity.now c.in_ok-item.ensures.parts c.in_ok-supply_warehouse.ensures.parts in
    rw c.from_residual-in_err-item-2.ensures (λ l h e. c.in_err-item-2.ensures l.item h.0 (between l e).0)

pub returns-in_err-supply_warehouse-2-clause-word : goal.returns-in_err-supply_warehouse-2-clause-word
returns-in_err-supply_warehouse-2-clause-word c =
    let between = numbers_between c.args.word.now c.in_ok-item.item.now c.in_ok-item.rest.now c.in_ok-supply_warehouse.supply_warehouse.now
    c.in_ok-supply_warehouse.quantity.now c.in_ok-item.ensures.parts c.in_ok-supply_warehouse.ensures.parts in
    rw c.from_residual-in_err-supply_warehouse-2.ensures (λ l h e. c.in_err-supply_warehouse-2.ensures l.supply_warehouse h.1 (between l e).1)

pub returns-in_err-quantity-clause-word : goal.returns-in_err-quantity-clause-word
returns-in_err-quantity-clause-word c =
    let between = numbers_between c.args.word.now c.in_ok-item.item.now c.in_ok-item.rest.now c.in_ok-supply_warehouse.supply_warehouse.now
    c.in_ok-supply_warehouse.quantity.now c.in_ok-item.ensures.parts c.in_ok-supply_warehouse.ensures.parts in
    rw c.from_residual-in_err-quantity.ensures (λ l h e. c.in_err-quantity.ensures l.quantity h.2 (between l e).2)
