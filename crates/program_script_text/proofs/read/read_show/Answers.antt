use Rattle.std.proofs.Common.{◌≡◌, ◌≢◌, Err, length, codes, refl, ◌∷◌, subst, sym, ap, ◌∙◌, arith, rules}
use Rattle.std.proofs.lemmas.Slice.Eq.{text_from_reads}
use Rattle.money.specs.declared.refusal.Refusal.TheVariants.{BadLine}
use Rattle.program_script_text.specs.Words.{words}
use Rattle.program_script_text.specs.Requests.{AnswersKey}
use Rattle.program_script_text.proofs.RequestLemmas.{no_table}
use Rattle.program_script_text.proofs.read.read_show.Goals as goal

pub returns-in-warehouse : goal.returns-in-warehouse
returns-in-warehouse c =
    let is : c.in_ok-table.table.now ≡ codes "warehouse" = text_from_reads c.in_ok-table.table.now (codes "warehouse") (omega arith) (search rules) in
    let parts = c.in_ok-table.ensures ∙ ap (λ w. w ∷ words c.in_ok-table.key.now) is in
    subst (λ ws. AnswersKey ws c.show_warehouse.result) (sym parts) c.show_warehouse.ensures

pub returns-in-district : goal.returns-in-district
returns-in-district c =
    let is : c.in_ok-table.table.now ≡ codes "district" = text_from_reads c.in_ok-table.table.now (codes "district") (omega arith) (search rules) in
    let parts = c.in_ok-table.ensures ∙ ap (λ w. w ∷ words c.in_ok-table.key.now) is in
    subst (λ ws. AnswersKey ws c.show_district.result) (sym parts) c.show_district.ensures

pub returns-in-customer : goal.returns-in-customer
returns-in-customer c =
    let is : c.in_ok-table.table.now ≡ codes "customer" = text_from_reads c.in_ok-table.table.now (codes "customer") (omega arith) (search rules) in
    let parts = c.in_ok-table.ensures ∙ ap (λ w. w ∷ words c.in_ok-table.key.now) is in
    subst (λ ws. AnswersKey ws c.show_customer.result) (sym parts) c.show_customer.ensures

pub returns-in-data : goal.returns-in-data
returns-in-data c =
    let is : c.in_ok-table.table.now ≡ codes "data" = text_from_reads c.in_ok-table.table.now (codes "data") (omega arith) (search rules) in
    let parts = c.in_ok-table.ensures ∙ ap (λ w. w ∷ words c.in_ok-table.key.now) is in
    subst (λ ws. AnswersKey ws c.show_data.result) (sym parts) c.show_data.ensures

pub returns-in-stock : goal.returns-in-stock
returns-in-stock c =
    let is : c.in_ok-table.table.now ≡ codes "stock" = text_from_reads c.in_ok-table.table.now (codes "stock") (omega arith) (search rules) in
    let parts = c.in_ok-table.ensures ∙ ap (λ w. w ∷ words c.in_ok-table.key.now) is in
    subst (λ ws. AnswersKey ws c.show_stock.result) (sym parts) c.show_stock.ensures

pub returns-in-order : goal.returns-in-order
returns-in-order c =
    let is : c.in_ok-table.table.now ≡ codes "order" = text_from_reads c.in_ok-table.table.now (codes "order") (omega arith) (search rules) in
    let parts = c.in_ok-table.ensures ∙ ap (λ w. w ∷ words c.in_ok-table.key.now) is in
    subst (λ ws. AnswersKey ws c.show_order.result) (sym parts) c.show_order.ensures

pub returns-in_default : goal.returns-in_default
returns-in_default c =
    let table = c.in_ok-table.table.now in
    let no_warehouse : table ≢ codes "warehouse" = λ e. grind (arith, ap length e) in
    let no_district : table ≢ codes "district" = λ e. grind (arith, ap length e) in
    let no_customer : table ≢ codes "customer" = λ e. grind (arith, ap length e) in
    let no_data : table ≢ codes "data" = λ e. grind (arith, ap length e) in
    let no_stock : table ≢ codes "stock" = λ e. grind (arith, ap length e) in
    let no_order : table ≢ codes "order" = λ e. grind (arith, ap length e) in
    let shows = c.in_ok-table.ensures in
    subst (λ ws. AnswersKey ws (Err BadLine)) (sym shows)
    (refl, λ key h. no_table (table ∷ words c.in_ok-table.key.now) no_warehouse no_district no_customer no_data no_stock no_order key)
