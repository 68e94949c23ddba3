use Rattle.std.proofs.Common.{◌≡◌, ◌++◌, ◌∙◌, List, ℕ, Some, OnOk, append-nil, ap, subst, sym, string_bytes}
use Rattle.tables.specs.declared.rows.Warehouse.{Warehouse as Row}
use Rattle.tables.proofs.Orders.{exact_number}
use Rattle.program_script_text.specs.declared.shown.ShownRow.TheVariants.{Warehouse}
use Rattle.program_recovery.specs.Text.{row_line}
use Rattle.program_recovery.proofs.Lines.{line_found}
use Rattle.program_recovery.proofs.text.print_warehouse.Goals as goal

pub returns-in-Some : goal.returns-in-Some
returns-in-Some c =
    let line = λ (row : Row). row_line (Warehouse c.args.warehouse row) in
    let is = line_found exact_number line c.args.tables.now.warehouses c.args.warehouse (Some c.in-Some.row.now) c.in-Some.ensures.value in
    let wrote : List ℕ → Type 0 = λ text. OnOk c.print_row.result (string_bytes c.print_row.new.out ≡ string_bytes c.args.out.now ++ text) in
    subst wrote is c.print_row.ensures

pub returns-in-None : goal.returns-in-None
returns-in-None c =
    let line = λ (row : Row). row_line (Warehouse c.args.warehouse row) in
    sym (append-nil (string_bytes c.args.out.now))
    ∙ ap (λ text. string_bytes c.args.out.now ++ text) (line_found exact_number line c.args.tables.now.warehouses c.args.warehouse _ c.in-None.ensures.value)
