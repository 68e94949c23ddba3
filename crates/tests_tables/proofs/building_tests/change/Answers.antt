use Rattle.std.proofs.Common.{◌≡◌, pos, Some, None, true, refl, ap, arith, subst}
use Rattle.std.proofs.lemmas.Int.{ints}
use Rattle.std.proofs.lemmas.Option.{none-some, same_Some}
use Rattle.tables.specs.Sizes.{Sizes}
use Rattle.tables.specs.declared.rows.District.{District}
use Rattle.tables.specs.declared.rows.Order.{Order}
use Rattle.rows.specs.Columns.{IsOrderOfScale}
use Rattle.tests_tables.proofs.building_tests.change.Goals as goal

pub write-requires-clause-words : goal.write-requires-clause-words
write-requires-clause-words c =
    let orders : c.args.scale.now.orders ≡ 30 = ap (λ (s : Sizes). s.orders) c.requires.scale in
    let row : District = record { tax = 0; year_to_date = pos 11234; next_order = 12 } in
    (row, refl, record { year_to_date = (omega (arith, ints), omega (arith, ints)); next_order = (omega arith, omega arith) })

pub write-requires-2-clause-words : goal.write-requires-2-clause-words
write-requires-2-clause-words c =
    let customers : c.args.scale.now.customers ≡ 10 = ap (λ (s : Sizes). s.customers) c.requires.scale in
    let row : Order = record { customer = 3; entry_date = 2; carrier = None; line_count = 5; all_local = true } in
    let is : IsOrderOfScale c.args.scale.now row = record {
      row = record { entry_date = (omega arith, omega arith); carrier = λ n e. absurd (none-some n e); line_count = (omega arith, omega arith) };
      customer = (omega arith, omega arith);
    } in
    (Some row, refl, λ r e. subst (IsOrderOfScale c.args.scale.now) (same_Some row r e) is)
