-- A row that is shown: what its record says, and what the population's row has of it.
use Rattle.std.proofs.Common.{◌≡◌, ℕ, Option, Some, None, IsSome, List, refl, sym, ap, ◌∙◌}
use Rattle.std.specs.Option.{option_map}
use Rattle.std.specs.FinMap.{get}
use Rattle.std.proofs.lemmas.Option.{none-some, same_Some}
use Rattle.customer_data.specs.Text.{IsData}
use Rattle.customer_data.specs.Words.{data_words}
use Rattle.tables.specs.Constant.{IsOf}
use Rattle.tables.specs.Keys.{IsCustomerKey}
use Rattle.tables.specs.Records.{number_of_key, IsRecordKey}
use Rattle.tables.specs.Rows.{row_at, rows}
use Rattle.tables.specs.Sizes.{Sizes}
use Rattle.tables.specs.WellFormed.{IsWellFormed}
use Rattle.tables.specs.declared.records.RecordKey.{RecordKey}
use Rattle.tables.specs.declared.records.RecordKey.TheVariants as key
use Rattle.encoding.proofs.Numbered.{record_at}
use Rattle.tables.specs.Database.{Database}
use Rattle.tables.specs.declared.keys.DistrictKey.{DistrictKey}
use Rattle.tables.specs.declared.keys.CustomerKey.{CustomerKey}
use Rattle.tables.specs.declared.rows.Warehouse.{Warehouse}
use Rattle.tables.specs.declared.rows.District.{District}
use Rattle.tables.specs.declared.rows.Customer.{Customer}
use Rattle.rows.specs.Columns.{warehouse_columns, district_columns, customer_columns}
use Rattle.rows.specs.declared.columns.WarehouseColumns.{WarehouseColumns}
use Rattle.rows.specs.declared.columns.DistrictColumns.{DistrictColumns}
use Rattle.rows.specs.declared.columns.CustomerColumns.{CustomerColumns}
use Rattle.rows.specs.Laws.{found_row}

-- no row, where its record holds nothing
pub no_row : {X : Type 0} (words_of : X → List ℕ) (row : Option X) → None ≡ option_map words_of row → row ≡ None
no_row words_of None is = refl
no_row words_of (Some r) is = absurd (none-some (words_of r) is)

-- a column that never changes, of a row and of the population's row
same_column : {X Y : Type 0} (f : X → Y) (a b : Option X) (first r : X) → option_map f a ≡ option_map f b → b ≡ Some first → a ≡ Some r → f first ≡ f r
same_column f a b first r same found is = same_Some (f first) (f r) (sym (ap (option_map f) found) ∙ (sym same ∙ ap (option_map f) is))

-- the row of these columns, where each row of them is this one
one_row : {X C : Type 0} (f : X → C) (made : X) (c : C) (o : Option X) → option_map f o ≡ Some c → ((r : X) → o ≡ Some r → f r ≡ c → made ≡ r) → o ≡ Some made
one_row f made c o held same =
    let row = found_row f o c held in
    row.1 ∙ ap Some (sym (same row.0 row.1 row.2))

-- what the record of a key holds, asked for by the number that the key has at the scale
pub record_held : (t0 t : Database) → IsOf t0 t → (k : RecordKey) → IsRecordKey t0.scale k → (s : Sizes) (number : ℕ) (words : Option (List ℕ)) → s ≡ t0.scale
    → number ≡ number_of_key s k → words ≡ rows t number → words ≡ row_at t k
record_held t0 t of k is s number words scale named found =
    found ∙ ap (rows t) (named ∙ ap (λ (z : Sizes). number_of_key z k) scale) ∙ record_at t0 t of k is

-- a customer of the scale has a text, and the record of it its words
pub text_stands : (t : Database) → IsWellFormed t → (k : CustomerKey) → IsCustomerKey t.scale k → IsSome (row_at t (key.CustomerData k))
text_stands t wf k is = stands (get t.texts k) ((wf.texts k).1 is)
  where
    stands : (text : Option (List ℕ)) → IsSome text → IsSome (option_map data_words text)
    stands None none = none
    stands (Some text) some = refl

pub record TextOf (t : Database) (k : CustomerKey) (words : List ℕ) : Type 0 where
  pub text : List ℕ
  pub there : get t.texts k ≡ Some text
  pub words_are : words ≡ data_words text
  pub is : IsData text

pub text_of_record : (t : Database) → IsWellFormed t → (k : CustomerKey) (words : List ℕ) → Some words ≡ row_at t (key.CustomerData k) → TextOf t k words
text_of_record t wf k words held = told (get t.texts k) refl
  where
    told : (o : Option (List ℕ)) → get t.texts k ≡ o → TextOf t k words
    told None e = absurd (none-some words (sym (held ∙ ap (option_map data_words) e)))
    told (Some text) e = record { text = text; there = e; words_are = same_Some _ _ (held ∙ ap (option_map data_words) e); is = wf.text_rows k text e }

module _ (t0 t : Database) (of : IsOf t0 t) where
  pub warehouse_from : (k : ℕ) (first : Warehouse) (c : WarehouseColumns) → get t0.warehouses k ≡ Some first
      → option_map warehouse_columns (get t.warehouses k) ≡ Some c → get t.warehouses k ≡ Some (record first { year_to_date = c.year_to_date })
  warehouse_from k first c found held = one_row warehouse_columns _ c (get t.warehouses k) held (λ r is same.
      let tax = same_column (λ r. r.tax) _ _ first r (of.warehouse_taxes k) found is in
      λ i. record { tax = tax i; year_to_date = (sym same i).year_to_date })

  pub district_from : (k : DistrictKey) (first : District) (c : DistrictColumns) → get t0.districts k ≡ Some first
      → option_map district_columns (get t.districts k) ≡ Some c
      → get t.districts k ≡ Some (record first { year_to_date = c.year_to_date; next_order = c.next_order })
  district_from k first c found held = one_row district_columns _ c (get t.districts k) held (λ r is same.
      let tax = same_column (λ r. r.tax) _ _ first r (of.district_taxes k) found is in
      λ i. record { tax = tax i; year_to_date = (sym same i).year_to_date; next_order = (sym same i).next_order })

  pub customer_from : (k : CustomerKey) (first : Customer) (c : CustomerColumns) → get t0.customers k ≡ Some first
      → option_map customer_columns (get t.customers k) ≡ Some c
      → get t.customers k ≡ Some (record first { balance = c.balance; paid = c.paid; payments = c.payments; deliveries = c.deliveries })
  customer_from k first c found held = one_row customer_columns _ c (get t.customers k) held (λ r is same.
      let first_name = same_column (λ r. r.first_name) _ _ first r (of.first_names k) found is in
      let last_name = same_column (λ r. r.last_name) _ _ first r (of.last_names k) found is in
      let credit = same_column (λ r. r.credit) _ _ first r (of.credit k) found is in
      let discount = same_column (λ r. r.discount) _ _ first r (of.discounts k) found is in
      λ i. record {
        first_name = first_name i;
        last_name = last_name i;
        credit = credit i;
        discount = discount i;
        balance = (sym same i).balance;
        paid = (sym same i).paid;
        payments = (sym same i).payments;
        deliveries = (sym same i).deliveries;
      })
