-- How an order is refused: by its items, and by what was read.
use Rattle.std.proofs.Common.{◌≡◌, ℕ, Option, Some, None, List, refl, sym, ap, ◌∙◌, subst, slice_index, arith}
use Rattle.std.proofs.lemmas.Option.{same_Some}
use Rattle.money.specs.declared.refusal.Refusal.{Refusal}
use Rattle.money.specs.declared.refusal.Refusal.TheVariants.{OutOfMemory, Stale, OrdersFull}
use Rattle.tables.specs.Sizes.{Sizes}
use Rattle.tables.specs.Database.{Database}
use Rattle.tables.specs.Constant.{IsOf}
use Rattle.tables.specs.Records.{number_of_key}
use Rattle.tables.specs.NewOrder.{first_missing, home}
use Rattle.tables.specs.Apply.{RolledBack, apply, order_unless}
use Rattle.tables.specs.declared.new_order.NewOrderInput.{NewOrderInput}
use Rattle.tables.specs.declared.input.Input.TheVariants as input
use Rattle.tables.specs.declared.records.RecordKey.TheVariants as key
use Rattle.cells.specs.Records.{ReaderView}
use Rattle.rows.specs.Columns.{AreDistrictColumns, district_columns_words}
use Rattle.rows.specs.declared.columns.DistrictColumns.{DistrictColumns}
use Rattle.readset.specs.Reads.{ReadSetView, Keeps, IsReadAs}
use Rattle.readset.specs.Commit.{IsCommitted}
use Rattle.readset.specs.Refused.{NoneMissing, IsAboveCap, IsRefusal}
use Rattle.readset.specs.Transaction.{TransactionView, IsUnderWay, IsStepRefusal}
use Rattle.readset.proofs.MoreReads.{read_once}
use Rattle.neworder.specs.Opening.{IsWithinCap, IsOrderRefusal}
use Rattle.neworder.proofs.Explained.{same_missing}

-- a missing item is missing at all tables of the population
pub rolled_back : (t0 : Database) (x : NewOrderInput) (item : ℕ) → first_missing t0 x.lines ≡ Some item
    → (t : Database) → IsOf t0 t → apply t (input.NewOrder x) ≡ RolledBack item
rolled_back t0 x item missing t o = ap (λ (m : Option ℕ). order_unless m t x) (same_missing t0 t x.lines o.items ∙ missing)

pub none_missing : (t0 : Database) (x : NewOrderInput) → first_missing t0 x.lines ≡ None → NoneMissing t0 (input.NewOrder x)
none_missing t0 x none t o =
    subst (λ (m : Option ℕ). IsCommitted (order_unless m t x)) (sym (same_missing t0 t x.lines o.items ∙ none)) tt

-- a district that was read still was, after more reads
pub still_within : (s : Sizes) (x : NewOrderInput) (reads more : ReadSetView) → Keeps reads more → IsWithinCap s x reads → IsWithinCap s x more
still_within s x reads more keeps within =
    let was = within.2 in
    (within.0, within.1, (was.0, keeps _ was.0 was.1, was.2))

-- a number that was read as within the cap isn't above it
pub not_above : (s : Sizes) (x : NewOrderInput) (reads : ReadSetView) → IsWithinCap s x reads → ¬ IsAboveCap s (input.NewOrder x) reads
not_above s x reads within above =
    let words : district_columns_words within.0 ≡ district_columns_words above.0 = same_Some _ _ (read_once reads _ _ _ within.2 above.3) in
    let same : within.0.next_order ≡ above.0.next_order = ap (λ (ws : List ℕ). slice_index ws 1) words in
    let low = within.1 in
    let high = above.2 in
    omega arith

-- why no number was taken
pub none_taken : (t0 : Database) (x : NewOrderInput) (under_way : TransactionView) (refusal : Refusal) → IsStepRefusal t0 under_way refusal
    → (refusal ≡ Stale → (c : DistrictColumns) → AreDistrictColumns t0.scale c
    → ¬ IsReadAs under_way.reads (number_of_key t0.scale (key.District (home x))) (Some (district_columns_words c)))
    → IsOrderRefusal t0 x under_way refusal
none_taken t0 x under_way OutOfMemory why none = tt
none_taken t0 x under_way Stale why none = ((λ above. none refl above.0 above.1 above.3), why)
none_taken t0 x under_way _ why none = absurd why

-- a step once the number was taken
pub step_refused : (t0 : Database) (x : NewOrderInput) (under_way : TransactionView) (refusal : Refusal) → IsWithinCap t0.scale x under_way.reads
    → IsStepRefusal t0 under_way refusal → IsOrderRefusal t0 x under_way refusal
step_refused t0 x under_way OutOfMemory within why = tt
step_refused t0 x under_way Stale within why = (not_above t0.scale x under_way.reads within, why)
step_refused t0 x under_way _ within why = absurd why

-- how an order whose items are all there is refused
pub order_refused : (t0 : Database) (x : NewOrderInput) (old new : ReaderView) (under_way : TransactionView) (refusal : Refusal)
    → NoneMissing t0 (input.NewOrder x)
    → IsUnderWay old new under_way → IsOrderRefusal t0 x under_way refusal → IsRefusal t0 (input.NewOrder x) old new refusal
order_refused t0 x old new under_way OutOfMemory none h why = tt
order_refused t0 x old new under_way OrdersFull none h why = (none, (under_way.reads, h.read, why))
order_refused t0 x old new under_way Stale none h why = (none, (under_way.reads, h.read, why.0, why.1))
order_refused t0 x old new under_way _ none h why = absurd why
