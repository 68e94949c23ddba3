-- The price of an item, and the amount of a line.
use Rattle.std.proofs.Common.{◌≡◌, ℕ, ℤ, pos, ◌*ℤ◌, Option, Some, None, refl, sym, ap, ◌∙◌}
use Rattle.std.proofs.lemmas.Option.{same_Some}
use Rattle.std.specs.FinMap.{get}
use Rattle.std.specs.Option.{option_map, option_map_or}
use Rattle.tables.specs.Database.{Database}
use Rattle.tables.specs.NewOrder.{line_amount}
use Rattle.tables.specs.declared.rows.Item.{Item}
use Rattle.tables.specs.declared.new_order.RequestedLine.{RequestedLine}
use Rattle.population.specs.Prices.{price_of}

-- the row of an item that has a price, or hasn't
module _ (t : Database) (i : ℕ) where
  pub row_priced : (p : ℤ) → price_of t i ≡ Some p → (r : Item) × (get t.items i ≡ Some r) × (p ≡ r.price)
  row_priced p e = go (get t.items i) refl e
    where
      go : (w : Option Item) → get t.items i ≡ w → option_map (λ (r : Item). r.price) w ≡ Some p → (r : Item) × (get t.items i ≡ Some r) × (p ≡ r.price)
      go None is e = absurd cc
      go (Some r) is e = (r, is, sym (same_Some _ _ e))

  pub none_priced : price_of t i ≡ None → get t.items i ≡ None
  none_priced e = go (get t.items i) refl e
    where
      go : (w : Option Item) → get t.items i ≡ w → option_map (λ (r : Item). r.price) w ≡ None → get t.items i ≡ None
      go None is e = is
      go (Some r) is e = absurd cc

pub amount_is : (t : Database) (l : RequestedLine) (p : ℤ) → price_of t l.item ≡ Some p → pos l.quantity *ℤ p ≡ line_amount t l
amount_is t l p e = let row = row_priced t l.item p e in
    ap (λ z. pos l.quantity *ℤ z) row.2 ∙ sym (ap (λ (w : Option Item). pos l.quantity *ℤ option_map_or (λ i. i.price) w (pos 0)) row.1)
