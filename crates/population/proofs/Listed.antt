-- The list of prices: one item more, and the price of each item in it.
use Rattle.std.proofs.Common.{◌≡◌, ℕ, ◌+◌, ◌-◌, ◌≤◌, ℤ, nat_cmp, [], ◌∷◌, ◌++◌, map, get_or, length, Option, sym, ap, ◌∙◌, arith}
use Rattle.std.proofs.lemmas.List.FromFn.{get_or-map-range_with_len, map-range_with_len_more, length-map-range_with_len}
use Rattle.std.specs.BTreeMap as tree
use Rattle.std.specs.List.{range_with_len}
use Rattle.std.specs.Option.{option_map}
use Rattle.tables.specs.Database.{Database, database}
use Rattle.tables.specs.declared.Tables.{Tables}
use Rattle.tables.specs.declared.rows.Item.{Item}
use Rattle.tables.proofs.Orders.{exact_number}
use Rattle.tables.proofs.Views.{get-view}
use Rattle.population.specs.Prices.{price_of, prices_of}

-- the price that a look-up finds
pub looked_up : (tables : Tables) (i : ℕ) (w : Option Item) → w ≡ tree.get nat_cmp tables.items i
    → option_map (λ (r : Item). r.price) w ≡ price_of (database tables) i
looked_up tables i w e = ap (option_map (λ (r : Item). r.price)) (e ∙ sym (get-view exact_number tables.items i))

module _ (t : Database) where
  -- one more
  pub prices_more : (n : ℕ) → map (price_of t) (range_with_len 1 (n + 1)) ≡ map (price_of t) (range_with_len 1 n) ++ price_of t (n + 1) ∷ []
  prices_more n = map-range_with_len_more (price_of t) 1 n (n + 1) (omega arith)

  pub all_priced : length (prices_of t) ≡ t.scale.items
  all_priced = length-map-range_with_len (price_of t) 1 t.scale.items

  -- that of an item of the scale
  pub price_at : (i : ℕ) (z : Option ℤ) → 1 ≤ i → i ≤ t.scale.items → get_or (prices_of t) (i - 1) z ≡ price_of t i
  price_at i z low high = get_or-map-range_with_len (price_of t) 1 t.scale.items (i - 1) i z (omega (arith, low, high)) (omega (arith, low))
