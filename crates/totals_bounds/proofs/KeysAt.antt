-- The keys at the places of tables: each place has a key of the scale, and that key has the place.
use Rattle.std.proofs.Common.{◌≡◌, ℕ, zero, suc, ◌+◌, ◌-◌, ◌*◌, ◌/◌, ◌%◌, ◌<◌, ap, ◌∙◌, subst, arith, mul-zero, not-suc-le-zero}
use Rattle.std.proofs.lemmas.Nat.{div-add-mod', div_below, mod_below}
use Rattle.tables.specs.Sizes.{Sizes, IsNumber}
use Rattle.tables.specs.Keys.{IsDistrictKey, IsOrderKey, IsLineKey, order_of}
use Rattle.tables.specs.Records.{district_place, order_place, district_at, order_at, line_at}
use Rattle.tables.specs.declared.limits.TheConstants.{MAX_ORDER_LINES}

-- rows of so many columns
wide : (rows width p : ℕ) → p < rows * width → 0 < width
wide rows zero p h = absurd (not-suc-le-zero (subst (λ q. p < q) (mul-zero rows) h))
wide rows (suc width) p h = omega arith

over : (m rows : ℕ) → m < rows → IsNumber rows (m + 1)
over m rows h = (omega arith, omega arith)

pub row_below : (rows width p : ℕ) → p < rows * width → p / width < rows
row_below rows width p h = div_below p width rows (wide rows width p h) h

column_is : (rows width p : ℕ) → p < rows * width → IsNumber width (p % width + 1)
column_is rows width p h = over (p % width) width (mod_below p width (wide rows width p h))

pub down : (n : ℕ) → n + 1 - 1 ≡ n
down n = omega arith

row_same : (width p : ℕ) → p / width * width + (p % width + 1 - 1) ≡ p
row_same width p = ap (λ q. p / width * width + q) (down (p % width)) ∙ div-add-mod' p width

module _ (s : Sizes) where
  pub district_same : (p : ℕ) → district_place s (district_at s p).warehouse (district_at s p).district ≡ p
  district_same p = ap (λ q. q * s.districts + (p % s.districts + 1 - 1)) (down (p / s.districts)) ∙ row_same s.districts p

  pub order_same : (p : ℕ) → order_place s (order_at s p) ≡ p
  order_same p = ap (λ q. q * s.orders + (p % s.orders + 1 - 1)) (district_same (p / s.orders)) ∙ row_same s.orders p

  pub line_same : (p : ℕ) → order_place s (order_of (line_at s p)) * MAX_ORDER_LINES + ((line_at s p).line - 1) ≡ p
  line_same p = ap (λ q. q * MAX_ORDER_LINES + (p % MAX_ORDER_LINES + 1 - 1)) (order_same (p / MAX_ORDER_LINES)) ∙ row_same MAX_ORDER_LINES p

  pub district_is : (p : ℕ) → p < s.warehouses * s.districts → IsDistrictKey s (district_at s p)
  district_is p h = (over (p / s.districts) s.warehouses (row_below s.warehouses s.districts p h), column_is s.warehouses s.districts p h)

  pub order_is : (p : ℕ) → p < s.warehouses * s.districts * s.orders → IsOrderKey s (order_at s p)
  order_is p h =
      let d = district_is (p / s.orders) (row_below (s.warehouses * s.districts) s.orders p h) in
      (d.0, d.1, column_is (s.warehouses * s.districts) s.orders p h)

  pub line_is : (p : ℕ) → p < s.warehouses * s.districts * s.orders * MAX_ORDER_LINES → IsLineKey s (line_at s p)
  line_is p h =
      let o = order_is (p / MAX_ORDER_LINES) (row_below (s.warehouses * s.districts * s.orders) MAX_ORDER_LINES p h) in
      (o.0, o.1, o.2, column_is (s.warehouses * s.districts * s.orders) MAX_ORDER_LINES p h)
