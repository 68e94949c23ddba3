-- A test of a key's columns is the test by the keys' order.
use Rattle.std.proofs.Common.{◌≡◌, ℕ, ◌&&◌, ◌==◌, eqb, ap, ◌∙◌, arith}
use Rattle.std.proofs.Math.Bool.{and_assoc}
use Rattle.std.proofs.lemmas.Bool.Decides.{nat_tests}
use Rattle.std.specs.Cmp.{tied_then}
use Rattle.std.specs.Ordering.{eq_by_cmp, is_eq, nat_cmp, ordering_then}
use Rattle.tables.specs.Keys.{district_cmp, customer_cmp, order_cmp, is_district, is_customer, is_order}
use Rattle.tables.specs.declared.keys.DistrictKey.{DistrictKey}
use Rattle.tables.specs.declared.keys.CustomerKey.{CustomerKey}
use Rattle.tables.specs.declared.keys.OrderKey.{OrderKey}

pub eqb-nat_cmp : (a b : ℕ) → eqb a b ≡ is_eq (nat_cmp a b)
eqb-nat_cmp a b = grind (arith, nat_tests)

pub is_district-key : (w d : ℕ) (k : DistrictKey) → is_district w d k ≡ eq_by_cmp district_cmp (record { warehouse = w; district = d }) k
is_district-key w d k =
    (λ i. eqb-nat_cmp w k.warehouse i && eqb-nat_cmp d k.district i) ∙ tied_then (nat_cmp w k.warehouse) (nat_cmp d k.district)

pub is_customer-key : (w d c : ℕ) (k : CustomerKey) → is_customer w d c k ≡ eq_by_cmp customer_cmp (record { warehouse = w; district = d; customer = c }) k
is_customer-key w d c k =
    and_assoc (w == k.warehouse) (d == k.district) (c == k.customer)
    ∙ (λ i. eqb-nat_cmp w k.warehouse i && (eqb-nat_cmp d k.district i && eqb-nat_cmp c k.customer i))
    ∙ ap (λ b. is_eq (nat_cmp w k.warehouse) && b) (tied_then (nat_cmp d k.district) (nat_cmp c k.customer))
    ∙ tied_then (nat_cmp w k.warehouse) (ordering_then (nat_cmp d k.district) (nat_cmp c k.customer))

pub is_order-key : (w d n : ℕ) (k : OrderKey) → is_order w d n k ≡ eq_by_cmp order_cmp (record { warehouse = w; district = d; order = n }) k
is_order-key w d n k =
    and_assoc (w == k.warehouse) (d == k.district) (n == k.order)
    ∙ (λ i. eqb-nat_cmp w k.warehouse i && (eqb-nat_cmp d k.district i && eqb-nat_cmp n k.order i))
    ∙ ap (λ b. is_eq (nat_cmp w k.warehouse) && b) (tied_then (nat_cmp d k.district) (nat_cmp n k.order))
    ∙ tied_then (nat_cmp w k.warehouse) (ordering_then (nat_cmp d k.district) (nat_cmp n k.order))
