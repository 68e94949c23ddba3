-- The keys' orders are total, and keys that tie are equal.
use Rattle.std.proofs.Common.{ℕ, ap}
use Rattle.std.specs.Ordering.{nat_cmp, ordering_then}
use Rattle.std.specs.Cmp.{IsTotalOrder}
use Rattle.std.specs.FinMap.{IsAntisymmetric}
use Rattle.std.proofs.lemmas.Cmp.{nat_cmp_total, on_total, then_total}
use Rattle.std.proofs.lemmas.Map.Lookups.{exact_unsigned, exact_pairs, CmpEqualImpliesEq}
use Rattle.std.specs.declared.cmp.Ordering.{Ordering}
use Rattle.tables.specs.Keys.{district_cmp, customer_cmp, order_cmp, line_cmp, stock_cmp}
use Rattle.tables.specs.declared.keys.DistrictKey.{DistrictKey}
use Rattle.tables.specs.declared.keys.CustomerKey.{CustomerKey}
use Rattle.tables.specs.declared.keys.OrderKey.{OrderKey}
use Rattle.tables.specs.declared.keys.LineKey.{LineKey}
use Rattle.tables.specs.declared.keys.StockKey.{StockKey}
use Rattle.tables.specs.Names.{name_cmp}
use Rattle.tables.specs.declared.names.NameKey.{NameKey}

-- what the laws of finite maps need of an order
pub record IsExact {K : Type 0} (R : K → K → Ordering) : Type 0 where
  pub total : IsTotalOrder R
  pub same : IsAntisymmetric R

abbrev numbers : ℕ → ℕ → Ordering
numbers = nat_cmp

abbrev pairs : ℕ × ℕ → ℕ × ℕ → Ordering
pairs x y = ordering_then (nat_cmp x.0 y.0) (nat_cmp x.1 y.1)

abbrev triples : ℕ × (ℕ × ℕ) → ℕ × (ℕ × ℕ) → Ordering
triples x y = ordering_then (nat_cmp x.0 y.0) (pairs x.1 y.1)

abbrev quadruples : ℕ × (ℕ × (ℕ × ℕ)) → ℕ × (ℕ × (ℕ × ℕ)) → Ordering
quadruples x y = ordering_then (nat_cmp x.0 y.0) (triples x.1 y.1)

exact_two : CmpEqualImpliesEq pairs
exact_two = exact_pairs nat_cmp nat_cmp exact_unsigned exact_unsigned

exact_three : CmpEqualImpliesEq triples
exact_three = exact_pairs nat_cmp pairs exact_unsigned exact_two

exact_four : CmpEqualImpliesEq quadruples
exact_four = exact_pairs nat_cmp triples exact_unsigned exact_three

exact_five : CmpEqualImpliesEq (λ (x y : ℕ × (ℕ × (ℕ × (ℕ × ℕ)))). ordering_then (nat_cmp x.0 y.0) (quadruples x.1 y.1))
exact_five = exact_pairs nat_cmp quadruples exact_unsigned exact_four

pub exact_number : IsExact nat_cmp
exact_number = record { total = nat_cmp_total; same = exact_unsigned }

pub exact_district : IsExact district_cmp
exact_district = record {
  total = then_total (on_total (λ (k : DistrictKey). k.warehouse) nat_cmp_total) (on_total (λ (k : DistrictKey). k.district) nat_cmp_total);
  same = λ a b h. ap (λ (p : ℕ × ℕ). record { warehouse = p.0; district = p.1 }) (exact_two (a.warehouse, a.district) (b.warehouse, b.district) h);
}

pub exact_stock : IsExact stock_cmp
exact_stock = record {
  total = then_total (on_total (λ (k : StockKey). k.warehouse) nat_cmp_total) (on_total (λ (k : StockKey). k.item) nat_cmp_total);
  same = λ a b h. ap (λ (p : ℕ × ℕ). record { warehouse = p.0; item = p.1 }) (exact_two (a.warehouse, a.item) (b.warehouse, b.item) h);
}

pub exact_customer : IsExact customer_cmp
exact_customer = record {
  total = then_total (on_total (λ (k : CustomerKey). k.warehouse) nat_cmp_total)
      (then_total (on_total (λ (k : CustomerKey). k.district) nat_cmp_total) (on_total (λ (k : CustomerKey). k.customer) nat_cmp_total));
  same = λ a b h. ap (λ (p : ℕ × (ℕ × ℕ)). record { warehouse = p.0; district = p.1.0; customer = p.1.1 })
      (exact_three (a.warehouse, (a.district, a.customer)) (b.warehouse, (b.district, b.customer)) h);
}

pub exact_order : IsExact order_cmp
exact_order = record {
  total = then_total (on_total (λ (k : OrderKey). k.warehouse) nat_cmp_total)
      (then_total (on_total (λ (k : OrderKey). k.district) nat_cmp_total) (on_total (λ (k : OrderKey). k.order) nat_cmp_total));
  same = λ a b h. ap (λ (p : ℕ × (ℕ × ℕ)). record { warehouse = p.0; district = p.1.0; order = p.1.1 })
      (exact_three (a.warehouse, (a.district, a.order)) (b.warehouse, (b.district, b.order)) h);
}

pub exact_line : IsExact line_cmp
exact_line = record {
  total = then_total (on_total (λ (k : LineKey). k.warehouse) nat_cmp_total)
      (then_total (on_total (λ (k : LineKey). k.district) nat_cmp_total)
      (then_total (on_total (λ (k : LineKey). k.order) nat_cmp_total) (on_total (λ (k : LineKey). k.line) nat_cmp_total)));
  same = λ a b h. ap (λ (p : ℕ × (ℕ × (ℕ × ℕ))). record { warehouse = p.0; district = p.1.0; order = p.1.1.0; line = p.1.1.1 })
      (exact_four (a.warehouse, (a.district, (a.order, a.line))) (b.warehouse, (b.district, (b.order, b.line))) h);
}

pub exact_name : IsExact name_cmp
exact_name = record {
  total = then_total (on_total (λ (k : NameKey). k.warehouse) nat_cmp_total)
      (then_total (on_total (λ (k : NameKey). k.district) nat_cmp_total)
      (then_total (on_total (λ (k : NameKey). k.last_name) nat_cmp_total)
      (then_total (on_total (λ (k : NameKey). k.first_name) nat_cmp_total) (on_total (λ (k : NameKey). k.customer) nat_cmp_total))));
  same = λ a b h. ap (λ (p : ℕ × (ℕ × (ℕ × (ℕ × ℕ)))). record {
    warehouse = p.0;
    district = p.1.0;
    last_name = p.1.1.0;
    first_name = p.1.1.1.0;
    customer =
        p.1.1.1.1;
  }) (exact_five (a.warehouse, (a.district, (a.last_name, (a.first_name, a.customer))))
      (b.warehouse, (b.district, (b.last_name, (b.first_name, b.customer)))) h);
}
