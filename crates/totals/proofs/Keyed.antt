-- The four tables whose rows are summed, by the keys of their records.
use Rattle.std.proofs.Common.{◌≡◌, Option, Some, None, refl, ap}
use Rattle.std.proofs.lemmas.Option.{same_Some}
use Rattle.tables.specs.declared.keys.DistrictKey.{DistrictKey}
use Rattle.tables.specs.declared.keys.OrderKey.{OrderKey}
use Rattle.tables.specs.declared.keys.LineKey.{LineKey}
use Rattle.tables.specs.declared.records.RecordKey.{RecordKey}
use Rattle.tables.specs.declared.records.RecordKey.TheVariants as key
use Rattle.totals.proofs.Written.{IsKind}

abbrev pub district_of : RecordKey → Option DistrictKey
district_of (key.District k) = Some k
district_of _ = None

abbrev pub new_order_of : RecordKey → Option OrderKey
new_order_of (key.NewOrder k) = Some k
new_order_of _ = None

abbrev pub order_of : RecordKey → Option OrderKey
order_of (key.Order k) = Some k
order_of _ = None

abbrev pub line_of : RecordKey → Option LineKey
line_of (key.OrderLine k) = Some k
line_of _ = None

only_district : (r : RecordKey) (k : DistrictKey) → district_of r ≡ Some k → r ≡ key.District k
only_district (key.District j) k e = ap key.District (same_Some j k e)
only_district _ k e = cc

only_new_order : (r : RecordKey) (k : OrderKey) → new_order_of r ≡ Some k → r ≡ key.NewOrder k
only_new_order (key.NewOrder j) k e = ap key.NewOrder (same_Some j k e)
only_new_order _ k e = cc

only_order : (r : RecordKey) (k : OrderKey) → order_of r ≡ Some k → r ≡ key.Order k
only_order (key.Order j) k e = ap key.Order (same_Some j k e)
only_order _ k e = cc

only_line : (r : RecordKey) (k : LineKey) → line_of r ≡ Some k → r ≡ key.OrderLine k
only_line (key.OrderLine j) k e = ap key.OrderLine (same_Some j k e)
only_line _ k e = cc

pub districts : IsKind key.District district_of
districts = record { picked = λ k. refl; only = only_district }

pub new_orders : IsKind key.NewOrder new_order_of
new_orders = record { picked = λ k. refl; only = only_new_order }

pub orders : IsKind key.Order order_of
orders = record { picked = λ k. refl; only = only_order }

pub lines : IsKind key.OrderLine line_of
lines = record { picked = λ k. refl; only = only_line }
