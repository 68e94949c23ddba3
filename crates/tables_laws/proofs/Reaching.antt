-- Tables in reach of so many commits: what room they have, and what one more commit leaves.
use Rattle.std.proofs.Common.{ℕ, ◌+◌, ◌-◌, ◌<◌, ◌≤◌, ℤ, pos, arith}
use Rattle.std.proofs.lemmas.Int.{ints}
use Rattle.tables.specs.Inputs.{IsInput}
use Rattle.tables.specs.Apply.{after}
use Rattle.tables.specs.WellFormed.{IsWellFormed, IsMoneyFor, IsCountFor, IsMoneyTo, IsCountTo, HasRoom, HasRoomTo}
use Rattle.tables.specs.Reach.{IsNear, IsInReach, money_by, count_by}
use Rattle.tables.specs.Database.{Database}
use Rattle.tables.specs.declared.limits.TheConstants.{MAX_COMMITS}
use Rattle.tables.specs.declared.input.Input.{Input}
use Rattle.tables_laws.proofs.Kept.{after-HasRoomTo}

-- the rest of the commits fits within the limits
money_left : (m : ℕ) (z : ℤ) → m ≤ MAX_COMMITS → IsNear (money_by m) z → IsMoneyFor (MAX_COMMITS - m) z
money_left m z few h = (omega (arith, ints, few, h.0, h.1), omega (arith, ints, few, h.0, h.1))

count_left : (m c : ℕ) → m ≤ MAX_COMMITS → c ≤ count_by m → IsCountFor (MAX_COMMITS - m) c
count_left m c few h = omega (arith, few, h)

pub room_left : (m : ℕ) (t : Database) → m ≤ MAX_COMMITS → IsInReach m t → HasRoom (MAX_COMMITS - m) t
room_left m t few h = record {
  warehouses = λ k r f. money_left m r.year_to_date few (h.warehouses k r f);
  districts = λ k r f. money_left m r.year_to_date few (h.districts k r f);
  balances = λ k r f. money_left m r.balance few (h.customers k r f).balance;
  paid = λ k r f. money_left m r.paid few (h.customers k r f).paid;
  payments = λ k r f. count_left m r.payments few (h.customers k r f).payments;
  deliveries = λ k r f. count_left m r.deliveries few (h.customers k r f).deliveries;
  supplied = λ k r f. count_left m r.year_to_date few (h.stock k r f).year_to_date;
  orders = λ k r f. count_left m r.orders few (h.stock k r f).orders;
  remote_orders = λ k r f. count_left m r.remote_orders few (h.stock k r f).remote_orders;
}

-- one more commit stays within what one more may do
money_ahead : (m : ℕ) (z : ℤ) → IsNear (money_by m) z → IsMoneyTo (pos (money_by (m + 1))) 1 z
money_ahead m z h = (omega (arith, ints, h.0, h.1), omega (arith, ints, h.0, h.1))

count_ahead : (m c : ℕ) → c ≤ count_by m → IsCountTo (count_by (m + 1)) 1 c
count_ahead m c h = omega (arith, h)

room_ahead : (m : ℕ) (t : Database) → IsInReach m t → HasRoomTo (pos (money_by (m + 1))) (count_by (m + 1)) 1 t
room_ahead m t h = record {
  warehouses = λ k r f. money_ahead m r.year_to_date (h.warehouses k r f);
  districts = λ k r f. money_ahead m r.year_to_date (h.districts k r f);
  balances = λ k r f. money_ahead m r.balance (h.customers k r f).balance;
  paid = λ k r f. money_ahead m r.paid (h.customers k r f).paid;
  payments = λ k r f. count_ahead m r.payments (h.customers k r f).payments;
  deliveries = λ k r f. count_ahead m r.deliveries (h.customers k r f).deliveries;
  supplied = λ k r f. count_ahead m r.year_to_date (h.stock k r f).year_to_date;
  orders = λ k r f. count_ahead m r.orders (h.stock k r f).orders;
  remote_orders = λ k r f. count_ahead m r.remote_orders (h.stock k r f).remote_orders;
}

-- room for no commit more is to be within the bounds
near : (m : ℕ) (z : ℤ) → IsMoneyTo (pos (money_by m)) 0 z → IsNear (money_by m) z
near m z h = (omega (arith, ints, h.0, h.1), omega (arith, ints, h.0, h.1))

below : (m c : ℕ) → IsCountTo (count_by m) 0 c → c ≤ count_by m
below m c h = omega (arith, h)

all_near : (m : ℕ) (t : Database) → HasRoomTo (pos (money_by m)) (count_by m) 0 t → IsInReach m t
all_near m t room = record {
  warehouses = λ k r f. near m r.year_to_date (room.warehouses k r f);
  districts = λ k r f. near m r.year_to_date (room.districts k r f);
  customers = λ k r f. record {
    balance = near m r.balance (room.balances k r f);
    paid = near m r.paid (room.paid k r f);
    payments = below m r.payments (room.payments k r f);
    deliveries = below m r.deliveries (room.deliveries k r f);
  };
  stock = λ k r f. record {
    year_to_date = below m r.year_to_date (room.supplied k r f);
    orders = below m r.orders (room.orders k r f);
    remote_orders = below m r.remote_orders (room.remote_orders k r f);
  };
}

pub after-IsInReach : (t : Database) (x : Input) (m : ℕ) → m < MAX_COMMITS → IsInput t.scale x → IsWellFormed t → IsInReach m t
    → IsInReach (m + 1) (after t x)
after-IsInReach t x m few ok wf h = all_near (m + 1) (after t x)
    (after-HasRoomTo (pos (money_by (m + 1))) (count_by (m + 1)) (omega (arith, ints, few)) (omega (arith, few)) t x 0 ok wf (room_ahead m t h))
