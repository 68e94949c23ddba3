-- Room for commits: what has room for one more, and what has room is in its range.
use Rattle.std.proofs.Common.{ℕ, ◌+◌, ◌≤◌, ℤ, ◌≤ℤ◌, arith}
use Rattle.std.proofs.lemmas.Int.{ints}
use Rattle.tables.specs.WellFormed.{IsMoney, IsCount, IsMoneyTo, IsCountTo, HasRoomTo}
use Rattle.tables.specs.Database.{Database}
use Rattle.money.specs.declared.cents.TheConstants.{MAX_MONEY}
use Rattle.tables.specs.declared.limits.TheConstants.{MAX_COUNT}

pub money_stays : (most : ℤ) (n : ℕ) (z : ℤ) → IsMoneyTo most (n + 1) z → IsMoneyTo most n z
money_stays most n z h = (omega (arith, ints, h.0, h.1), omega (arith, ints, h.0, h.1))

pub count_stays : (top n c : ℕ) → IsCountTo top (n + 1) c → IsCountTo top n c
count_stays top n c h = omega (arith, h)

pub is_money : (most : ℤ) (n : ℕ) → most ≤ℤ MAX_MONEY → (z : ℤ) → IsMoneyTo most n z → IsMoney z
is_money most n low z h = (omega (arith, ints, low, h.0, h.1), omega (arith, ints, low, h.0, h.1))

pub is_count : (top n : ℕ) → top ≤ MAX_COUNT → (c : ℕ) → IsCountTo top n c → IsCount c
is_count top n few c h = omega (arith, few, h)

-- tables that stay
pub room_stays : (most : ℤ) (top n : ℕ) (t : Database) → HasRoomTo most top (n + 1) t → HasRoomTo most top n t
room_stays most top n t room = record {
  warehouses = λ k r f. money_stays most n r.year_to_date (room.warehouses k r f);
  districts = λ k r f. money_stays most n r.year_to_date (room.districts k r f);
  balances = λ k r f. money_stays most n r.balance (room.balances k r f);
  paid = λ k r f. money_stays most n r.paid (room.paid k r f);
  payments = λ k r f. count_stays top n r.payments (room.payments k r f);
  deliveries = λ k r f. count_stays top n r.deliveries (room.deliveries k r f);
  supplied = λ k r f. count_stays top n r.year_to_date (room.supplied k r f);
  orders = λ k r f. count_stays top n r.orders (room.orders k r f);
  remote_orders = λ k r f. count_stays top n r.remote_orders (room.remote_orders k r f);
}
