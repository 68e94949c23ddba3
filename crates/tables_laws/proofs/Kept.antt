-- What each transaction keeps, by its kind.
use Rattle.std.proofs.Common.{◌≡◌, ℕ, ◌+◌, ◌≤◌, ℤ, ◌≤ℤ◌, Some, None, refl, arith}
use Rattle.std.proofs.lemmas.Int.{ints}
use Rattle.tables.specs.Sizes.{IsNumber}
use Rattle.tables.specs.Inputs.{IsInput}
use Rattle.tables.specs.Apply.{after, HasOrderNumber, order_unless, left_by}
use Rattle.tables.specs.NewOrder.{first_missing}
use Rattle.tables.specs.Payment.{IsPayment, payer_number}
use Rattle.tables.specs.declared.payment.PaymentInput.{PaymentInput}
use Rattle.tables.specs.WellFormed.{IsWellFormed, HasRoom, HasRoomTo}
use Rattle.money.specs.declared.cents.TheConstants.{MAX_MONEY}
use Rattle.tables.specs.declared.limits.TheConstants.{MAX_COUNT}
use Rattle.tables.specs.Conditions.{IsConsistent}
use Rattle.tables.specs.Constant.{IsOf}
use Rattle.tables.specs.Database.{Database}
use Rattle.tables.specs.declared.input.Input.{Input}
use Rattle.tables.specs.declared.input.Input.TheVariants.{Payment, NewOrder, Delivery, OrderStatus, StockLevel}
use Rattle.tables_laws.proofs.NewOrderKeepsConsistent.{new_order_keeps_consistent}
use Rattle.tables_laws.proofs.NewOrderKeepsConstants.{new_order_keeps_constants}
use Rattle.tables_laws.proofs.NewOrderKeepsWellFormed.{new_order_keeps_well_formed, new_order_keeps_room}
use Rattle.tables_laws.proofs.DeliveryKeepsConsistent.{delivery_keeps_consistent}
use Rattle.tables_laws.proofs.DeliveryKeepsConstants.{delivery_keeps_constants}
use Rattle.tables_laws.proofs.DeliveryKeepsWellFormed.{delivery_keeps_well_formed, delivery_keeps_room}
use Rattle.tables_laws.proofs.NamesKept.{IsOf-itself, is_number_of}
use Rattle.tables_laws.proofs.Room.{room_stays}
use Rattle.tables_laws.proofs.PaymentKeeps.{payment_keeps_well_formed, payment_keeps_room, payment_keeps_consistent, payment_keeps_constants}

payer_is_number : (t : Database) (x : PaymentInput) → IsPayment t.scale x → IsWellFormed t → IsNumber t.scale.customers (payer_number t x)
payer_is_number t x ok wf = is_number_of t (record { warehouse = x.customer_warehouse; district = x.customer_district }) x.who wf
    (ok.customer_warehouse, ok.customer_district) ok.who

pub after-IsWellFormed : (t : Database) (x : Input) (n : ℕ) → IsInput t.scale x → HasOrderNumber t x → IsWellFormed t → IsConsistent t → HasRoom (n + 1) t
    → IsWellFormed (after t x)
after-IsWellFormed t (Payment x) n ok number wf con room =
    payment_keeps_well_formed MAX_MONEY MAX_COUNT (omega (arith, ints)) (omega arith) t x (payer_number t x) n ok (payer_is_number t x ok wf) wf room
after-IsWellFormed t (NewOrder x) n ok number wf con room =
    elim (first_missing t x.lines) as (λ missing. first_missing t x.lines ≡ missing → IsWellFormed (left_by t (order_unless missing t x))) [
      | None ↦ λ none. new_order_keeps_well_formed MAX_MONEY MAX_COUNT (omega (arith, ints)) (omega arith) t x n ok room wf number con none
      | Some item ↦ λ _. wf
    ] refl
after-IsWellFormed t (Delivery x) n ok number wf con room =
    delivery_keeps_well_formed MAX_MONEY MAX_COUNT (omega (arith, ints)) (omega arith) t x n ok wf room
after-IsWellFormed t (OrderStatus x) n ok number wf con room = wf
after-IsWellFormed t (StockLevel x) n ok number wf con room = wf

module _ (most : ℤ) (top : ℕ) (low : most ≤ℤ MAX_MONEY) (few : top ≤ MAX_COUNT) where
  pub after-HasRoomTo : (t : Database) (x : Input) (n : ℕ) → IsInput t.scale x → IsWellFormed t → HasRoomTo most top (n + 1) t
      → HasRoomTo most top n (after t x)
  after-HasRoomTo t (Payment x) n ok wf room = payment_keeps_room most top low few t x (payer_number t x) n ok (payer_is_number t x ok wf) wf room
  after-HasRoomTo t (NewOrder x) n ok wf room = elim (first_missing t x.lines) as (λ missing. HasRoomTo most top n (left_by t (order_unless missing t x))) [
    | None ↦ new_order_keeps_room most top low few t x n ok room wf
    | Some item ↦ room_stays most top n t room
  ]
  after-HasRoomTo t (Delivery x) n ok wf room = delivery_keeps_room most top low few t x n ok wf room
  after-HasRoomTo t (OrderStatus x) n ok wf room = room_stays most top n t room
  after-HasRoomTo t (StockLevel x) n ok wf room = room_stays most top n t room

pub after-HasRoom : (t : Database) (x : Input) (n : ℕ) → IsInput t.scale x → IsWellFormed t → HasRoom (n + 1) t → HasRoom n (after t x)
after-HasRoom = after-HasRoomTo MAX_MONEY MAX_COUNT (omega (arith, ints)) (omega arith)

pub after-IsConsistent : (t : Database) (x : Input) → IsInput t.scale x → IsWellFormed t → IsConsistent t → IsConsistent (after t x)
after-IsConsistent t (Payment x) ok wf con = payment_keeps_consistent t x (payer_number t x) ok wf con
after-IsConsistent t (NewOrder x) ok wf con = elim (first_missing t x.lines) as (λ missing. IsConsistent (left_by t (order_unless missing t x))) [
  | None ↦ new_order_keeps_consistent t x ok wf con
  | Some item ↦ con
]
after-IsConsistent t (Delivery x) ok wf con = delivery_keeps_consistent t x ok wf con
after-IsConsistent t (OrderStatus x) ok wf con = con
after-IsConsistent t (StockLevel x) ok wf con = con

pub after-IsOf : (t0 t : Database) (x : Input) → IsOf t0 t → IsOf t0 (after t x)
after-IsOf t0 t (Payment x) h = payment_keeps_constants t0 t x (payer_number t x) h
after-IsOf t0 t (NewOrder x) h = elim (first_missing t x.lines) as (λ missing. IsOf t0 (left_by t (order_unless missing t x))) [
  | None ↦ new_order_keeps_constants t0 t x h
  | Some item ↦ h
]
after-IsOf t0 t (Delivery x) h = delivery_keeps_constants t0 t x h
after-IsOf t0 t (OrderStatus x) h = h
after-IsOf t0 t (StockLevel x) h = h

pub after-scale : (t : Database) (x : Input) → (after t x).scale ≡ t.scale
after-scale t x = (after-IsOf t t x (IsOf-itself t)).scale
