-- An Order-Status that has read what its reply tells is explained by what was read.
use Rattle.std.proofs.Common.{◌≡◌, ℕ, ℤ, Option, sym, ap, ◌∙◌, refl}
use Rattle.std.proofs.lemmas.List.{append-nil}
use Rattle.std.specs.Option.{option_map}
use Rattle.std.specs.FinMap.{get}
use Rattle.tables.specs.Maps.{column}
use Rattle.tables.specs.Database.{Database}
use Rattle.tables.specs.Rows.{last}
use Rattle.tables.specs.OrderStatus.{asked, asked_number, told_of, order_status_reply}
use Rattle.tables.specs.Apply.{Committed}
use Rattle.tables.specs.declared.keys.CustomerKey.{CustomerKey}
use Rattle.tables.specs.declared.keys.OrderKey.{OrderKey}
use Rattle.tables.specs.declared.order_status.LastOrder.{LastOrder}
use Rattle.tables.specs.declared.order_status.OrderStatusInput.{OrderStatusInput}
use Rattle.tables.specs.declared.order_status.OrderStatusReply.{OrderStatusReply}
use Rattle.tables.specs.declared.input.Input.TheVariants as input
use Rattle.tables.specs.declared.reply.Reply.TheVariants as reply
use Rattle.tables_laws.proofs.NamesKept.{same_number}
use Rattle.readset.specs.Reads.{ReadSetView}
use Rattle.readset.specs.Writes.{no_writes}
use Rattle.readset.specs.Explains.{IsCandidate, Explains}
use Rattle.readset.proofs.HoldsChanges.{holds_first}

module _ (t0 : Database) (x : OrderStatusInput) (k : CustomerKey) (same : k ≡ asked x (asked_number t0 x)) (reads : ReadSetView) (balance : ℤ) (number : ℕ)
    (order : Option LastOrder) where
  -- the order of this number in the customer's district
  abbrev of_number : ℕ → OrderKey
  of_number n = record { warehouse = x.warehouse; district = x.district; order = n }

  abbrev told : OrderStatusReply
  told = record { warehouse = x.warehouse; district = x.district; customer = k.customer; balance = balance; order = order }

  module _ (balance_is : (t : Database) → IsCandidate t0 reads t → column (λ r. r.balance) t.customers k ≡ balance)
      (last_is : (t : Database) → IsCandidate t0 reads t → last t k ≡ number)
      (order_is : (t : Database) → IsCandidate t0 reads t → option_map (told_of t (of_number number)) (get t.orders (of_number number)) ≡ order)
    where
      replies : (t : Database) → IsCandidate t0 reads t → order_status_reply t x ≡ told
      replies t h =
          let at : asked x (asked_number t x) ≡ k =
          ap (asked x) (same_number t0 t (record { warehouse = x.warehouse; district = x.district }) x.who h.of_population) ∙ sym same in
          let amount : column (λ r. r.balance) t.customers (asked x (asked_number t x)) ≡ balance = ap (column (λ r. r.balance) t.customers) at
          ∙ balance_is t h in
          let found : option_map (told_of t (of_number (last t (asked x (asked_number t x))))) (get t.orders (of_number (last t (asked x (asked_number t x)))))
          ≡ order =
          ap (λ n. option_map (told_of t (of_number n)) (get t.orders (of_number n))) (ap (last t) at ∙ last_is t h) ∙ order_is t h in
          λ i. record { warehouse = x.warehouse; district = x.district; customer = (at i).customer; balance = amount i; order = found i }

      pub status_explained : Explains t0 (input.OrderStatus x) reads no_writes (reply.OrderStatus told)
      status_explained t h = record {
        commits = ap (λ (r : OrderStatusReply). Committed t (reply.OrderStatus r)) (replies t h);
        numbered = tt;
        rows = λ n small. refl;
        history = sym (append-nil t.history);
        absent = (holds_first t).absent;
      }
