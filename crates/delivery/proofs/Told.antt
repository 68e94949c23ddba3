-- The lines of a Delivery's reply, one district more.
use Rattle.std.proofs.Common.{◌≡◌, ℕ, zero, suc, ◌+◌, List, [], ◌∷◌, ◌++◌, map, sym, ap, ◌∙◌, arith}
use Rattle.std.proofs.lemmas.List.{map-append}
use Rattle.std.specs.List.{range_with_len}
use Rattle.tables.specs.Database.{Database}
use Rattle.tables.specs.Delivery.{waiting}
use Rattle.tables.specs.declared.delivery.DeliveryInput.{DeliveryInput}
use Rattle.tables.specs.declared.delivery.DeliveredOrder.{DeliveredOrder}
use Rattle.readset.specs.Explains.{IsCandidate}
use Rattle.readset.specs.Transaction.{TransactionView, GoesOn}
use Rattle.readset.proofs.UnderWay.{candidate_then}
use Rattle.delivery.specs.Steps.{AreTold}

range_push : (a n : ℕ) → range_with_len a (suc n) ≡ range_with_len a n ++ (a + n) ∷ []
range_push a zero = let same : a ≡ a + 0 = omega arith in ap (λ b. b ∷ []) same
range_push a (suc n) =
    let same : a + 1 + n ≡ a + suc n = omega arith in
    ap (λ l. a ∷ l) (range_push (a + 1) n ∙ ap (λ b. range_with_len (a + 1) n ++ b ∷ []) same)

pub told_next : (t0 : Database) (x : DeliveryInput) (n : ℕ) (old more : TransactionView) (orders : List DeliveredOrder) (o : DeliveredOrder)
    → AreTold t0 x n old orders → GoesOn 19 18 old more
    → ((t : Database) → IsCandidate t0 more.reads t → o ≡ record { district = n + 1; order = waiting t (record { warehouse = x.warehouse; district = n + 1 }) })
    → AreTold t0 x (n + 1) more (orders ++ o ∷ [])
told_next t0 x n old more orders o told keeps is t h =
    let f : ℕ → DeliveredOrder = λ d. record { district = d; order = waiting t (record { warehouse = x.warehouse; district = d }) } in
    let next : n + 1 ≡ suc n = omega arith in
    let last : 1 + n ≡ n + 1 = omega arith in
    ap (λ m. map f (range_with_len 1 m)) next ∙ ap (map f) (range_push 1 n ∙ ap (λ b. range_with_len 1 n ++ b ∷ []) last)
    ∙ map-append f (range_with_len 1 n) ((n + 1) ∷ [])
    ∙ (λ i. told t (candidate_then t0 old more 19 18 keeps t h) i ++ sym (is t h) i ∷ [])
