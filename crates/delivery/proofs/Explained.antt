-- A Delivery that has done all districts is explained by what was read.
use Rattle.std.proofs.Common.{◌≡◌, ℕ, List, [], None, ◌++◌, map, sym, ap, ◌∙◌, subst}
use Rattle.std.specs.List.{range_with_len}
use Rattle.std.proofs.lemmas.List.{append-nil}
use Rattle.tables.specs.Sizes.{Sizes}
use Rattle.tables.specs.Database.{Database}
use Rattle.tables.specs.Delivery.{waiting, after_delivery, delivery_reply}
use Rattle.tables.specs.Apply.{Committed}
use Rattle.tables.specs.declared.delivery.DeliveryInput.{DeliveryInput}
use Rattle.tables.specs.declared.delivery.DeliveredOrder.{DeliveredOrder}
use Rattle.tables.specs.declared.delivery.DeliveryReply.{DeliveryReply}
use Rattle.tables.specs.declared.input.Input.TheVariants as input
use Rattle.tables.specs.declared.reply.Reply.TheVariants as reply
use Rattle.readset.specs.Writes.{added}
use Rattle.readset.specs.Commit.{IsCommitOf}
use Rattle.readset.specs.Changes.{Holds}
use Rattle.readset.specs.Explains.{IsCandidate}
use Rattle.readset.specs.Transaction.{TransactionView, AtAll}
use Rattle.tables.specs.Rows.{row_at}
use Rattle.readset.proofs.HoldsChanges.{holds-changes}
use Rattle.delivery.specs.Steps.{AreDone, AreTold, after_districts, with_oldest}
use Rattle.delivery.proofs.WithOldest.{of_one}
use Rattle.delivery.proofs.AllDone.{all_done}

module _ (t0 : Database) (x : DeliveryInput) (under_way : TransactionView) (orders : List DeliveredOrder)
    (done : AreDone t0 x t0.scale.districts t0.scale.districts under_way) (no_history : under_way.writes.history_row ≡ None)
    (told : AreTold t0 x t0.scale.districts under_way orders)
  where
    module _ (t : Database) (h : IsCandidate t0 under_way.reads t) where
      replies : delivery_reply t x ≡ record { warehouse = x.warehouse; orders = orders }
      replies =
          let f : ℕ → DeliveredOrder = λ d. record { district = d; order = waiting t (record { warehouse = x.warehouse; district = d }) } in
          let same : map f (range_with_len 1 t.scale.districts) ≡ orders = ap (λ (s : Sizes). map f (range_with_len 1 s.districts)) h.of_population.scale
          ∙ told t h in
          ap (λ (os : List DeliveredOrder). record { warehouse = x.warehouse; orders = os }) same

      all_rows : Holds t under_way.writes (row_at (after_districts t x t0.scale.districts))
      all_rows =
          let last = after_districts t x t0.scale.districts in
          holds-changes t [] under_way.writes (with_oldest last last) (row_at last) (done t h) tt tt tt (λ j _ _. sym (of_one last j))

      holds : Holds t under_way.writes (row_at (after_delivery t x))
      holds = subst (λ (d : Database). Holds t under_way.writes (row_at d)) (all_done t x h.well_formed)
          (subst (λ (s : Sizes). Holds t under_way.writes (row_at (after_districts t x s.districts))) (sym h.of_population.scale) all_rows)

    pub commits : AtAll t0 under_way
        (λ t. IsCommitOf t (input.Delivery x) under_way.writes (reply.Delivery (record { warehouse = x.warehouse; orders = orders })))
    commits t h = record {
      commits = ap (λ (r : DeliveryReply). Committed (after_delivery t x) (reply.Delivery r)) (replies t h);
      numbered = tt;
      rows = λ n small. (holds t h).put_in n small;
      history = sym (append-nil t.history) ∙ ap (λ q. t.history ++ added q) (sym no_history);
      absent = (holds t h).absent;
    }
