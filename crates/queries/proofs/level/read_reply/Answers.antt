use Rattle.std.proofs.Common.{◌≡◌, ℕ, ◌==◌, ◌&&◌, List, length, filter, sym, ap, ◌∙◌, subst}
use Rattle.std.specs.List.{list_any, range_with_len}
use Rattle.tables.specs.Database.{Database}
use Rattle.tables.specs.StockLevel.{is_sold, is_low}
use Rattle.tables.specs.declared.keys.DistrictKey.{DistrictKey}
use Rattle.readset.specs.Explains.{IsCandidate}
use Rattle.readset.proofs.UnderWay.{candidate_still}
use Rattle.queries.proofs.LevelExplained.{explains}
use Rattle.queries.proofs.level.read_reply.Goals as goal

pub returns-clause-reply : goal.returns-clause-reply
returns-clause-reply g c =
    let t0 = g.K.Start.tables in
    let x = c.args.query.now in
    let first = c.read_next_order.new.transaction in
    let second = c.sold_items.new.transaction in
    let last = c.count_low.new.transaction in
    let home : DistrictKey = record { warehouse = x.warehouse; district = x.district } in
    let items : List ℕ = c.in_ok-items.items.items in
    let sold : (t : Database) → IsCandidate t0 last.reads t → (i : ℕ) → is_sold t home i ≡ list_any (λ j. j == i) items = λ t h.
    let before = candidate_still t0 second last _ c.count_low.ensures.reads t h in
    λ i. ap (λ (k : DistrictKey). is_sold t k i) (sym c.home-home.ensures)
    ∙ c.in_ok-items.ensures.sold t before (c.in_ok-next.ensures.next t (candidate_still t0 first second _ c.sold_items.ensures.reads t before)) i in
    let counted : (t : Database) → IsCandidate t0 last.reads t
    → length (filter (λ i. list_any (λ j. j == i) items && is_low t x.warehouse x.threshold i) (range_with_len 1 t0.scale.items)) ≡ c.in_ok-low.low = λ t h.
    subst (λ (xs : List ℕ). length (filter (λ i. list_any (λ j. j == i) xs && is_low t x.warehouse x.threshold i) (range_with_len 1 t0.scale.items))
    ≡ c.in_ok-low.low) c.as_slice.ensures.value (c.in_ok-low.ensures.low t h) in
    explains t0 x last.reads items c.in_ok-low.low sold counted
