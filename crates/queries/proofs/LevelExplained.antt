-- A Stock-Level that has counted is explained by what was read.
use Rattle.std.proofs.Common.{◌≡◌, ℕ, ◌==◌, ◌&&◌, List, length, filter, refl, sym, ap, ◌∙◌}
use Rattle.std.proofs.lemmas.List.{append-nil}
use Rattle.std.specs.List.{list_any, range_with_len}
use Rattle.tables.specs.Database.{Database}
use Rattle.tables.specs.StockLevel.{is_sold, is_low, low_items}
use Rattle.tables.specs.Apply.{Committed}
use Rattle.tables.specs.declared.stock_level.StockLevelInput.{StockLevelInput}
use Rattle.tables.specs.declared.input.Input.TheVariants as input
use Rattle.tables.specs.declared.reply.Reply.TheVariants as reply
use Rattle.readset.specs.Reads.{ReadSetView}
use Rattle.readset.specs.Writes.{no_writes}
use Rattle.readset.specs.Explains.{IsCandidate, Explains}
use Rattle.readset.proofs.HoldsChanges.{holds_first}

module _ (t0 : Database) (x : StockLevelInput) (reads : ReadSetView) (items : List ℕ) (low : ℕ)
    (sold : (t : Database) → IsCandidate t0 reads t → (i : ℕ) → is_sold t (record { warehouse = x.warehouse; district = x.district }) i ≡ list_any (λ j. j == i)
    items)
    (counted : (t : Database) → IsCandidate t0 reads t
    → length (filter (λ i. list_any (λ j. j == i) items && is_low t x.warehouse x.threshold i) (range_with_len 1 t0.scale.items)) ≡ low)
  where
    low_is : (t : Database) → IsCandidate t0 reads t → low_items t x ≡ low
    low_is t h = (λ j. length (filter (λ i. sold t h i j && is_low t x.warehouse x.threshold i) (range_with_len 1 (h.of_population.scale j).items)))
        ∙ counted t h

    pub explains : Explains t0 (input.StockLevel x) reads no_writes
        (reply.StockLevel (record { warehouse = x.warehouse; district = x.district; threshold = x.threshold; low = low }))
    explains t h = record {
      commits = ap (λ n. Committed t (reply.StockLevel (record { warehouse = x.warehouse; district = x.district; threshold = x.threshold; low = n })))
          (low_is t h);
      numbered = tt;
      rows = λ n small. refl;
      history = sym (append-nil t.history);
      absent = (holds_first t).absent;
    }
