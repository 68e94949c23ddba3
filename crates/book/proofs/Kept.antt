-- The annals that the book keeps, as its seat goes on.
use Rattle.std.proofs.Common.{◌≡◌, ℕ, ◌-◌, ◌<◌, ◌≤◌, List, [], ◌∷◌, ◌++◌, refl, sym, ap, ◌∙◌, subst, arith}
use Rattle.annals.specs.Passes.{AnnalsView, AnnalistView}
use Rattle.board.specs.Steps.{known_epoch}
use Rattle.board.specs.Seats.{BoardView, SeatView, noted}
use Rattle.board.specs.declared.rule.WordStep.TheVariants.{LoadEpoch, StoreFloor}
use Rattle.book.specs.Epochs.{found_epoch}
use Rattle.book.specs.Keeps.{KeepsAnnals}
use Rattle.book.specs.Run.{RunView}
use Rattle.book.specs.declared.entry.Entry.{Entry}
use Rattle.book.proofs.Loaded.{found_later}

-- the same history, and an epoch that is no lower
pub annals_later : {run : RunView} {seat later : SeatView} {history same : List Entry} {annals : AnnalsView} {keeper : AnnalistView Entry}
    → KeepsAnnals run seat history annals keeper → found_epoch seat ≤ found_epoch later → same ≡ history → KeepsAnnals run later same annals keeper
annals_later kept up is = record {
  own = kept.own;
  keeper = kept.keeper;
  base = kept.base;
  whole = kept.whole ∙ sym is;
  mark = (let low = kept.mark in omega arith);
}

-- so once E was loaded
pub annals_loaded : {run : RunView} {seat later : SeatView} {history same : List Entry} {annals : AnnalsView} {keeper : AnnalistView Entry}
    → KeepsAnnals run seat history annals keeper → {here own : BoardView} → here ≡ own → seat.board ≡ own → {epoch : ℕ}
    → known_epoch here.plan.base seat.steps ≤ epoch → later ≡ noted seat (LoadEpoch epoch) → same ≡ history
    → KeepsAnnals run later same annals keeper
annals_loaded {seat = seat} kept same own {epoch} up step is =
    annals_later kept (subst (λ n. found_epoch seat ≤ n) (sym (ap found_epoch step)) (found_later seat own same up)) is

-- the mark that the annals have is below the epoch
pub annals_below : {run : RunView} {seat : SeatView} {history : List Entry} {annals : AnnalsView} {keeper : AnnalistView Entry}
    → KeepsAnnals run seat history annals keeper → {here own : BoardView} → here ≡ own → seat.board ≡ own → {epoch : ℕ}
    → known_epoch here.plan.base seat.steps ≤ epoch → keeper.mark < epoch
annals_below {seat = seat} kept same own up = let low = kept.mark in let found = found_later seat own same up in omega arith

-- a commit of this epoch was added
pub annals_kept : {run : RunView} {seat later : SeatView} {history longer : List Entry} {annals : AnnalsView} {keeper new : AnnalistView Entry}
    → KeepsAnnals run seat history annals keeper → {epoch : ℕ} → keeper.mark < epoch → found_epoch later ≡ epoch → (e : Entry)
    → new ≡ record { annals = keeper.annals; history = keeper.history ++ e ∷ []; mark = epoch - 1 } → longer ≡ history ++ e ∷ []
    → KeepsAnnals run later longer annals new
annals_kept {run} {later = later} {longer = longer} {annals = annals} kept {epoch} low found e is longer_is =
    subst (KeepsAnnals run later longer annals) (sym is) (record {
      own = kept.own;
      keeper = kept.keeper;
      base = kept.base;
      whole = ap (λ l. l ++ e ∷ []) kept.whole ∙ sym longer_is;
      mark = omega (arith, low, found);
    })

-- and once E was stored as a logger's floor
pub annals_floored : {run : RunView} {seat later : SeatView} {history : List Entry} {annals : AnnalsView} {keeper : AnnalistView Entry}
    → KeepsAnnals run seat history annals keeper → {epoch logger : ℕ} → found_epoch seat ≤ epoch
    → later ≡ noted (noted seat (LoadEpoch epoch)) (StoreFloor logger epoch) → KeepsAnnals run later history annals keeper
annals_floored {seat = seat} kept up step = annals_later kept (subst (λ n. found_epoch seat ≤ n) (sym (ap found_epoch step)) up) refl
