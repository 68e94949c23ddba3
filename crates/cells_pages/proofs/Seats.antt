-- Seats of pages: their words, and what they know after a step.
use Rattle.std.proofs.Common.{◌≡◌, ℕ, ◌+◌, ◌*◌, ◌/◌, ◌%◌, ◌<◌, length, sym, ap, ◌∙◌, subst}
use Rattle.std.proofs.lemmas.Nat.{div-mul-add, mod-mul-add}
use Rattle.atomic_table.specs.declared.shared.Seat.{Seat}
use Rattle.atomic_table.specs.Seated.{TableId}
use Rattle.cells_pages.specs.declared.rule.View.{View}
use Rattle.cells_pages.specs.Seats.{IsSeatOf}
use Rattle.cells_pages.proofs.Words.{word_below}

-- the word i of the record at a place is one of the page's
pub has_word : (n : ℕ) (page : TableId) (seat : Seat (Unit {0}) View) (place word i : ℕ) → IsSeatOf n page seat place → word ≡ place * n + i → i < n → word < page.words
has_word n page seat place word i is stands l = subst (λ (x : ℕ × ℕ). x.0 < x.1) (λ h. (sym stands h, sym is.wide h))
    (word_below n place (length seat.me.0.seen) i is.within l)

-- its place, and its number in the record
pub place_of : (n place word i : ℕ) → word ≡ place * n + i → i < n → word / n ≡ place
place_of n place word i stands l = ap (λ w. w / n) stands ∙ div-mul-add place n i l

pub rest_of : (n place word i : ℕ) → word ≡ place * n + i → i < n → word % n ≡ i
rest_of n place word i stands l = ap (λ w. w % n) stands ∙ mod-mul-add place n i l
