-- Seats of pages.
use Rattle.std.specs.Prelude.{◌≡◌, ℕ, ◌*◌, ◌<◌, ◌≤◌, length}
use Rattle.atomic_table.specs.declared.shared.Seat.{Seat}
use Rattle.atomic_table.specs.Seated.{TableId}
use Rattle.cells_pages.specs.declared.rule.View.{View}

abbrev pub PageSeat : Type 0
PageSeat = Seat (Unit {0}) View

-- a seat of the page with this id, of records of n words, which has a record at this place
pub record IsSeatOf (n : ℕ) (page : TableId) (seat : PageSeat) (place : ℕ) : Type 0 where
  pub own : seat.table_id ≡ page
  pub wide : page.words ≡ length seat.me.0.seen * n
  pub within : place < length seat.me.0.seen
  pub few : place < 4096
  pub some : 0 < n
  pub narrow : n ≤ 4096
