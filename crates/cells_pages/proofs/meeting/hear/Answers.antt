use Rattle.cells_pages.proofs.SeatMoves.{hears}
use Rattle.cells_pages.proofs.meeting.hear.Goals as goal

pub join_seat-requires : goal.join_seat-requires
join_seat-requires g c = (c.requires.own.0, c.requires.told.0, c.requires.told.1, c.requires.own.1, hears _ _ _ _ _ c.requires.pen)
