use Rattle.cells_pages.proofs.SeatMoves.{tells}
use Rattle.cells_pages.proofs.meeting.tell.Goals as goal

pub split_seat-requires : goal.split_seat-requires
split_seat-requires g c = (c.requires.0, c.requires.1, tells _ _ _)
