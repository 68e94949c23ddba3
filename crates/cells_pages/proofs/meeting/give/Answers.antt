use Rattle.cells_pages.proofs.SeatMoves.{gives}
use Rattle.cells_pages.proofs.meeting.give.Goals as goal

pub split_seat-requires : goal.split_seat-requires
split_seat-requires g c = (c.requires.own.0, c.requires.own.1, gives _ _ _ c.requires.told c.requires.within)
