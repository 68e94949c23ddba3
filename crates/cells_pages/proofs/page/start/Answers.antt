use Rattle.cells_pages.proofs.SeatMoves.{starts}
use Rattle.cells_pages.proofs.page.start.Goals as goal

pub split_seat-requires : goal.split_seat-requires
split_seat-requires g c = (c.requires.0, c.requires.1, starts _ _ _)
