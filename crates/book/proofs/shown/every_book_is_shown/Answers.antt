use Rattle.book.proofs.Showing.{shown}
use Rattle.book.proofs.shown.every_book_is_shown.Goals as goal

pub returns : goal.returns
returns c = shown
