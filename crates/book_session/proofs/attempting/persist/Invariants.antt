use Rattle.book.specs.Book.{IsAsBefore}
use Rattle.book_session.proofs.attempting.persist.Given as goal

-- nothing has committed
abbrev pub invariant-loop : goal.invariant-loop
invariant-loop g l = IsAsBefore l.fn.book l.book
