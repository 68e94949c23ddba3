-- What a commit makes before its first store, and what its stores do to cells and versions (Silo, section 4.4).
use Rattle.std.specs.Prelude.{◌≡◌, ℕ, ◌+◌, ◌<◌, ◌%◌, ◌++◌, Some, Option, List}
use Rattle.std.specs.Arc.{arc_value}
use Rattle.tables.specs.declared.input.Input.{Input}
use Rattle.tables.specs.declared.reply.Reply.{Reply}
use Rattle.tidword.specs.TidWord.{tid_of}
use Rattle.tidword.specs.Lawful.{IsLawful, next}
use Rattle.cells.specs.Versions.{last_tid}
use Rattle.cells.specs.Records.{CellsView, PenView, ReaderView, HasGrown, at, cell_count}
use Rattle.readset.specs.Writes.{WriteSetView, AreWrittenOfKind, value_for}
use Rattle.book.specs.Book.{HasSeen}
use Rattle.book.specs.History.{new_versions}
use Rattle.book.specs.declared.entry.Entry.{Entry}
use Rattle.book.specs.declared.prepare.Place.{Place}
use Rattle.book.specs.declared.prepare.Prepared.{Prepared}

-- what is made for a commit at this place, behind so many of the run: its TID, and its entry for the history, for its
-- stream and for its terminal
pub record IsPrepared (place : Place) (count : ℕ) (input : Input) (reply : Reply) (writes : WriteSetView)
    (made : Prepared) : Type 0 where
  pub below : place.past + count < place.cap
  pub tid : next (tid_of place.seen) (tid_of place.last) place.epoch ≡ Some made.tid
  pub lawful : IsLawful place.seen place.last place.epoch made.tid
  pub entry : arc_value made.entry ≡ record {
    number = place.past + count + 1;
    tid = made.tid;
    terminal = place.terminal;
    input = input;
    reply = reply;
    writes = writes;
  }
  pub waiting : arc_value made.waiting ≡ arc_value made.entry
  pub done : made.done ≡ record { number = place.past + count + 1; tid = made.tid; reply = reply }

-- an entry's writes may be stored: pen and reader are of these cells, what is written has a cell of its kind, and the
-- TID has no status bits and is larger than the last one of each record written
pub record MayStore (cells : CellsView) (pen : PenView) (reader : ReaderView) (entry : Entry) : Type 0 where
  pub own : (pen.cells ≡ cells) × (reader.cells ≡ cells)
  pub within : (n : ℕ) (value : Option (List ℕ)) → value_for entry.writes n ≡ Some value → n < cell_count cells
  pub kinds : AreWrittenOfKind cells entry.writes
  pub no_bits : entry.tid % 8 ≡ 0
  pub larger : (n : ℕ) (value : Option (List ℕ)) → value_for entry.writes n ≡ Some value
      → last_tid (at pen.all n) < entry.tid

-- they are stored: each record has its versions more, which the reader has seen
pub record StoresEntry (old new : PenView) (before after : ReaderView) (entry : Entry) : Type 0 where
  pub cells : new.cells ≡ old.cells
  pub versions : (n : ℕ) → at new.all n ≡ at old.all n ++ new_versions entry.tid entry.writes.values n
  pub reader : HasGrown before after
  pub seen : HasSeen after new entry.writes
