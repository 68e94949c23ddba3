-- A moment of a life, whatever its threads have done by then: what stands in its tables and files, and what the types
-- of its parts keep of that.
use Rattle.std.specs.Prelude.{◌≡◌, ℕ, ◌+◌, ◌<◌, ◌≤◌, false, List, []}
use Rattle.std.specs.List.{All, Contains}
use mathlib.Core.Option.{some}
use lib.ListN.{get_elem?}
use Rattle.tidword.specs.TidWord.{epoch_of}
use Rattle.annals.specs.declared.claims.Known.{Known}
use Rattle.annals.specs.Rule.{AreAnnals}
use Rattle.board.specs.declared.rule.View.{View}
use Rattle.board.specs.declared.rule.Role.TheVariants.{Logger}
use Rattle.board.specs.Words.{durable_in}
use Rattle.board.specs.Steps.{stored_mark, seen_durable}
use Rattle.board.specs.Rule.{is_gone, IsLawfulBoard}
use Rattle.log_text.specs.Bodies.{BodyView}
use Rattle.book.specs.Batches.{BatchView}
use Rattle.book.specs.Dates.{date_of}
use Rattle.book.specs.History.{Replays}
use Rattle.book.specs.Stamps.{AreStamped}
use Rattle.book.specs.Streams.{stream}
use Rattle.book.specs.declared.entry.Entry.{Entry}
use Rattle.log_entries.specs.Following.{IsOfVersion}
use Rattle.logfile.specs.Standing.{LogFileView}
use Rattle.recover_crashes.specs.World.{Life, DiskView, Flight, World, header_of}
use Rattle.recover_crashes.specs.Lanes.{FitsLane}
use Rattle.recover_crashes.specs.Recovering.{IsFitForLogs}

-- a logger: its open file, on a disk as it is now, what it has under way, which batches came into its file, and its
-- local mark
pub record LoggerMoment : Type 0 where
  pub file : LogFileView DiskView
  pub flight : Flight
  pub landed : List BatchView
  pub local : ℕ

-- the board's words, and what each seat knows of them; what each pass of the annals knows; what has committed, and the
-- epoch up to which that is all; the entries whose replies were released, newest first; and the loggers, by number
pub record Moment : Type 0 where
  pub words : List ℕ
  pub seats : List View
  pub passes : List (Known Entry)
  pub history : List Entry
  pub mark : ℕ
  pub released : List Entry
  pub logger : ℕ → LoggerMoment

-- what a logger's type keeps, whose seat and whose pass are among these: its file, behind the old bodies, is a lane of
-- its stream, as far as its pass knows the history, and its local mark is the one that its seat has stored last
pub record IsLoggerOfMoment (life : Life) (old : List BodyView) (m : Moment) (l : ℕ) (x : LoggerMoment) : Type 0 where
  pub seat : ℕ
  pub view : View
  pub seated : get_elem? m.seats seat ≡ some view
  pub role : view.role ≡ Logger l
  pub stored : x.local ≡ stored_mark life.plan.base view.steps
  pub pass : ℕ
  pub known : Known Entry
  pub passed : get_elem? m.passes pass ≡ some known
  pub lane : FitsLane (header_of life l) life.past (known.own.mark + 1)
      (stream life.plan.loggers l known.own.front) old x.landed x.file x.flight x.local

-- what a terminal's type keeps of a reply that it has released: its pass has the entry, and its seat has seen D at or
-- above the entry's epoch
pub record IsToldAt (life : Life) (m : Moment) (e : Entry) : Type 0 where
  pub seat : ℕ
  pub view : View
  pub seated : get_elem? m.seats seat ≡ some view
  pub here : is_gone view.role ≡ false
  pub durable : epoch_of e.tid ≤ seen_durable life.plan.base view.steps
  pub pass : ℕ
  pub known : Known Entry
  pub passed : get_elem? m.passes pass ≡ some known
  pub cited : Contains known.own.has e

-- what is so at every moment of a life that stands on these bodies: the rules of the board and of the annals; what the
-- book's type keeps of the history that the annals have; and of each logger and each reply the above
pub record IsMoment (life : Life) (old : ℕ → List BodyView) (m : Moment) : Type 0 where
  pub board : IsLawfulBoard life.plan m.words m.seats
  pub annals : AreAnnals date_of life.plan.base m.passes
  pub history : annals.history ≡ m.history
  pub mark : annals.mark ≡ m.mark
  pub replays : Replays (life.past + 1) life.first m.history
  pub stamped : AreStamped m.history
  pub fit : All (IsFitForLogs life.first.scale) m.history
  pub versions : All (IsOfVersion life.version life.first.scale) m.history
  pub loggers : (l : ℕ) → l < life.plan.loggers → IsLoggerOfMoment life (old l) m l (m.logger l)
  pub released : All (IsToldAt life m) m.released

-- the moment as a world in which crashes happen. No publication is under way there, and E is at its lowest: what a
-- crash leaves hangs on neither
abbrev pub world_at : Life → Moment → World
world_at life m = record {
  epoch = life.plan.base + 1;
  found = m.mark + 1;
  durable = durable_in m.words;
  history = m.history;
  released = m.released;
  logger = λ l. record { file = (m.logger l).file; flight = (m.logger l).flight; local = (m.logger l).local; marks = [] };
}
