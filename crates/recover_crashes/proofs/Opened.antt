-- A life as it begins: on files that stand already, or on those that were just made.
use Rattle.std.proofs.Common.{◌≡◌, ℕ, ◌+◌, ◌<◌, ◌≤◌, false, List, [], refl, sym, ◌∙◌, subst, arith, append-nil}
use Rattle.std.specs.List.{Contains}
use Rattle.std.proofs.lemmas.List.Elements.{All-nil}
use Rattle.tidword.specs.TidWord.{epoch_of}
use Rattle.board.specs.Words.{last_epoch}
use Rattle.log_header.specs.Header.{HeaderView}
use Rattle.log_text.specs.Bodies.{BodyView, start}
use Rattle.book.specs.declared.entry.Entry.{Entry}
use Rattle.log_entries.specs.Following.{IsOfVersion}
use Rattle.logfile.specs.Standing.{LogFileView, Stands}
use Rattle.recover_found.specs.Found.{last_mark}
use Rattle.recover_crashes.specs.World.{Life, DiskView, Idle, header_of, opening, IsOpened, IsFirst}
use Rattle.recover_crashes.specs.Recovering.{IsBase, IsFitForLogs}
use Rattle.recover_crashes.specs.Lanes.{IsAbove, FitsLane}
use Rattle.recover_crashes.proofs.Joins.{any_false}
use Rattle.recover_crashes.proofs.Marks.{last_is}
use Rattle.recover_crashes.proofs.Sound.{IsSound, MayTell}

-- a file of these bodies, whose last mark is the board's base
pub lane_begins : (h : HeaderView) (past base : ℕ) (old : List BodyView) (file : LogFileView DiskView) → IsOpened h old file → file.last.mark ≡ base
    → FitsLane h past (base + 1) [] old [] file Idle base
lane_begins h past base old file begins mark = record {
  header = begins.header;
  disk = subst (λ (l : List BodyView). Stands h l file.end file.last file.disk.seen file.disk.story) (sym (append-nil old)) begins.stands;
  waiting = [];
  all = refl;
  count = begins.count;
  number = omega (arith, begins.number);
  logged = refl;
  near = begins.near;
  low = omega (arith, mark);
  above = All-nil (IsAbove file.last.mark);
  next = tt;
  kept = omega (arith, mark);
}

pub opens : (life : Life) (old : ℕ → List BodyView) (files : ℕ → LogFileView DiskView)
    → ((l : ℕ) → l < life.plan.loggers → IsOpened (header_of life l) (old l) (files l))
    → ((l : ℕ) → l < life.plan.loggers → last_mark 0 (old l) ≡ life.plan.base) → life.plan.base < last_epoch
    → IsSound life old (opening life.plan files)
opens life old files begins marks low = record {
  landed = λ l. [];
  lanes = λ l lt. lane_begins (header_of life l) life.past life.plan.base (old l) (files l) (begins l lt)
      (sym (last_is (header_of life l) start (old l) (files l).last (begins l lt).stands.lawful) ∙ marks l lt);
  loaded = λ l. tt;
  durable = λ l lt. omega arith;
  replays = tt;
  stamped = tt;
  fit = All-nil (IsFitForLogs life.first.scale);
  versions = All-nil (IsOfVersion life.version life.first.scale);
  epochs = All-nil (λ (e : Entry). epoch_of e.tid ≤ life.plan.base + 1);
  ends = omega (arith, low);
  released = All-nil (MayTell (opening life.plan files));
  begun = omega arith;
  new = All-nil (λ (e : Entry). life.plan.base < epoch_of e.tid);
  lasting = omega arith;
}

-- a first life has an empty base
pub first_base : (life : Life) (files : ℕ → LogFileView DiskView) → IsFirst life files → IsBase life.first life (λ l. []) [] []
first_base life files first = record {
  tell = record {
    is_durable = record { among = (0, first.some, sym first.base); least = λ l lt. omega (arith, first.base) };
    rest = [];
    beginning = refl;
    held = λ l lt. refl;
    told = All-nil (λ (e : Entry). Contains [] e);
    replays = tt;
    stamped = tt;
    fit = All-nil (IsFitForLogs life.first.scale);
  };
  marks = λ l lt. sym first.base;
  within = λ l lt. All-nil (λ e. epoch_of e.tid ≤ life.plan.base);
  alive = λ epoch above. any_false life.plan.loggers (λ l. false) (λ l lt. refl);
  whole = refl;
  first = refl;
  count = first.past;
  room = omega (arith, first.base);
}
