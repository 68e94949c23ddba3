-- A worked list of events over two lives, with a crash inside a restart: each may occur where it does.
use Rattle.std.proofs.Common.{◌≡◌, inr, ℕ, zero, suc, ◌+◌, ◌<◌, ◌≤◌, ◌^◌, false, Some, Result, Ok, List, [], ◌∷◌, ◌++◌, length, refl, sym, arith, append-nil}
use Rattle.std.proofs.lemmas.List.Elements.{All-nil}
use Rattle.std.proofs.lemmas.List.Sorted.{IsPermutation-refl}
use Rattle.money.specs.declared.refusal.Refusal.{Refusal}
use Rattle.tables.specs.Sizes.{IsScale}
use Rattle.tables.specs.Database.{Database}
use Rattle.tables.specs.Rows.{rows}
use Rattle.tidword.specs.TidWord.{epoch_of}
use Rattle.encoding.specs.Held.{by_key, AreTables}
use Rattle.log_codec.specs.Numbers.{number}
use Rattle.log_disk.specs.Calls.{Wrote, Synced, written}
use Rattle.log_header.specs.Header.{IsHeader, header_text, scale_text}
use Rattle.log_header.specs.declared.header.TheConstants.{VERSION}
use Rattle.log_text.specs.Bodies.{BodyView, Entries, bodies_after, start}
use Rattle.log_text.specs.Entries.{EntryView}
use Rattle.log_text.specs.File.{IsFile, opened}
use Rattle.log_text.specs.declared.last.Last.{Last}
use Rattle.book.specs.Batches.{BatchView}
use Rattle.logfile.specs.Standing.{LogFileView}
use Rattle.recover_found.proofs.Elements.{has_from}
use Rattle.recover_crashes.specs.World.{Life, DiskView, IsOpened}
use Rattle.recover_crashes.specs.Events.{Advance, Take, CallDevice, text_of}
use Rattle.recover_lives.specs.World.{Origin, origin_of, header_at, Lives, Down, first_world, disk_at}
use Rattle.recover_lives.specs.Events.{LivesEvent, Within, Stop, Crash, SyncDisk, Read, Declare, CallVoid, Open, IsTop, RecoveryGives}
use Rattle.recover_lives.specs.Events.{void_body, struck, lives_after, lives_after_all, MayOccurInTurn}

-- ---- one list of events behind another
in_turn : (o : Origin) (w : Lives) (events later : List LivesEvent) → MayOccurInTurn o w events → MayOccurInTurn o (lives_after_all o w events) later
    → MayOccurInTurn o w (events ++ later)
in_turn o w [] later may more = more
in_turn o w (event ∷ events) later may more = (may.0, in_turn o (lives_after o w event) events later may.1 more)

-- what holds of the numbers 0 and 1 holds of each below 2
of_two : (P : ℕ → Type 0) → P 0 → P 1 → (l : ℕ) → l < 2 → P l
of_two P first second zero lt = first
of_two P first second (suc zero) lt = second
of_two P first second (suc (suc l)) lt = absurd (omega (arith, lt))

-- ---- disks
abbrev done : Result (Unit {0}) Refusal
done = Ok tt

-- a disk once bytes were written at a place, and once it was synced
abbrev with_bytes : ℕ → List ℕ → DiskView → DiskView
with_bytes at bytes d = record { seen = written d.seen at bytes; story = Wrote at (length bytes) ∷ d.story }

abbrev with_sync : DiskView → DiskView
with_sync d = record { seen = d.seen; story = Synced d.seen ∷ d.story }

-- and a file's, after each of the four calls that put a body into it
abbrev text_written : LogFileView DiskView → BodyView → DiskView
text_written file body = with_bytes (file.end + 1) (text_of body) file.disk

abbrev text_synced : LogFileView DiskView → BodyView → DiskView
text_synced file body = with_sync (text_written file body)

abbrev gate_opened : LogFileView DiskView → BodyView → DiskView
gate_opened file body = with_bytes file.end (1 ∷ []) (text_synced file body)

abbrev gate_synced : LogFileView DiskView → BodyView → DiskView
gate_synced file body = with_sync (gate_opened file body)

-- ---- a database of any tables of a scale, whose records hold what they hold, with two loggers
module _ (first : Database) (scale : IsScale first.scale) (held : AreTables first (by_key first.scale (rows first)) first) where
  abbrev life : Life
  life = record { version = VERSION; first = first; past = 0; seed = 0; plan = record { loggers = 2; base = 0 } }

  abbrev o : Origin
  o = origin_of life

  header_is : (l : ℕ) → l < 2 → IsHeader (header_at o l)
  header_is l lt = record {
    version = (omega arith, omega arith);
    scale = scale;
    loggers = (omega arith, omega arith);
    logger = lt;
    seed = omega arith;
  }

  -- the text of a file, and a file on a disk with these bytes, which was synced
  abbrev text : ℕ → List BodyView → List ℕ
  text l bodies = header_text (header_at o l) ++ (opened bodies ++ 0 ∷ [])

  abbrev file_on : DiskView → ℕ → List BodyView → Last → LogFileView DiskView
  file_on disk l bodies last = record {
    disk = disk;
    header = header_at o l;
    end = length (header_text (header_at o l) ++ opened bodies);
    last = last;
    count = 0;
    number = 0;
    failed = false;
  }

  abbrev settled : List ℕ → DiskView
  settled bytes = record { seen = bytes; story = Synced bytes ∷ [] }

  abbrev created : ℕ → LogFileView DiskView
  created l = file_on (settled (text l [])) l [] start

  is_opened : (bytes : List ℕ) (l : ℕ) (bodies : List BodyView) (last : Last) → IsFile bytes (header_at o l) bodies
      → bodies_after (header_at o l) start bodies ≡ Some last → last.epoch ≤ last.mark + 1
      → IsOpened (header_at o l) bodies (file_on (with_sync (settled bytes)) l bodies last)
  is_opened bytes l bodies last is lawful near = record {
    header = refl;
    count = refl;
    number = refl;
    near = near;
    stands = record { file = is; lawful = lawful; settled = λ left may. may; place = refl };
  }

  -- ---- the first life: E goes on, and the logger 0 appends a batch without entries, of mark 1, which the other hasn't
  abbrev batch : BatchView
  batch = record {
    logger = 0;
    loggers = 2;
    scale = first.scale;
    seed = 0;
    first = 0;
    number_before = 0;
    mark_before = 0;
    entries = [];
    mark = 1;
  }

  abbrev body : BodyView
  body = Entries 1 []

  -- then a crash comes
  abbrev strings : ℕ → List ℕ
  strings zero = (gate_synced (created 0) body).seen
  strings (suc l) = text (suc l) []

  abbrev first_life : List LivesEvent
  first_life = Within Advance ∷ Within (Take 0 batch)
      ∷ Within (CallDevice 0 done (text_written (created 0) body)) ∷ Within (CallDevice 0 done (text_synced (created 0) body))
      ∷ Within (CallDevice 0 done (gate_opened (created 0) body)) ∷ Within (CallDevice 0 done (gate_synced (created 0) body))
      ∷ Crash strings ∷ []

  first_life_may : MayOccurInTurn o (first_world life created) first_life
  first_life_may = (
    omega arith,
    (
      record {
        within = omega arith;
        idle = refl;
        continues = record { logger = refl; loggers = refl; scale = refl; seed = refl; first = refl; number_before = refl; mark_before = refl };
        entries = refl;
        later = omega arith;
        loaded = omega arith;
      },
      (
        (omega arith, record { seen = refl; story = refl }),
        (
          (omega arith, record { seen = refl; story = refl }),
          (
            (omega arith, record { seen = refl; story = refl }),
            (
              (omega arith, record { seen = refl; story = refl }),
              (
                of_two _ refl refl,
                tt,
              ),
            ),
          ),
        ),
      ),
    ),
  )

  -- nothing has committed, D is 0, and the file 0 has a mark
  abbrev down : Lives
  down = Down (struck strings) 0 [] []

  first_life_ends : lives_after_all o (first_world life created) first_life ≡ down
  first_life_ends = refl

  file_0 : strings 0 ≡ text 0 (body ∷ [])
  unfolding number header_text scale_text
  file_0 = refl

  -- ---- a restart reads this: the durable epoch is 0, and epoch 1 is to be void
  abbrev old : ℕ → List BodyView
  old zero = body ∷ []
  old (suc l) = []

  abbrev files : ℕ → LogFileView DiskView
  files zero = file_on (with_sync (settled (strings 0))) 0 (body ∷ []) (record { mark = 1; epoch = 1 })
  files (suc l) = file_on (with_sync (settled (strings (suc l)))) (suc l) [] start

  abbrev read : List LivesEvent
  read = SyncDisk 0 (with_sync (settled (strings 0))) ∷ SyncDisk 1 (with_sync (settled (strings 1))) ∷ Read old 0 1 files ∷ []

  is_file_0 : IsFile (strings 0) (header_at o 0) (body ∷ [])
  is_file_0 = record { gate = 0; rest = []; text = file_0; is_closed = λ same. omega (arith, same); header = header_is 0 (omega arith); lawful = refl }

  is_file_1 : IsFile (strings 1) (header_at o 1) []
  is_file_1 = record { gate = 0; rest = []; text = refl; is_closed = λ same. omega (arith, same); header = header_is 1 (omega arith); lawful = refl }

  bytes_0 : length (strings 0) ≡ 66
  unfolding number header_text scale_text
  bytes_0 = refl

  bytes_1 : length (strings 1) ≡ 49
  unfolding number header_text scale_text
  bytes_1 = refl

  short_0 : length (strings 0) < 2 ^ 64
  short_0 = omega (arith, bytes_0)

  short_1 : length (strings 1) < 2 ^ 64
  short_1 = omega (arith, bytes_1)

  top_is : IsTop 2 old 1
  top_is = record {
    marks = of_two _ (omega arith) (omega arith);
    entries = of_two _ (All-nil (λ (e : EntryView). epoch_of e.tid ≤ 1)) (All-nil (λ (e : EntryView). epoch_of e.tid ≤ 1));
    voids = of_two _ (λ epoch above. refl) (λ epoch above. refl);
  }

  read_may : MayOccurInTurn o down read
  read_may = (
    (omega arith, record { gives = refl; seen = refl; story = refl }),
    (
      (omega arith, record { gives = refl; seen = refl; story = refl }),
      (
        record {
          opened = of_two _ (is_opened (strings 0) 0 (body ∷ []) (record { mark = 1; epoch = 1 }) is_file_0 refl (omega arith))
              (is_opened (strings 1) 1 [] start is_file_1 refl (omega arith));
          disk = of_two _ refl refl;
          gives = of_two _ refl refl;
          short = of_two _ short_0 short_1;
          is_durable = record { among = (1, omega arith, refl); least = λ l lt. omega arith };
          is_top = top_is;
          room = omega arith;
        },
        tt,
      ),
    ),
  )

  abbrev restarting : Lives
  restarting = lives_after_all o down read

  -- ---- a crash comes inside of it, which takes what was written of the void body
  abbrev broken : List LivesEvent
  broken = Declare 0 ∷ CallVoid 0 done (text_written (files 0) (void_body 0 1)) ∷ Crash strings ∷ []

  broken_may : MayOccurInTurn o restarting broken
  broken_may = (
    (omega arith, refl, omega arith),
    (
      (omega arith, record { seen = refl; story = refl }),
      (
        of_two _ (strings 0, refl, record { no_shorter = omega arith; before = λ i lt front. refl; after = λ i lt behind. refl }) refl,
        tt,
      ),
    ),
  )

  broken_ends : lives_after_all o restarting broken ≡ down
  broken_ends = refl

  -- ---- the next restart declares epoch 1 void in both files, and the second life begins behind it, and ends
  abbrev declared : ℕ → List LivesEvent
  declared l = Declare l
      ∷ CallVoid l done (text_written (files l) (void_body 0 1)) ∷ CallVoid l done (text_synced (files l) (void_body 0 1))
      ∷ CallVoid l done (gate_opened (files l) (void_body 0 1)) ∷ CallVoid l done (gate_synced (files l) (void_body 0 1)) ∷ []

  abbrev next_life : Life
  next_life = record { version = VERSION; first = first; past = 0; seed = 0; plan = record { loggers = 2; base = 1 } }

  gives : RecoveryGives o old first 0
  gives = record {
    rebuilt = record {
      tables = held;
      records = λ n is. inr ((λ d other has _. has_from [] d has), refl);
      commits = [];
      in_order = record { same = IsPermutation-refl []; numbers = tt };
      history = sym (append-nil first.history);
    };
    commits_found = refl;
  }

  abbrev halfway : Lives
  halfway = lives_after_all o restarting (declared 0)

  declared_0 : MayOccurInTurn o restarting (declared 0)
  declared_0 = ((omega arith, refl, omega arith), ((omega arith, record { seen = refl; story = refl }), ((omega arith, record { seen = refl; story = refl }), ((omega arith, record { seen = refl; story = refl }), ((omega arith, record { seen = refl; story = refl }), tt)))))

  declared_1 : MayOccurInTurn o halfway (declared 1)
  declared_1 = ((omega arith, refl, omega arith), ((omega arith, record { seen = refl; story = refl }), ((omega arith, record { seen = refl; story = refl }), ((omega arith, record { seen = refl; story = refl }), ((omega arith, record { seen = refl; story = refl }), tt)))))

  abbrev next_life_alone : List LivesEvent
  next_life_alone = Open next_life ∷ Stop ∷ []

  next_life_may : MayOccurInTurn o (lives_after_all o halfway (declared 1)) next_life_alone
  next_life_may = (
    record {
      gives = gives;
      version = refl;
      seed = refl;
      loggers = refl;
      base = refl;
      declared = of_two _ (λ more. refl) (λ more. refl);
    },
    (tt, tt),
  )

  abbrev taken_up : List LivesEvent
  taken_up = declared 0 ++ (declared 1 ++ next_life_alone)

  taken_up_may : MayOccurInTurn o restarting taken_up
  taken_up_may = in_turn o restarting (declared 0) (declared 1 ++ next_life_alone) declared_0
      (in_turn o halfway (declared 1) next_life_alone declared_1 next_life_may)

  -- ---- all of it, and what is left: D is 1, and both files have the void body
  abbrev events : List LivesEvent
  events = first_life ++ (read ++ (broken ++ (read ++ taken_up)))

  all_may : MayOccurInTurn o (first_world life created) events
  all_may = in_turn o (first_world life created) first_life (read ++ (broken ++ (read ++ taken_up))) first_life_may
      (in_turn o down read (broken ++ (read ++ taken_up)) read_may
      (in_turn o restarting broken (read ++ taken_up) broken_may (in_turn o down read taken_up read_may taken_up_may)))

  abbrev ended : Lives
  ended = lives_after_all o (first_world life created) events

  ended_is : ended ≡ Down (disk_at ended) 1 [] []
  ended_is = refl

  ended_0 : (disk_at ended 0).seen ≡ text 0 (body ∷ void_body 0 1 ∷ [])
  unfolding number header_text scale_text
  ended_0 = refl

  ended_1 : (disk_at ended 1).seen ≡ text 1 (void_body 0 1 ∷ [])
  unfolding number header_text scale_text
  ended_1 = refl
