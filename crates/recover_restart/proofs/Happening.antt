-- A restart as what happens over the lives of a database.
use Rattle.std.proofs.Common.{◌≡◌, ◌⊎◌, inl, inr, ⊎_elim, ℕ, zero, suc, ◌<◌, ◌≤◌, min, List, [], ◌∷◌, length, map, get_or, refl, sym, ap, ◌∙◌, subst, arith}
use Rattle.std.specs.Prelude.{unwrap_or}
use Rattle.std.specs.Option.{option_map_or}
use Rattle.std.proofs.lemmas.Bool.{cases_lt}
use Rattle.std.proofs.lemmas.List.{ext_get_or, get_or_past}
use Rattle.tables.specs.Database.{Database}
use Rattle.tables.specs.OrderNumbers.{least}
use Rattle.log_disk.specs.Calls.{Call}
use Rattle.log_disk.specs.Crashes.{MayLeave}
use Rattle.log_text.specs.Bodies.{BodyView}
use Rattle.logfile.specs.Standing.{LogFileView}
use Rattle.book.specs.Parts.{first_of}
use Rattle.book.specs.declared.entry.Entry.{Entry}
use Rattle.book.specs.declared.parts.Parts.{Parts}
use Rattle.recover_found.specs.Found.{durable_of, found, last_mark}
use Rattle.recover_found.specs.Rebuilt.{IsRebuilt}
use Rattle.recover_crashes.specs.Recovering.{IsDurable, counts_in, cut}
use Rattle.recover_crashes.specs.World.{Life, DiskView}
use Rattle.recover_laws.specs.Found.{listed}
use Rattle.recover_laws.proofs.Joined.{length_listed, listed_at}
use Rattle.recover_lives.specs.Events.{FilesAreRead, IsTop, MayOpen, Open}
use Rattle.recover_lives.specs.World.{Origin, Declaring, Waits, Declared, Lives, Down, Restarting}
use Rattle.recover_opening.specs.Opening.{AreOpened}
use Rattle.recover_restart.specs.Lives.{origin_behind, life_behind, world_behind, MayLead}
use Rattle.recover_restart.specs.Restarting.{GoesOnBehind, IsRestart}
use Rattle.recover_restart.proofs.Leading.{by_one, and_then, set_below, set_front, set_all}
use Rattle.recover_restart.proofs.Composed.{all_read, all_voided}

-- the least of what files have stands among it, and is no greater than any
least_in : (f : List BodyView → ℕ) (files : List (List BodyView)) → 0 < length files
    → (l : ℕ) × (l < length files) × (f (get_or files l []) ≡ unwrap_or (least (map f files)) 0)
least_in f [] some = absurd (omega (arith, some))
least_in f (b ∷ []) some = (0, omega arith, refl)
least_in f (b ∷ c ∷ cs) some =
    let rest = least_in f (c ∷ cs) (omega arith) in
    let m : ℕ = option_map_or (min (f c)) (least (map f cs)) (f c) in
    cases rest (cases_lt (f b) m)
  where
    cases : (l : ℕ) × (l < length (c ∷ cs)) × (f (get_or (c ∷ cs) l []) ≡ option_map_or (min (f c)) (least (map f cs)) (f c))
        → (f b < option_map_or (min (f c)) (least (map f cs)) (f c)) ⊎ (option_map_or (min (f c)) (least (map f cs)) (f c) ≤ f b)
        → (l : ℕ) × (l < length (b ∷ c ∷ cs)) × (f (get_or (b ∷ c ∷ cs) l []) ≡ min (f b) (option_map_or (min (f c)) (least (map f cs)) (f c)))
    cases rest (inl less) = (0, omega arith, omega (arith, less))
    cases rest (inr more) = (suc rest.0, omega (arith, rest.1), rest.2 ∙ omega (arith, more))

pub least_below : (f : List BodyView → ℕ) (files : List (List BodyView)) (l : ℕ) → l < length files
    → unwrap_or (least (map f files)) 0 ≤ f (get_or files l [])
least_below f [] l less = absurd (omega (arith, less))
least_below f (b ∷ []) zero less = omega arith
least_below f (b ∷ []) (suc l) less = absurd (omega (arith, less))
least_below f (b ∷ c ∷ cs) zero less = omega arith
least_below f (b ∷ c ∷ cs) (suc l) less = omega (arith, least_below f (c ∷ cs) l (omega (arith, less)))

is_durable : (files : List (List BodyView)) (n durable : ℕ) → length files ≡ n → 0 < n → durable ≡ durable_of files
    → IsDurable n (λ l. get_or files l []) durable
is_durable files n durable count some is =
    let among = least_in (last_mark 0) files (omega (arith, count, some)) in
    record {
      among = (among.0, omega (arith, count, among.1), among.2 ∙ sym is);
      least = λ l less. omega (arith, is, least_below (last_mark 0) files l (omega (arith, count, less)));
    }

listed_all : (files : List (List BodyView)) (n : ℕ) → length files ≡ n → listed n (λ l. get_or files l []) ≡ files
listed_all files n count =
    ext_get_or [] (listed n (λ l. get_or files l [])) files (length_listed n (λ l. get_or files l []) ∙ sym count)
    (λ l less. listed_at n (λ k. get_or files k []) l [] (omega (arith, less, length_listed n (λ k. get_or files k []))))

module _ {t0 : Database} {seed loggers terminals : ℕ} {disks : List DiskView} {old : List (LogFileView DiskView)}
    {bodies : List (List BodyView)} {parts : Parts} {durable top commits : ℕ} (opened : AreOpened t0.scale seed disks old bodies)
    (goes : GoesOnBehind t0 seed loggers terminals bodies parts durable top commits) (some : 0 < length disks) where
  abbrev o : Origin
  o = origin_behind t0 seed (length disks)

  files_read : (file : LogFileView DiskView)
      → FilesAreRead o (λ l. (get_or old l file).disk) (λ l. get_or bodies l []) durable top (λ l. get_or old l file)
  files_read file = record {
    opened = λ l less. (opened.each l less file.disk file).opened;
    disk = λ l less. refl;
    gives = λ l less.
        let is = opened.each l less file.disk file in
        subst (λ (story : List Call). MayLeave story (get_or old l file).disk.seen) (sym is.story) is.seen;
    short = λ l less. let is = opened.each l less file.disk file in omega (arith, is.short, ap length is.seen);
    is_durable = is_durable bodies (length disks) durable opened.bodies_count some goes.durable_is;
    is_top = subst (λ (n : ℕ). IsTop n (λ l. get_or bodies l []) top) opened.bodies_count goes.is_top.is_top;
    room = goes.room;
  }

  -- each disk is synced twice, and all files are read
  pub opens : (disk : DiskView) (file : LogFileView DiskView) (known : ℕ) (history released : List Entry)
      → MayLead o (Down (λ l. get_or disks l disk) known history released)
      (Restarting (λ l. get_or bodies l []) durable top (λ l. get_or old l file) (λ l. Waits) history released)
  opens disk file known history released =
      all_read o known history released (λ l. get_or disks l disk) (λ l. (get_or old l file).disk)
      (λ l less. (opened.each l less disk file).gives)
      (λ l less.
      let is = opened.each l less disk file in
      (2, λ i. record { seen = is.seen i; story = is.story i }))
      (λ l. get_or bodies l []) durable top (λ l. get_or old l file) (files_read file)

  pub begins : (steps : ℕ → Declaring) → ((l : ℕ) → l < length disks → durable < top → steps l ≡ Declared)
      → MayOpen o (λ l. get_or bodies l []) durable top steps (life_behind (first_of parts) commits seed (length disks) top)
  begins steps declared = record {
    gives = record {
      rebuilt = subst (λ (bs : List (List BodyView)). IsRebuilt t0 (found bs) (first_of parts))
          (sym (listed_all bodies (length disks) opened.bodies_count)) goes.rebuilt;
      commits_found = goes.commits_are
          ∙ ap (λ (bs : List (List BodyView)). length (found bs)) (sym (listed_all bodies (length disks) opened.bodies_count));
    };
    version = refl;
    seed = refl;
    loggers = refl;
    base = refl;
    declared = declared;
  }

module _ (t0 : Database) (seed terminals : ℕ) (disks : List DiskView) (parts : Parts) (files : List (LogFileView DiskView))
    (commits epoch known : ℕ) (history released : List Entry) (disk : DiskView) (file : LogFileView DiskView)
    (r : IsRestart t0 seed terminals disks parts files commits epoch) (some : 0 < length disks) where
  abbrev origin : Origin
  origin = origin_behind t0 seed (length disks)

  abbrev life : Life
  life = life_behind (first_of parts) commits seed (length disks) r.top

  abbrev past : List Entry
  past = cut (counts_in (length disks) (λ l. get_or r.bodies l []) r.durable) history

  abbrev before : Lives
  before = Down (λ l. get_or disks l disk) known history released

  abbrev between : (ℕ → LogFileView DiskView) → (ℕ → Declaring) → Lives
  between its_files steps = Restarting (λ l. get_or r.bodies l []) r.durable r.top its_files steps history released

  -- from files that stand so, and such steps, to the life on the files
  ends : (its_files : ℕ → LogFileView DiskView) (steps : ℕ → Declaring)
      → ((l : ℕ) → l < length disks → r.durable < r.top → steps l ≡ Declared)
      → its_files ≡ (λ l. get_or files l file)
      → MayLead origin (between its_files steps) (world_behind life past released (λ l. get_or files l file))
  ends its_files steps declared same =
      subst (λ (fs : ℕ → LogFileView DiskView). MayLead origin (between its_files steps) (world_behind life past released fs)) same
      (by_one origin (between its_files steps) (Open life) (begins r.opened r.goes_on some steps declared))

  beyond : (l : ℕ) → length disks ≤ l → length files ≡ length r.old → get_or r.old l file ≡ get_or files l file
  beyond l le count =
      get_or_past r.old l file (omega (arith, le, r.opened.files_count))
      ∙ sym (get_or_past files l file (omega (arith, le, count, r.opened.files_count)))

  declares : r.durable < r.top
      → MayLead origin (between (λ l. get_or r.old l file) (λ l. Waits)) (world_behind life past released (λ l. get_or files l file))
  declares more =
      let n : ℕ = length disks in
      let old : ℕ → LogFileView DiskView = λ l. get_or r.old l file in
      let new : ℕ → LogFileView DiskView = λ l. get_or files l file in
      let steps : ℕ → Declaring = set_below n (λ l. Declared) (λ l. Waits) in
      and_then origin (between old (λ l. Waits)) (between (set_below n new old) steps) (world_behind life past released new)
      (all_voided origin (λ l. get_or r.bodies l []) r.durable r.top history released n (omega arith) old new more
      (λ l less. r.lost.some more l file (omega (arith, less, r.opened.files_count))))
      (ends (set_below n new old) steps (λ l less _. set_front n (λ k. Declared) (λ k. Waits) l less)
      (set_all n new old (λ l le. beyond l le r.lost.count)))

  pub restart_leads : MayLead origin before (world_behind life past released (λ l. get_or files l file))
  restart_leads =
      and_then origin before (between (λ l. get_or r.old l file) (λ l. Waits)) (world_behind life past released (λ l. get_or files l file))
      (opens r.opened r.goes_on some disk file known history released)
      (⊎_elim declares
      (λ (le : r.top ≤ r.durable).
      let same : r.old ≡ files = sym (r.lost.none le) in
      ends (λ l. get_or r.old l file) (λ l. Waits) (λ l less more. absurd (omega (arith, le, more))) (λ i l. get_or (same i) l file))
      (cases_lt r.durable r.top))
