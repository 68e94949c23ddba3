-- Failures that are counted while epochs are given up, and what a refused restart gives back.
use Rattle.std.proofs.Common.{◌++◌, take, drop, ◌≡◌, ◌⊎◌, inl, inr, ℕ, ◌+◌, ◌-◌, ◌^◌, ◌<◌, min, false, List, [], ◌∷◌, length, map, get_or, refl, sym, ap, ◌∙◌, subst, arith}
use Rattle.std.proofs.lemmas.List.{ext_get_or, get_or-map, length-map}
use Rattle.money.specs.declared.refusal.Refusal.{Refusal}
use Rattle.money.specs.declared.refusal.Refusal.TheVariants.{Device}
use Rattle.tables.specs.Database.{Database}
use Rattle.log_disk.specs.Calls.{Call}
use Rattle.log_text.specs.Bodies.{BodyView}
use Rattle.logfile.specs.Refused.{after_syncs}
use Rattle.logfile.specs.Standing.{LogFileView}
use Rattle.recover_files.specs.Files.{DeviceHasFailed}
use Rattle.recover_crashes.specs.World.{DiskView}
use Rattle.recover_opening.specs.Opening.{AreGivenBack, AreOpenBehind, AreOpened, disk_on, file_on}
use Rattle.recover_restart.specs.Declaring.{AreDeclared, no_failure, device_failure}
use Rattle.recover_restart.specs.Restarting.{AreStopped, HasStopped, IsRefusedRestart}
use Rattle.recover_restart.proofs.Losing.{one_of, written_back}

-- how many calls of a file's disk have failed
abbrev counted_of : {D : Type 0} → (D → ℕ) → LogFileView D → ℕ
counted_of failed file = failed file.disk

module _ {D : Type 0} {IsModelled : Type 0} {seen : D → List ℕ} {story : D → List Call} {failed : D → ℕ} where
  -- on Ok none has failed
  pub none_failed : {low high : ℕ} (old new : List (LogFileView D)) → AreDeclared IsModelled seen story failed low high no_failure old new
      → map (counted_of failed) new ≡ map (counted_of failed) old
  none_failed old new are =
      ext_get_or 0 (map (counted_of failed) new) (map (counted_of failed) old) (length-map new (counted_of failed) ∙ are.count ∙ sym (length-map old (counted_of failed))) (λ l less.
      let in_new : l < length new = omega (arith, less, length-map new (counted_of failed)) in
      let within : l < length old = omega (arith, in_new, are.count) in
      let some : LogFileView D = one_of old (omega (arith, within)) in
      get_or-map (counted_of failed) new l some 0 in_new ∙ (are.front l some (omega (arith, within, are.all))).none_failed
      ∙ sym (get_or-map (counted_of failed) old l some 0 within))

  -- where one has, its failure is (counted_of failed)
  pub one_failed : {low high : ℕ} (old new : List (LogFileView D)) → ((l : ℕ) → l < length old → (file : LogFileView D) → (get_or old l file).failed ≡ false)
      → AreDeclared IsModelled seen story failed low high device_failure old new → DeviceHasFailed (map (counted_of failed) old) (map (counted_of failed) new)
  one_failed old new usable are =
      let stopped = are.stopped refl in
      let l : ℕ = are.reached in
      let some : LogFileView D = one_of old (omega (arith, stopped.0)) in
      record {
        device = l;
        among = omega (arith, stopped.0, length-map old (counted_of failed));
        failed =
            get_or-map (counted_of failed) new l some 0 (omega (arith, stopped.0, are.count))
            ∙ (stopped.1 some).cause (usable l stopped.0 some) refl
            ∙ ap (λ (n : ℕ). min (n + 1) (2 ^ 64 - 1)) (sym (get_or-map (counted_of failed) old l some 0 stopped.0));
      }

-- the disks of files that were opened, as they are given back
abbrev disks_of : {D : Type 0} → List (LogFileView D) → List D
disks_of files = map (λ file. file.disk) files

map_of_disks : {D X : Type 0} (f : D → X) (files : List (LogFileView D)) → map f (disks_of files) ≡ map (λ file. f file.disk) files
map_of_disks f [] = refl
map_of_disks f (file ∷ files) = ap (λ rest. f file.disk ∷ rest) (map_of_disks f files)

module _ {D : Type 0} {IsModelled : Type 0} {seen : D → List ℕ} {story : D → List Call} {failed : D → ℕ} (t0 : Database) (seed : ℕ)
    (disks : List D) (opened : List (LogFileView D)) (bodies : List (List BodyView))
    (same : map (counted_of failed) opened ≡ map failed disks) where
  -- a device has stopped the restart
  has_stopped : (terminals : ℕ) (left : List (LogFileView D)) (new : List D)
      → (IsModelled → AreOpened t0.scale seed (map (disk_on seen story) disks) (map (file_on seen story) opened) bodies)
      → AreOpenBehind t0.scale seed (length disks) opened bodies
      → AreStopped IsModelled seen story failed t0 seed (length disks) terminals bodies opened left
      → new ≡ disks_of left
      → HasStopped IsModelled seen story failed t0 seed terminals disks new
  has_stopped terminals left new are_opened behind stopped new_is = record {
    opened = opened;
    left = left;
    bodies = bodies;
    are_opened = are_opened;
    are_stopped = stopped;
    disks = new_is;
    failed =
        let usable : (l : ℕ) → l < length opened → (file : LogFileView D) → (get_or opened l file).failed ≡ false
        = λ l less file. (behind.each l (omega (arith, less, behind.files_count)) file).usable in
        subst (λ (before : List ℕ). DeviceHasFailed before (map failed new)) same
        (subst (DeviceHasFailed (map (counted_of failed) opened))
        (sym (ap (map failed) new_is ∙ map_of_disks failed left))
        (one_failed opened left usable stopped.declared));
  }

  -- something else refuses it, behind the files that were opened
  not_stopped : (refusal : Refusal) → (refusal ≡ Device → ⊥) → (new : List D)
      → (IsModelled → AreOpened t0.scale seed (map (disk_on seen story) disks) (map (file_on seen story) opened) bodies)
      → length opened ≡ length disks → new ≡ disks_of opened
      → AreGivenBack IsModelled seen story failed refusal disks new
  not_stopped refusal other new are_opened count new_is =
      record {
        count = ap length new_is ∙ length-map opened (λ (file : LogFileView D). file.disk) ∙ count;
        each = λ l less disk.
            let some : LogFileView D = one_of opened (omega (arith, less, count)) in
            let in_opened : l < length opened = omega (arith, less, count) in
            let at : get_or new l disk ≡ (get_or opened l some).disk = ap (λ (ds : List D). get_or ds l disk) new_is
            ∙ get_or-map (λ (file : LogFileView D). file.disk) opened l some disk in_opened in
            let view : DiskView = disk_on seen story disk in
            let file_view : LogFileView DiskView = file_on seen story some in
            let here : get_or (map (disk_on seen story) disks) l view ≡ disk_on seen story (get_or disks l disk)
            = get_or-map (disk_on seen story) disks l disk view less in
            let there : get_or (map (file_on seen story) opened) l file_view ≡ file_on seen story (get_or opened l some)
            = get_or-map (file_on seen story) opened l some file_view in_opened in
            let among : l < length (map (disk_on seen story) disks) = omega (arith, less, length-map disks (disk_on seen story)) in
            record {
              seen = λ modelled.
                  let is = (are_opened modelled).each l among view file_view in
                  ap seen at ∙ sym (ap (λ (f : LogFileView DiskView). f.disk.seen) there) ∙ is.seen ∙ ap (λ (d : DiskView). d.seen) here;
              story = λ modelled.
                  let is = (are_opened modelled).each l among view file_view in (
                    2,
                    ap story at ∙ sym (ap (λ (f : LogFileView DiskView). f.disk.story) there) ∙ is.story
                        ∙ ap (λ (d : DiskView). after_syncs 2 d.seen d.story) here,
                  );
            };
        failed = λ is. absurd (other is);
        not_failed = λ _. ap (map failed) new_is ∙ map_of_disks failed opened ∙ same;
      }

  -- what a refused restart gives back behind the files that were opened, which were lent and written back
  pub gives_back : (terminals loggers n : ℕ) (refusal : Refusal) (now new : List (LogFileView D)) (given : List D)
      → (IsModelled → AreOpened t0.scale seed (map (disk_on seen story) disks) (map (file_on seen story) opened) bodies)
      → AreOpenBehind t0.scale seed (length disks) opened bodies
      → now ≡ opened → n ≡ length opened → loggers ≡ length disks
      → given ≡ disks_of (take n (new ++ drop (length new) opened))
      → ((refusal ≡ Device → ⊥) × (new ≡ now))
      ⊎ ((refusal ≡ Device) × AreStopped IsModelled seen story failed t0 seed loggers terminals bodies now new)
      → IsRefusedRestart IsModelled seen story failed t0 seed terminals refusal disks given
  gives_back terminals loggers n refusal now new given are_opened behind value n_is loggers_are given_is (inl stays) =
      inl (not_stopped refusal stays.0 given are_opened behind.files_count
      (given_is ∙ ap disks_of (written_back n opened new n_is (ap length (stays.1 ∙ value)) ∙ stays.1 ∙ value)))
  gives_back terminals loggers n refusal now new given are_opened behind value n_is loggers_are given_is (inr stopped) =
      inr (
        stopped.0,
        has_stopped terminals new given are_opened behind
            (subst (λ (k : ℕ). AreStopped IsModelled seen story failed t0 seed k terminals bodies opened new) loggers_are
            (subst (λ (files : List (LogFileView D)). AreStopped IsModelled seen story failed t0 seed loggers terminals bodies files new) value stopped.1))
            (given_is ∙ ap disks_of (written_back n opened new n_is (stopped.1.declared.count ∙ ap length value))),
      )

-- no device has failed, of files that were lent and written back
pub none_failed_in : {D : Type 0} (failed : D → ℕ) {n : ℕ} (items now new : List (LogFileView D)) (first : List ℕ) → now ≡ items → n ≡ length items
    → length new ≡ length now → map (counted_of failed) new ≡ map (counted_of failed) now → map (counted_of failed) items ≡ first
    → map (counted_of failed) (take n (new ++ drop (length new) items)) ≡ first
none_failed_in failed {n} items now new first value n_is count same before =
    ap (map (counted_of failed)) (written_back n items new n_is (count ∙ ap length value)) ∙ same ∙ ap (map (counted_of failed)) value ∙ before
