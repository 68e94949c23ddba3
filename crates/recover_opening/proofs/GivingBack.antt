-- Disks that a refusal gives back.
use Rattle.std.proofs.Common.{◌≡◌, ⊎_elim, ℕ, zero, suc, ◌+◌, ◌-◌, ◌^◌, ◌<◌, ◌≤◌, min, List, [], ◌∷◌, ◌++◌, map, length, take, get_or, set, refl, sym, ap, ◌∙◌, subst, arith}
use Rattle.std.proofs.lemmas.Bool.{cases_lt}
use Rattle.std.proofs.lemmas.List.{ext_get_or, get_or-map, get_or_append_left, get_or-append_right, get_or-set_same, get_or-set_other, get_or_default, length-append, length-map, length-set, map-append}
use Rattle.std.proofs.Math.Seq.{get_or-append_seam, take-append_seam}
use Rattle.money.specs.declared.refusal.Refusal.{Refusal}
use Rattle.money.specs.declared.refusal.Refusal.TheVariants.{Device}
use Rattle.tables.specs.Sizes.{Sizes}
use Rattle.log_disk.specs.Calls.{Call}
use Rattle.logfile.specs.Refused.{after_syncs, IsOnlySynced, IsGivenBack}
use Rattle.logfile.specs.Standing.{LogFileView}
use Rattle.recover_files.specs.Files.{DeviceHasFailed}
use Rattle.recover_opening.specs.Opening.{IsSyncedOnce, AreSynced, AreGivenBack}
use Rattle.recover_opening.proofs.Reopening.{some_in, Opened, disks_of, IsOpenSoFar}
use Rattle.recover_opening.proofs.Syncing.{IsSyncedSoFar}

-- what is made of what is made of a list
map_twice : {A B C : Type 0} (g : B → C) (f : A → B) (xs : List A) → map g (map f xs) ≡ map (λ x. g (f x)) xs
map_twice g f [] = refl
map_twice g f (x ∷ xs) = ap (λ rest. g (f x) ∷ rest) (map_twice g f xs)

-- what was counted of a device that failed, among others
failed_at : (front rest : List ℕ) (before now : ℕ) → now ≡ min (before + 1) (2 ^ 64 - 1)
    → DeviceHasFailed (front ++ before ∷ rest) (front ++ now ∷ rest)
failed_at front rest before now is = record {
  device = length front;
  among = omega (arith, length-append front (before ∷ rest));
  failed =
      get_or-append_seam front now rest 0 ∙ is
      ∙ ap (λ (n : ℕ). min (n + 1) (2 ^ 64 - 1)) (sym (get_or-append_seam front before rest 0));
}

module _ {D : Type 0} (IsModelled : Type 0) (seen_of : D → List ℕ) (story_of : D → List Call) where
  abbrev EachUnwritten : List D → List D → Type 0
  EachUnwritten old new = (l : ℕ) → l < length old → (disk : D) → IsOnlySynced IsModelled seen_of story_of (get_or old l disk) (get_or new l disk)

  stays : (disk : D) → IsOnlySynced IsModelled seen_of story_of disk disk
  stays disk = record { seen = λ _. refl; story = λ _. (0, refl) }

  -- all of two parts
  of_both : (front front_new rest rest_new : List D) → length front_new ≡ length front → EachUnwritten front front_new → EachUnwritten rest rest_new
      → EachUnwritten (front ++ rest) (front_new ++ rest_new)
  of_both front front_new rest rest_new count first others l less disk = ⊎_elim
      (λ (is : l < length front).
      subst (λ (d : D). IsOnlySynced IsModelled seen_of story_of d (get_or (front_new ++ rest_new) l disk)) (sym (get_or_append_left front rest disk l is))
      (subst (λ (d : D). IsOnlySynced IsModelled seen_of story_of (get_or front l disk) d) (sym (get_or_append_left front_new rest_new disk l (omega (arith, is, count))))
      (first l is disk)))
      (λ (is : length front ≤ l).
      subst (λ (d : D). IsOnlySynced IsModelled seen_of story_of d (get_or (front_new ++ rest_new) l disk))
      (sym (get_or-append_right front rest (length front) l disk refl is))
      (subst (λ (d : D). IsOnlySynced IsModelled seen_of story_of (get_or rest (l - length front) disk) d)
      (sym (get_or-append_right front_new rest_new (length front) l disk count is))
      (others (l - length front) (omega (arith, less, is, length-append front rest)) disk)))
      (cases_lt l (length front))

  -- one disk, and those behind it
  with_others : (old new : D) (rest : List D) → IsOnlySynced IsModelled seen_of story_of old new → EachUnwritten (old ∷ rest) (new ∷ rest)
  with_others old new rest is zero less disk = is
  with_others old new rest is (suc l) less disk = stays (get_or rest l disk)

  module _ {failed_of : D → ℕ} where
    -- a sync more before that
    behind_sync : {old mid new : D} → IsSyncedOnce IsModelled seen_of story_of failed_of old mid → IsOnlySynced IsModelled seen_of story_of mid new
        → IsOnlySynced IsModelled seen_of story_of old new
    behind_sync synced left = record {
      seen = λ modelled. left.seen modelled ∙ synced.seen modelled;
      story = λ modelled.
          let more = left.story modelled in
          (suc more.0, more.1 ∙ (λ i. after_syncs more.0 (synced.seen modelled i) (synced.story modelled i)));
    }

    synced_once : {old new : D} → IsSyncedOnce IsModelled seen_of story_of failed_of old new → IsOnlySynced IsModelled seen_of story_of old new
    synced_once {old} {new} synced = behind_sync synced (stays new)

    -- nothing was called
    pub all_stay : (refusal : Refusal) (disks : List D) → (refusal ≡ Device → ⊥)
        → AreGivenBack IsModelled seen_of story_of failed_of refusal disks disks
    all_stay refusal disks other = record {
      count = refl;
      each = λ l less disk. stays (get_or disks l disk);
      failed = λ is. absurd (other is);
      not_failed = λ _. refl;
    }

    -- the sync of disk n has failed, whatever stands for those past the end
    pub stops : {first disks : List D} {n : ℕ} (past now : D) → IsSyncedSoFar IsModelled seen_of story_of failed_of first n disks → n < length disks
        → (IsModelled → seen_of now ≡ seen_of (get_or disks n past)) → (IsModelled → story_of now ≡ story_of (get_or disks n past))
        → failed_of now ≡ min (failed_of (get_or disks n past) + 1) (2 ^ 64 - 1)
        → AreGivenBack IsModelled seen_of story_of failed_of Device first (set disks n now)
    stops {first} {disks} {n} past now so_far within seen story counts =
        let here : (disk : D) → get_or disks n past ≡ get_or first n disk
        = λ disk. get_or_default disks n past disk within ∙ so_far.others n (omega arith) disk in
        let other : (l : ℕ) → (l ≡ n → ⊥) → (disk : D) → get_or (set disks n now) l disk ≡ get_or disks l disk
        = λ l no disk. get_or-set_other disks n l now disk no in
        let among : n < length first = omega (arith, within, so_far.count) in
        let among_new : n < length (set disks n now) = omega (arith, within, length-set disks n now) in
        record {
          count = length-set disks n now ∙ so_far.count;
          each = λ l less disk. ⊎_elim
              (λ (before : l < n).
              subst (λ (d : D). IsOnlySynced IsModelled seen_of story_of (get_or first l disk) d) (sym (other l (λ same. omega (arith, before, same)) disk))
              (synced_once (so_far.each l before disk)))
              (λ (up : n ≤ l). ⊎_elim
              (λ (behind : n < l).
              subst (λ (d : D). IsOnlySynced IsModelled seen_of story_of (get_or first l disk) d)
              (sym (other l (λ same. omega (arith, behind, same)) disk ∙ so_far.others l up disk)) (stays (get_or first l disk)))
              (λ (low : l ≤ n).
              subst (λ (k : ℕ). IsOnlySynced IsModelled seen_of story_of (get_or first k disk) (get_or (set disks n now) k disk)) {x = n} {y = l} (omega (arith, up, low))
              (subst (λ (d : D). IsOnlySynced IsModelled seen_of story_of d (get_or (set disks n now) n disk)) (here disk)
              (subst (λ (d : D). IsOnlySynced IsModelled seen_of story_of (get_or disks n past) d) (sym (get_or-set_same disks n now disk within))
              (record { seen = seen; story = λ modelled. (0, story modelled) }))))
              (cases_lt n l))
              (cases_lt l n);
          failed = λ _. record {
            device = n;
            among = omega (arith, among, length-map first failed_of);
            failed =
                get_or-map failed_of (set disks n now) n past 0 among_new
                ∙ ap failed_of (get_or-set_same disks n now past within) ∙ counts
                ∙ ap (λ (k : ℕ). min (k + 1) (2 ^ 64 - 1)) (ap failed_of (here past) ∙ sym (get_or-map failed_of first n past 0 among));
          };
          not_failed = λ no. absurd (no refl);
        }

    -- the same, where the disks are written back into their vector
    pub back_in : {refusal : Refusal} {first mid : List D} (n : ℕ) (rest all : List D) → first ≡ all → n ≡ length all → refusal ≡ Device
        → AreGivenBack IsModelled seen_of story_of failed_of Device first mid
        → AreGivenBack IsModelled seen_of story_of failed_of refusal all (take n (mid ++ rest))
    back_in {refusal} {first} {mid} n rest all same count is back =
        let written : take n (mid ++ rest) ≡ mid =
        ap (λ (k : ℕ). take k (mid ++ rest)) (count ∙ sym (back.count ∙ ap length same)) ∙ take-append_seam mid rest in
        subst (λ (r : Refusal). AreGivenBack IsModelled seen_of story_of failed_of r all (take n (mid ++ rest))) (sym is)
        (subst (λ (xs : List D). AreGivenBack IsModelled seen_of story_of failed_of Device xs (take n (mid ++ rest))) same
        (subst (AreGivenBack IsModelled seen_of story_of failed_of Device first) (sym written) back))

    module _ {first mid : List D} (synced : AreSynced IsModelled seen_of story_of failed_of first mid) where
      same_failed : map failed_of mid ≡ map failed_of first
      same_failed =
          ext_get_or 0 (map failed_of mid) (map failed_of first)
          (length-map mid failed_of ∙ synced.count ∙ sym (length-map first failed_of)) (λ l less.
          let in_mid : l < length mid = omega (arith, less, length-map mid failed_of) in
          let within : l < length first = omega (arith, in_mid, synced.count) in
          let some : D = some_in first l within in
          get_or-map failed_of mid l some 0 in_mid ∙ (synced.each l within some).failed ∙ sym (get_or-map failed_of first l some 0 within))

      -- all were synced before
      pub behind_syncs : {refusal : Refusal} {new : List D} → AreGivenBack IsModelled seen_of story_of failed_of refusal mid new
          → AreGivenBack IsModelled seen_of story_of failed_of refusal first new
      behind_syncs {refusal} {new} back = record {
        count = back.count ∙ synced.count;
        each = λ l less disk. behind_sync (synced.each l less disk) (back.each l (omega (arith, less, synced.count)) disk);
        failed = λ is. subst (λ (before : List ℕ). DeviceHasFailed before (map failed_of new)) same_failed (back.failed is);
        not_failed = λ no. back.not_failed no ∙ same_failed;
      }

    module _ {s : Sizes} {seed loggers : ℕ} {first rest : List D} {files : List (LogFileView D)} {all : List _}
        (so_far : IsOpenSoFar IsModelled seen_of story_of failed_of s seed loggers first rest files all) where
      -- the disks of files that were opened
      abbrev opened_on : List D
      opened_on = map (λ (x : Opened D). x.file.disk) so_far.done

      opened_count : length opened_on ≡ length (disks_of so_far.done)
      opened_count = length-map so_far.done (λ (x : Opened D). x.file.disk) ∙ sym (length-map so_far.done (λ (x : Opened D). x.disk))

      each_opened : EachUnwritten (disks_of so_far.done) opened_on
      each_opened l less disk =
          let within : l < length so_far.done = omega (arith, less, length-map so_far.done (λ (x : Opened D). x.disk)) in
          let some : Opened D = some_in so_far.done l within in
          subst (λ (d : D). IsOnlySynced IsModelled seen_of story_of d (get_or opened_on l disk)) (sym (get_or-map (λ (x : Opened D). x.disk) so_far.done l some disk within))
          (subst (λ (d : D). IsOnlySynced IsModelled seen_of story_of (get_or so_far.done l some).disk d) (sym (get_or-map (λ (x : Opened D). x.file.disk) so_far.done l some disk within))
          (synced_once (so_far.each l within some).synced))

      same_counts : map failed_of opened_on ≡ map failed_of (disks_of so_far.done)
      same_counts =
          ext_get_or 0 (map failed_of opened_on) (map failed_of (disks_of so_far.done))
          (length-map opened_on failed_of ∙ opened_count ∙ sym (length-map (disks_of so_far.done) failed_of)) (λ l less.
          let in_opened : l < length opened_on = omega (arith, less, length-map opened_on failed_of) in
          let within : l < length so_far.done = omega (arith, in_opened, length-map so_far.done (λ (x : Opened D). x.file.disk)) in
          let some : Opened D = some_in so_far.done l within in
          get_or-map failed_of opened_on l some.disk 0 in_opened
          ∙ ap failed_of (get_or-map (λ (x : Opened D). x.file.disk) so_far.done l some some.disk within)
          ∙ (so_far.each l within some).synced.failed
          ∙ sym (ap failed_of (get_or-map (λ (x : Opened D). x.disk) so_far.done l some some.disk within))
          ∙ sym (get_or-map failed_of (disks_of so_far.done) l some.disk 0 (omega (arith, in_opened, opened_count))))

      -- a disk refuses, and all are put back
      pub put_back : (refusal : Refusal) (disk back : D) (left new : List D) → rest ≡ disk ∷ left
          → IsGivenBack IsModelled seen_of story_of failed_of refusal disk back
          → new ≡ map (λ (f : LogFileView D). f.disk) files ++ back ∷ left
          → AreGivenBack IsModelled seen_of story_of failed_of refusal first new
      put_back refusal disk back left new next is new_is =
          let disks : List D = disks_of so_far.done in
          let parts : disks ++ disk ∷ left ≡ first = ap (λ (ds : List D). disks ++ ds) (sym next) ∙ so_far.disks_are in
          let opened : new ≡ opened_on ++ back ∷ left = new_is
          ∙ ap (λ (ds : List D). ds ++ back ∷ left) (ap (map (λ (f : LogFileView D). f.disk)) so_far.files_are ∙ map_twice (λ (f : LogFileView D). f.disk) (λ (x : Opened D). x.file) so_far.done) in
          let before : map failed_of (disks ++ disk ∷ left) ≡ map failed_of disks ++ failed_of disk ∷ map failed_of left
          = map-append failed_of disks (disk ∷ left) in
          let now : map failed_of (opened_on ++ back ∷ left) ≡ map failed_of disks ++ failed_of back ∷ map failed_of left
          = map-append failed_of opened_on (back ∷ left) ∙ ap (λ (ns : List ℕ). ns ++ failed_of back ∷ map failed_of left) same_counts in
          subst (λ (ds : List D). AreGivenBack IsModelled seen_of story_of failed_of refusal ds new) parts
          (subst (λ (ds : List D). AreGivenBack IsModelled seen_of story_of failed_of refusal (disks ++ disk ∷ left) ds) (sym opened)
          (record {
            count = omega (arith, opened_count, length-append opened_on (back ∷ left), length-append disks (disk ∷ left));
            each = of_both disks opened_on (disk ∷ left) (back ∷ left) opened_count each_opened (with_others disk back left is.unwritten);
            failed = λ e.
                subst (λ (ns : List ℕ). DeviceHasFailed ns (map failed_of (opened_on ++ back ∷ left))) (sym before)
                (subst (DeviceHasFailed (map failed_of disks ++ failed_of disk ∷ map failed_of left)) (sym now)
                (failed_at (map failed_of disks) (map failed_of left) (failed_of disk) (failed_of back) (is.failed e)));
            not_failed = λ no.
                now ∙ ap (λ (n : ℕ). map failed_of disks ++ n ∷ map failed_of left) (is.not_failed no) ∙ sym before;
          }))
