-- Disks that were all synced, and then opened, each with a sync of its own.
use Rattle.std.proofs.Common.{◌≡◌, ℕ, ◌<◌, List, [], ◌∷◌, ◌++◌, take, map, length, get_or, refl, sym, ap, ◌∙◌, subst, arith}
use Rattle.std.proofs.lemmas.List.{ext_get_or, get_or-map, length-map}
use Rattle.std.proofs.Math.Seq.{take-append_seam}
use Rattle.tables.specs.Sizes.{Sizes}
use Rattle.log_disk.specs.Calls.{Call, Synced}
use Rattle.log_disk.specs.Crashes.{MayLeave}
use Rattle.log_header.specs.Header.{HeaderView, header_view}
use Rattle.log_text.specs.Bodies.{BodyView}
use Rattle.log_text.specs.File.{IsFile}
use Rattle.logfile.specs.Standing.{LogFileView}
use Rattle.recover_crashes.specs.World.{DiskView}
use Rattle.recover_files.specs.Files.{AreFiles, AreNoFiles, AreOnDisks, AreShort}
use Rattle.recover_opening.specs.Opening.{disk_on, file_on, IsSyncedOnce, AreSynced, IsOpenBehind, IsReopened, AreReopened, AreOpenBehind, IsOpenedOn, AreOpened}
use Rattle.recover_opening.proofs.Reopening.{some_in, to_four}

module _ {D : Type 0} {IsModelled : Type 0} {seen_of : D → List ℕ} {story_of : D → List Call} {failed_of : D → ℕ} where
  -- one disk
  on_one : {h : HeaderView} {bodies : List BodyView} {old mid : D} {bytes : List ℕ} {file : LogFileView D}
      → IsSyncedOnce IsModelled seen_of story_of failed_of old mid → IsReopened IsModelled seen_of story_of failed_of h mid bytes file bodies
      → IsModelled → MayLeave (story_of old) (seen_of old)
      → IsOpenedOn h bodies (disk_on seen_of story_of old) (file_on seen_of story_of file)
  on_one synced is modelled gives = record {
    opened = record {
      header = is.behind.header;
      count = is.behind.count;
      number = is.behind.number;
      near = is.behind.near;
      stands = is.stands modelled;
    };
    usable = is.behind.usable;
    seen = is.synced.seen modelled ∙ synced.seen modelled;
    story = is.synced.story modelled ∙ (λ i. Synced (synced.seen modelled i) ∷ synced.story modelled i);
    gives = gives;
    short = omega (arith, is.short, ap length (is.modelled modelled ∙ synced.seen modelled));
  }

  module _ {first mid : List D} (synced : AreSynced IsModelled seen_of story_of failed_of first mid) where
    same_seen : IsModelled → map seen_of mid ≡ map seen_of first
    same_seen modelled =
        let count : length (map seen_of mid) ≡ length (map seen_of first) = length-map mid seen_of ∙ synced.count ∙ sym (length-map first seen_of) in
        ext_get_or [] (map seen_of mid) (map seen_of first) count (λ l less.
        let in_mid : l < length mid = omega (arith, less, length-map mid seen_of) in
        let within : l < length first = omega (arith, in_mid, synced.count) in
        let some : D = some_in first l within in
        get_or-map seen_of mid l some [] in_mid ∙ (synced.each l within some).seen modelled ∙ sym (get_or-map seen_of first l some [] within))

    -- the same, where the disks are written back into their vector
    pub written_back : (n : ℕ) (rest all : List D) → first ≡ all → n ≡ length all
        → AreSynced IsModelled seen_of story_of failed_of all (take n (mid ++ rest))
    written_back n rest all same count =
        let written : take n (mid ++ rest) ≡ mid =
        ap (λ (k : ℕ). take k (mid ++ rest)) (count ∙ sym (synced.count ∙ ap length same)) ∙ take-append_seam mid rest in
        subst (λ (xs : List D). AreSynced IsModelled seen_of story_of failed_of xs (take n (mid ++ rest))) same
        (subst (AreSynced IsModelled seen_of story_of failed_of first) (sym written) synced)

    pub damaged_before : {s : Sizes} {seed : ℕ} → IsModelled → AreNoFiles s seed (map seen_of mid) → AreNoFiles s seed (map seen_of first)
    damaged_before {s} {seed} modelled are = subst (AreNoFiles s seed) (same_seen modelled) are

    module _ {s : Sizes} {seed : ℕ} {files : List (LogFileView D)} {bodies : List (List BodyView)}
        (opened : AreReopened IsModelled seen_of story_of failed_of s seed (length mid) mid files bodies) where
      in_mid : (l : ℕ) → l < length first → l < length mid
      in_mid l less = omega (arith, less, synced.count)

      in_files : (l : ℕ) → l < length first → l < length files
      in_files l less = omega (arith, less, opened.files_count, synced.count)

      pub behind : AreOpenBehind s seed (length first) files bodies
      behind = record {
        files_count = opened.files_count ∙ synced.count;
        bodies_count = opened.bodies_count ∙ synced.count;
        each = λ l less file.
            subst (λ (n : ℕ). IsOpenBehind (header_view l n s seed) (get_or bodies l []) (get_or files l file)) synced.count
            (opened.each l (in_mid l less) (some_in first l less) file).behind;
      }

      pub all_opened : IsModelled → ((disk : D) → MayLeave (story_of disk) (seen_of disk))
          → AreOpened s seed (map (disk_on seen_of story_of) first) (map (file_on seen_of story_of) files) bodies
      all_opened modelled gives =
          let f : D → DiskView = disk_on seen_of story_of in
          let k : LogFileView D → LogFileView DiskView = file_on seen_of story_of in
          let count : length (map f first) ≡ length first = length-map first f in
          record {
            files_count = length-map files k ∙ opened.files_count ∙ synced.count ∙ sym count;
            bodies_count = opened.bodies_count ∙ synced.count ∙ sym count;
            each = λ l less disk file.
                let within : l < length first = omega (arith, less, count) in
                let some : D = some_in first l within in
                let some_file : LogFileView D = some_in files l (in_files l within) in
                to_four (λ (n : ℕ) (b : List BodyView) (d : DiskView) (v : LogFileView DiskView). IsOpenedOn (header_view l n s seed) b d v)
                (length mid) (length (map f first)) (get_or bodies l []) (get_or bodies l []) (f (get_or first l some)) (get_or (map f first) l disk)
                (k (get_or files l some_file)) (get_or (map k files) l file)
                (synced.count ∙ sym count) refl (sym (get_or-map f first l some disk within))
                (sym (get_or-map k files l some_file file (in_files l within)))
                (on_one (synced.each l within some) (opened.each l (in_mid l within) some some_file) modelled (gives (get_or first l some)));
          }

      pub none_failed : map (λ (file : LogFileView D). failed_of file.disk) files ≡ map failed_of first
      none_failed =
          let k : LogFileView D → ℕ = λ file. failed_of file.disk in
          ext_get_or 0 (map k files) (map failed_of first)
          (length-map files k ∙ opened.files_count ∙ synced.count ∙ sym (length-map first failed_of)) (λ l less.
          let within : l < length first = omega (arith, less, length-map files k, opened.files_count, synced.count) in
          let some : D = some_in first l within in
          let some_file : LogFileView D = some_in files l (in_files l within) in
          get_or-map k files l some_file 0 (in_files l within) ∙ (opened.each l (in_mid l within) some some_file).synced.failed
          ∙ (synced.each l within some).failed ∙ sym (get_or-map failed_of first l some 0 within))

      pub on_disks : AreOnDisks IsModelled (map seen_of first) opened.strings
      on_disks =
          let count : length opened.strings ≡ length (map seen_of first) =
          opened.strings_count ∙ synced.count ∙ sym (length-map first seen_of) in
          record {
            count = count;
            modelled = λ modelled. ext_get_or [] opened.strings (map seen_of first) count (λ l less.
                let within : l < length first = omega (arith, less, opened.strings_count, synced.count) in
                let some : D = some_in first l within in
                (opened.each l (in_mid l within) some (some_in files l (in_files l within))).modelled modelled
                ∙ (synced.each l within some).seen modelled ∙ sym (get_or-map seen_of first l some [] within));
          }

      pub are_short : AreShort opened.strings
      are_short = λ l less.
          let within : l < length first = omega (arith, less, opened.strings_count, synced.count) in
          (opened.each l (in_mid l within) (some_in first l within) (some_in files l (in_files l within))).short

      pub are_files : AreFiles s seed opened.strings bodies
      are_files = record {
        count = opened.bodies_count ∙ sym opened.strings_count;
        each = λ l less.
            let within : l < length first = omega (arith, less, opened.strings_count, synced.count) in
            subst (λ (n : ℕ). IsFile (get_or opened.strings l []) (header_view l n s seed) (get_or bodies l [])) (sym opened.strings_count)
            (opened.each l (in_mid l within) (some_in first l within) (some_in files l (in_files l within))).read.is;
      }
