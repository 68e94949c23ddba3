-- Reading log files, disk after disk.
use Rattle.std.proofs.Common.{◌≡◌, ◌≢◌, ◌⊎◌, ⊎_elim, ℕ, ◌+◌, ◌-◌, ◌<◌, ◌^◌, min, List, [], ◌∷◌, ◌++◌, map, length, get_or, set, take, drop, Vec, Global, refl, sym, ap, ◌∙◌, subst, arith, below_more}
use Rattle.std.proofs.lemmas.List.{get_or-map, get_or-set_same, set-get_or, length-set, length-map, length-append, length-drop, length_push, get_or_append_left, get_or_push, take_more, take-append-drop, map_push}
use Rattle.std.proofs.Math.Seq.{map-set_same}
use Rattle.log_disk.specs.Calls.{Call, OnlyReads}
use Rattle.log_header.specs.Header.{HeaderView}
use Rattle.log_text.specs.Bodies.{BodyView}
use Rattle.log_text.specs.File.{IsFile}
use Rattle.log_text.specs.declared.body.Body.{Body}
use Rattle.log_text.proofs.OneFile.{one_file}
use Rattle.recover_files.specs.Files.{AreFilesWith, AreOnDisks, DeviceHasFailed}
use Rattle.recover_files.specs.declared.file_set.FileSet.{FileSet}
use Rattle.recover_found.specs.Found.{bodies_in}

abbrev pub bodies_of_file : Vec Body Global → List BodyView
bodies_of_file bodies = bodies_in bodies.items

-- file l of these strings, with these bodies
abbrev IsShortFile : List ℕ → HeaderView → List BodyView → Type 0
IsShortFile t h bodies = (length t < 2 ^ 64) × IsFile t h bodies

abbrev IsFileAt : (ℕ → HeaderView) → List (List ℕ) → List (List BodyView) → ℕ → Type 0
IsFileAt headers strings files l = IsShortFile (get_or strings l []) (headers l) (get_or files l [])

module _ (headers : ℕ → HeaderView) (strings : List (List ℕ)) (files : List (List BodyView)) (i : ℕ)
    (strings_count : length strings ≡ i) (files_count : length files ≡ i) (string : List ℕ) (file : List BodyView) where
  stays : (l : ℕ) → l < i → IsFileAt headers strings files l
      → IsFileAt headers (strings ++ string ∷ []) (files ++ file ∷ []) l
  stays l less is =
      subst (λ (t : List ℕ). IsShortFile t (headers l) (get_or (files ++ file ∷ []) l []))
      (sym (get_or_append_left strings (string ∷ []) [] l (omega (arith, less, strings_count))))
      (subst (λ (bodies : List BodyView). IsShortFile (get_or strings l []) (headers l) bodies)
      (sym (get_or_append_left files (file ∷ []) [] l (omega (arith, less, files_count)))) is)

  comes : IsShortFile string (headers i) file → IsFileAt headers (strings ++ string ∷ []) (files ++ file ∷ []) i
  comes is =
      subst (λ (t : List ℕ). IsShortFile t (headers i) (get_or (files ++ file ∷ []) i []))
      (sym (get_or_push strings string [] i strings_count))
      (subst (λ (bodies : List BodyView). IsShortFile string (headers i) bodies)
      (sym (get_or_push files file [] i files_count)) is)

  -- one file more, in its place
  one_more : ((l : ℕ) → l < i → IsFileAt headers strings files l) → IsShortFile string (headers i) file
      → (l : ℕ) → l < i + 1 → IsFileAt headers (strings ++ string ∷ []) (files ++ file ∷ []) l
  one_more each is =
      below_more (IsFileAt headers (strings ++ string ∷ []) (files ++ file ∷ [])) i
      (λ l less. stays l less (each l less)) (comes is)

-- the first i disks are read, whose files are of one version, and no disk has changed
pub record IsReadSoFar {X : Type 0} (modelled : Type 0) (seen : X → List ℕ) (story : X → List Call) (failed : X → ℕ)
    (headers : ℕ → ℕ → HeaderView) (first : List X) (i : ℕ) (disks : List X) (files : FileSet) : Type 0 where
  pub count : length disks ≡ length first
  pub strings : List (List ℕ)
  pub strings_count : length strings ≡ i
  pub files_count : length files.bodies.items ≡ i
  pub are_seen : modelled → strings ≡ take i (map seen first)
  pub each : (l : ℕ) → l < i → IsFileAt (headers files.version) strings (map bodies_of_file files.bodies.items) l
  pub same : OnlyReads modelled (map seen) (map story) first disks
  pub same_failed : map failed disks ≡ map failed first

module _ {X : Type 0} {modelled : Type 0} {seen : X → List ℕ} {story : X → List Call} {failed : X → ℕ}
    {headers : ℕ → ℕ → HeaderView} {first : List X} where
  pub begins : {files : FileSet} → files.bodies.items ≡ []
      → IsReadSoFar modelled seen story failed headers first 0 first files
  begins none = record {
    count = refl;
    strings = [];
    strings_count = refl;
    files_count = ap (λ (l : List (Vec Body Global)). length l) none;
    are_seen = λ _. refl;
    each = λ l less. absurd (omega (arith, less));
    same = record { seen = λ _. refl; story = λ _. refl };
    same_failed = refl;
  }

  -- disk i, whatever stands for those past the end, becomes now
  module _ {i : ℕ} {disks : List X} {files : FileSet} (past now : X)
      (so_far : IsReadSoFar modelled seen story failed headers first i disks files) where
    pub only_reads : OnlyReads modelled seen story (get_or disks i past) now
        → OnlyReads modelled (map seen) (map story) first (set disks i now)
    only_reads same = record {
      seen = λ given. map-set_same seen disks i now past (same.seen given) ∙ so_far.same.seen given;
      story = λ given. map-set_same story disks i now past (same.story given) ∙ so_far.same.story given;
    }

    pub failed_stays : failed now ≡ failed (get_or disks i past) → map failed (set disks i now) ≡ map failed first
    failed_stays same = map-set_same failed disks i now past same ∙ so_far.same_failed

    pub count_stays : length (set disks i now) ≡ length first
    count_stays = length-set disks i now ∙ so_far.count

    module _ (within : i < length disks) where
      here : {Y : Type 0} (f : X → Y) (e : Y) → map f disks ≡ map f first
          → get_or (map f first) i e ≡ f (get_or disks i past)
      here f e same = (λ j. get_or (sym same j) i e) ∙ get_or-map f disks i past e within

      among : {Y : Type 0} (f : X → Y) → i < length (map f first)
      among f = omega (arith, within, so_far.count, length-map first f)

      -- a file of this version was read from the disk
      abbrev IsReadHere : ℕ → Vec Body Global → Type 0
      IsReadHere version bodies = (string : List ℕ) × (length string < 2 ^ 64)
          × (modelled → string ≡ seen (get_or disks i past)) × IsFile string (headers version i) (bodies_of_file bodies)

      -- for modelled disks the strings read, with this one, are what a read gives
      as_read : (string : List ℕ) → (modelled → string ≡ seen (get_or disks i past)) → modelled
          → so_far.strings ++ string ∷ [] ≡ take (i + 1) (map seen first)
      as_read string same given =
          (λ j. so_far.are_seen given j ++ (same given ∙ sym (here seen [] (so_far.same.seen given))) j ∷ [])
          ∙ sym (take_more (map seen first) i [] (among seen))

      pub goes_on : (version : ℕ) (bodies : Vec Body Global) {longer : FileSet} → IsReadHere version bodies
          → OnlyReads modelled seen story (get_or disks i past) now → failed now ≡ failed (get_or disks i past)
          → longer.version ≡ version → ((files.bodies.items ≡ []) ⊎ (files.version ≡ version))
          → longer.bodies.items ≡ files.bodies.items ++ bodies ∷ []
          → IsReadSoFar modelled seen story failed headers first (i + 1) (set disks i now) longer
      goes_on version bodies {longer} read same failed_same version_is others_are pushed = record {
        count = count_stays;
        strings = so_far.strings ++ read.0 ∷ [];
        strings_count = length_push so_far.strings read.0 ∙ ap (λ (n : ℕ). n + 1) so_far.strings_count;
        files_count = ap (λ (l : List (Vec Body Global)). length l) pushed ∙ length_push files.bodies.items bodies
            ∙ ap (λ (n : ℕ). n + 1) so_far.files_count;
        are_seen = as_read read.0 read.2;
        each = subst
            (λ (l : List (List BodyView)). (n : ℕ) → n < i + 1
            → IsFileAt (headers longer.version) (so_far.strings ++ read.0 ∷ []) l n)
            (sym (map_push bodies_of_file files.bodies.items bodies) ∙ ap (map bodies_of_file) (sym pushed))
            (one_more (headers longer.version) so_far.strings (map bodies_of_file files.bodies.items) i
            so_far.strings_count (length-map files.bodies.items bodies_of_file ∙ so_far.files_count) read.0
            (bodies_of_file bodies) before
            (read.1, subst (λ (v : ℕ). IsFile read.0 (headers v i) (bodies_of_file bodies)) (sym version_is) read.3));
        same = only_reads same;
        same_failed = failed_stays failed_same;
      }
        where
          -- the files before are of its version
          before : (l : ℕ) → l < i
              → IsFileAt (headers longer.version) so_far.strings (map bodies_of_file files.bodies.items) l
          before l less = ⊎_elim
              (λ none. absurd (omega (arith, less, so_far.files_count, ap (λ (x : List (Vec Body Global)). length x) none)))
              (λ is. subst (λ (v : ℕ). IsFileAt (headers v) so_far.strings (map bodies_of_file files.bodies.items) l)
              (is ∙ sym version_is) (so_far.each l less))
              others_are

      -- a disk whose file is of another version than the first
      pub mixed : ((v l : ℕ) → (headers v l).version ≡ v) → (version : ℕ) (bodies : Vec Body Global)
          → IsReadHere version bodies → files.bodies.items ≢ [] → files.version ≢ version
          → (strings : List (List ℕ)) × AreOnDisks modelled (map seen first) strings
          × ((v : ℕ) (all : List (List BodyView)) → AreFilesWith (headers v) strings all → ⊥)
      mixed versions version bodies read some other = (
        strings,
        record {
          count = count;
          modelled = λ given. (λ j. as_read read.0 read.2 given j ++ drop (i + 1) (map seen first))
              ∙ take-append-drop (i + 1) (map seen first);
        },
        λ v all are. other (version_of_first v all are ∙ sym (version_here v all are)),
      )
        where
          front : List (List ℕ)
          front = so_far.strings ++ read.0 ∷ []

          strings : List (List ℕ)
          strings = front ++ drop (i + 1) (map seen first)

          front_count : length front ≡ i + 1
          front_count = length_push so_far.strings read.0 ∙ ap (λ (n : ℕ). n + 1) so_far.strings_count

          count : length strings ≡ length (map seen first)
          count = omega (
            arith,
            length-append front (drop (i + 1) (map seen first)),
            front_count,
            length-drop (i + 1) (map seen first),
            among seen,
          )

          positive : 0 < i
          positive = more files.bodies.items so_far.files_count some
            where
              more : (l : List (Vec Body Global)) → length l ≡ i → l ≢ [] → 0 < i
              more [] is apart = absurd (apart refl)
              more (x ∷ xs) is apart = omega (arith, is)

          first_string : get_or strings 0 [] ≡ get_or so_far.strings 0 []
          first_string = get_or_append_left front (drop (i + 1) (map seen first)) [] 0 (omega (arith, front_count))
              ∙ get_or_append_left so_far.strings (read.0 ∷ []) [] 0 (omega (arith, positive, so_far.strings_count))

          string_here : get_or strings i [] ≡ read.0
          string_here = get_or_append_left front (drop (i + 1) (map seen first)) [] i (omega (arith, front_count))
              ∙ get_or_push so_far.strings read.0 [] i so_far.strings_count

          version_of_first : (v : ℕ) (all : List (List BodyView)) → AreFilesWith (headers v) strings all
              → files.version ≡ v
          version_of_first v all are =
              let is = so_far.each 0 positive in
              let same = (one_file (get_or so_far.strings 0 []) (headers files.version 0) (headers v 0)
              (get_or (map bodies_of_file files.bodies.items) 0 []) (get_or all 0 []) is.0 is.1
              (subst (λ (t : List ℕ). IsFile t (headers v 0) (get_or all 0 [])) first_string
              (are.each 0 (omega (arith, count, among seen))))).0 in
              sym (versions files.version 0) ∙ ap (λ (h : HeaderView). h.version) same ∙ versions v 0

          version_here : (v : ℕ) (all : List (List BodyView)) → AreFilesWith (headers v) strings all → version ≡ v
          version_here v all are =
              let same = (one_file read.0 (headers version i) (headers v i) (bodies_of_file bodies) (get_or all i [])
              read.1 read.3
              (subst (λ (t : List ℕ). IsFile t (headers v i) (get_or all i [])) string_here
              (are.each i (omega (arith, count, among seen))))).0 in
              sym (versions version i) ∙ ap (λ (h : HeaderView). h.version) same ∙ versions v i

      -- a disk that holds no such file
      pub none : ((file : List ℕ) × (modelled → file ≡ seen (get_or disks i past))
          × ((version : ℕ) (bodies : List BodyView) → IsFile file (headers version i) bodies → ⊥))
          → (strings : List (List ℕ)) × AreOnDisks modelled (map seen first) strings
          × ((version : ℕ) (files : List (List BodyView)) → AreFilesWith (headers version) strings files → ⊥)
      none read =
          let strings : List (List ℕ) = set (map seen first) i read.0 in
          let count : length strings ≡ length (map seen first) = length-set (map seen first) i read.0 in (
            strings,
            record {
              count = count;
              modelled = λ given. ap (set (map seen first) i) (read.1 given ∙ sym (here seen [] (so_far.same.seen given)))
                  ∙ set-get_or (map seen first) i [];
            },
            λ version all are. read.2 version (get_or all i [])
                (subst (λ (t : List ℕ). IsFile t (headers version i) (get_or all i []))
                (get_or-set_same (map seen first) i read.0 [] (among seen))
                (are.each i (omega (arith, among seen, count)))),
          )

      -- a disk whose call fails
      pub fails : failed now ≡ min (failed (get_or disks i past) + 1) (2 ^ 64 - 1)
          → DeviceHasFailed (map failed first) (map failed (set disks i now))
      fails e = record {
        device = i;
        among = among failed;
        failed =
            get_or-map failed (set disks i now) i now 0 (omega (arith, within, length-set disks i now))
            ∙ ap failed (get_or-set_same disks i now now within) ∙ e
            ∙ ap (λ (n : ℕ). min (n + 1) (2 ^ 64 - 1)) (sym (here failed 0 so_far.same_failed));
      }
