-- What is read of two parts of the disks, as what is read of all.
use Rattle.std.proofs.Common.{◌≡◌, ◌≢◌, ◌⊎◌, ◌↔◌, inl, inr, ⊎_elim, ℕ, ◌+◌, ◌-◌, ◌<◌, ◌^◌, min, List, [], ◌++◌, map, length, get_or, take, drop}
use Rattle.std.proofs.Common.{Vec, Global, Result, Ok, Err, IfOk, IfErr, IsErrOf, refl, sym, ap, ◌∙◌, subst, arith}
use Rattle.std.proofs.lemmas.Bool.{cases_lt}
use Rattle.std.proofs.lemmas.List.{get_or_append_left, get_or-append_right, length-append, length-map, length-take, map-append, take-append-drop}
use Rattle.std.proofs.lemmas.Result.{IfOk-at_ok, IfOk-weaker, IfErr-weaker}
use Rattle.money.specs.declared.refusal.Refusal.{Refusal}
use Rattle.money.specs.declared.refusal.Refusal.TheVariants.{OutOfMemory, Damaged, Device}
use Rattle.tables.specs.Sizes.{Sizes}
use Rattle.log_disk.specs.Calls.{Call}
use Rattle.log_header.specs.Header.{HeaderView, header_of_version}
use Rattle.log_text.specs.Bodies.{BodyView}
use Rattle.log_text.specs.File.{IsFile}
use Rattle.log_text.specs.declared.body.Body.{Body}
use Rattle.log_text.proofs.OneFile.{one_file}
use Rattle.recover_files.specs.Files.{AreFilesWith, AreOnDisks, AreShort, DeviceHasFailed, headers_from, ReadsFiles}
use Rattle.recover_files.specs.declared.file_set.FileSet.{FileSet}
use Rattle.recover_files.proofs.DiskByDisk.{bodies_of_file}

-- the headers from a place on
abbrev pub headers_behind : (ℕ → HeaderView) → ℕ → ℕ → HeaderView
headers_behind headers n l = headers (n + l)

abbrev IsAt : (ℕ → HeaderView) → List (List ℕ) → List (List BodyView) → ℕ → Type 0
IsAt headers strings files l = IsFile (get_or strings l []) (headers l) (get_or files l [])

-- an element behind the first list
behind : {A : Type 0} (xs ys : List A) (d : A) (n l : ℕ) → length xs ≡ n → get_or (xs ++ ys) (n + l) d ≡ get_or ys l d
behind xs ys d n l count =
    get_or-append_right xs ys n (n + l) d count (omega arith)
    ∙ ap (λ (i : ℕ). get_or ys i d) {x = n + l - n} {y = l} (omega arith)

module _ (headers : ℕ → HeaderView) (front back : List (List ℕ)) (files rest : List (List BodyView))
    (count : length files ≡ length front) where
  at_front : (l : ℕ) → l < length front → IsAt headers (front ++ back) (files ++ rest) l ≡ IsAt headers front files l
  at_front l less =
      λ j. IsFile (get_or_append_left front back [] l less j) (headers l)
      (get_or_append_left files rest [] l (omega (arith, less, count)) j)

  at_back : (l : ℕ) → IsAt headers (front ++ back) (files ++ rest) (length front + l)
      ≡ IsAt (headers_behind headers (length front)) back rest l
  at_back l =
      λ j. IsFile (behind front back [] (length front) l refl j) (headers (length front + l))
      (behind files rest [] (length front) l count j)

  joined : AreFilesWith headers front files → AreFilesWith (headers_behind headers (length front)) back rest
      → AreFilesWith headers (front ++ back) (files ++ rest)
  joined a b = record {
    count = omega (arith, length-append files rest, length-append front back, a.count, b.count);
    each = λ l less. ⊎_elim
        (λ is. subst (λ (T : Type 0). T) (sym (at_front l is)) (a.each l is))
        (λ is.
        let i : ℕ = l - length front in
        let there : length front + i ≡ l = omega (arith, is) in
        subst (λ (n : ℕ). IsAt headers (front ++ back) (files ++ rest) n) there
        (subst (λ (T : Type 0). T) (sym (at_back i)) (b.each i (omega (arith, is, less, length-append front back)))))
        (cases_lt l (length front));
  }

  parted : AreFilesWith headers (front ++ back) (files ++ rest)
      → AreFilesWith headers front files × AreFilesWith (headers_behind headers (length front)) back rest
  parted are = (
    record {
      count = count;
      each = λ l less. subst (λ (T : Type 0). T) (at_front l less) (are.each l (omega (arith, less, length-append front back)));
    },
    record {
      count = omega (arith, length-append files rest, length-append front back, are.count, count);
      each = λ l less. subst (λ (T : Type 0). T) (at_back l)
          (are.each (length front + l) (omega (arith, less, length-append front back)));
    },
  )

-- files of both parts are files of the one and of the other
parts : (headers : ℕ → HeaderView) (front back : List (List ℕ)) (all : List (List BodyView))
    → AreFilesWith headers (front ++ back) all
    → AreFilesWith headers front (take (length front) all)
    × AreFilesWith (headers_behind headers (length front)) back (drop (length front) all)
parts headers front back all are =
    parted headers front back (take (length front) all) (drop (length front) all)
    (omega (arith, length-take (length front) all, are.count, length-append front back))
    (subst (λ (files : List (List BodyView)). AreFilesWith headers (front ++ back) files)
    (sym (take-append-drop (length front) all)) are)

-- a device of the first, or of the others, has failed
module _ (old rest new rest_new : List ℕ) (count : length new ≡ length old) where
  failed_in_front : DeviceHasFailed old new → DeviceHasFailed (old ++ rest) (new ++ rest_new)
  failed_in_front has = record {
    device = has.device;
    among = omega (arith, has.among, length-append old rest);
    failed =
        get_or_append_left new rest_new 0 has.device (omega (arith, has.among, count)) ∙ has.failed
        ∙ ap (λ (n : ℕ). min (n + 1) (2 ^ 64 - 1)) (sym (get_or_append_left old rest 0 has.device has.among));
  }

  failed_behind : DeviceHasFailed rest rest_new → DeviceHasFailed (old ++ rest) (new ++ rest_new)
  failed_behind has = record {
    device = length old + has.device;
    among = omega (arith, has.among, length-append old rest);
    failed =
        behind new rest_new 0 (length old) has.device count ∙ has.failed
        ∙ ap (λ (n : ℕ). min (n + 1) (2 ^ 64 - 1)) (sym (behind old rest 0 (length old) has.device refl));
  }

abbrev Read : Type 0
Read = Result FileSet Refusal

-- the results of two parts as one
pub record IsOfBoth (a b result : Read) : Type 0 where
  pub files : IfOk result (λ files. (x y : FileSet) × (a ≡ Ok x) × (b ≡ Ok y)
      × (files.bodies.items ≡ x.bodies.items ++ y.bodies.items)
      × (x.version ≡ files.version) × (y.version ≡ files.version))
  pub device : IsErrOf result Device ↔ (IsErrOf a Device ⊎ IsErrOf b Device)
  pub damaged : IsErrOf result Damaged → IsErrOf a Damaged ⊎ IsErrOf b Damaged
      ⊎ ((x y : FileSet) × (a ≡ Ok x) × (b ≡ Ok y) × (x.version ≢ y.version))
  pub others : IfErr result (λ refusal. (refusal ≢ OutOfMemory)
      → IsErrOf a refusal ⊎ IsErrOf b refusal ⊎ (refusal ≡ Damaged))

module _ {X : Type 0} {modelled : Type 0} {seen : X → List ℕ} {story : X → List Call} {failed : X → ℕ}
    {headers : ℕ → ℕ → HeaderView} {front back front_now back_now : List X} {a b result : Read}
    (low : ReadsFiles modelled seen story failed headers front front_now a)
    (high : ReadsFiles modelled seen story failed (λ v. headers_behind (headers v) (length front)) back back_now b)
    (of_both : IsOfBoth a b result) where
  map_same : {Y : Type 0} (f : X → Y) → map f front_now ≡ map f front → map f back_now ≡ map f back
      → map f (front_now ++ back_now) ≡ map f (front ++ back)
  map_same f p q = map-append f front_now back_now ∙ (λ j. p j ++ q j) ∙ sym (map-append f front back)

  are_on : (s t : List (List ℕ)) → AreOnDisks modelled (map seen front) s → AreOnDisks modelled (map seen back) t
      → AreOnDisks modelled (map seen (front ++ back)) (s ++ t)
  are_on s t on on_back = record {
    count = omega (
      arith,
      length-append s t,
      on.count,
      on_back.count,
      length-map front seen,
      length-map back seen,
      length-map (front ++ back) seen,
      length-append front back,
    );
    modelled = λ given. (λ j. on.modelled given j ++ on_back.modelled given j) ∙ sym (map-append seen front back);
  }

  -- what was found of some disks
  abbrev FoundOn : (ℕ → ℕ → HeaderView) → List X → FileSet → Type 0
  FoundOn hs disks files = (strings : List (List ℕ)) × AreOnDisks modelled (map seen disks) strings × AreShort strings
      × AreFilesWith (hs files.version) strings (map bodies_of_file files.bodies.items)

  abbrev Found : FileSet → Type 0
  Found files = FoundOn headers (front ++ back) files

  found_front : (x : FileSet) → a ≡ Ok x → FoundOn headers front x
  found_front x is = IfOk-at_ok (FoundOn headers front) is low.found

  found_back : (y : FileSet) → b ≡ Ok y → FoundOn (λ v. headers_behind (headers v) (length front)) back y
  found_back y is = IfOk-at_ok (FoundOn (λ v. headers_behind (headers v) (length front)) back) is high.found

  found_of_both : (x y files : FileSet) → a ≡ Ok x → b ≡ Ok y → files.bodies.items ≡ x.bodies.items ++ y.bodies.items
      → x.version ≡ files.version → y.version ≡ files.version → Found files
  found_of_both x y files first second items front_is back_is =
      let f = found_front x first in
      let s = found_back y second in
      let hs : ℕ → HeaderView = headers files.version in
      let in_front : AreFilesWith hs f.0 (map bodies_of_file x.bodies.items)
      = subst (λ (v : ℕ). AreFilesWith (headers v) f.0 (map bodies_of_file x.bodies.items)) front_is f.3 in
      let in_back : AreFilesWith (headers_behind hs (length front)) s.0 (map bodies_of_file y.bodies.items)
      = subst (λ (v : ℕ). AreFilesWith (headers_behind (headers v) (length front)) s.0
      (map bodies_of_file y.bodies.items)) back_is s.3 in
      let same : length front ≡ length f.0 = omega (arith, f.1.count, length-map front seen) in (
        f.0 ++ s.0,
        are_on f.0 s.0 f.1 s.1,
        (λ l less. ⊎_elim
            (λ is. subst (λ (t : List ℕ). length t < 2 ^ 64) (sym (get_or_append_left f.0 s.0 [] l is)) (f.2 l is))
            (λ is. subst (λ (t : List ℕ). length t < 2 ^ 64)
            (sym (get_or-append_right f.0 s.0 (length f.0) l [] refl is))
            (s.2 (l - length f.0) (omega (arith, is, less, length-append f.0 s.0))))
            (cases_lt l (length f.0))),
        subst (λ (files : List (List BodyView)). AreFilesWith hs (f.0 ++ s.0) files)
            (sym (map-append bodies_of_file x.bodies.items y.bodies.items) ∙ ap (map bodies_of_file) (sym items))
            (joined hs f.0 s.0 (map bodies_of_file x.bodies.items) (map bodies_of_file y.bodies.items) f.3.count in_front
            (subst (λ (n : ℕ). AreFilesWith (headers_behind hs n) s.0 (map bodies_of_file y.bodies.items)) same in_back)),
      )

  -- one part is damaged, whatever the disks of the other hold
  abbrev AreDamagedOf : (ℕ → ℕ → HeaderView) → List X → Type 0
  AreDamagedOf hs disks = (strings : List (List ℕ)) × AreOnDisks modelled (map seen disks) strings
      × ((version : ℕ) (files : List (List BodyView)) → AreFilesWith (hs version) strings files → ⊥)

  as_seen : (disks : List X) → AreOnDisks modelled (map seen disks) (map seen disks)
  as_seen disks = record { count = refl; modelled = λ _. refl }

  damaged_front : AreDamagedOf headers front → AreDamagedOf headers (front ++ back)
  damaged_front d = (
    d.0 ++ map seen back,
    are_on d.0 (map seen back) d.1 (as_seen back),
    λ version files are. d.2 version (take (length d.0) files)
        (parts (headers version) d.0 (map seen back) files are).0,
  )

  damaged_back : AreDamagedOf (λ v. headers_behind (headers v) (length front)) back → AreDamagedOf headers (front ++ back)
  damaged_back d = (
    map seen front ++ d.0,
    are_on (map seen front) d.0 (as_seen front) d.1,
    λ version files are. d.2 version (drop (length (map seen front)) files)
        (subst (λ (n : ℕ). AreFilesWith (headers_behind (headers version) n) d.0 (drop (length (map seen front)) files))
        (length-map front seen) (parts (headers version) (map seen front) d.0 files are).1),
  )

  -- files of two versions, some of each
  module _ (versions : (v l : ℕ) → (headers v l).version ≡ v) (some : 0 < length front) (more : 0 < length back)
      (x y : FileSet) (first : a ≡ Ok x) (second : b ≡ Ok y) (other : x.version ≢ y.version) where
    in_front : FoundOn headers front x
    in_front = found_front x first

    in_back : FoundOn (λ v. headers_behind (headers v) (length front)) back y
    in_back = found_back y second

    -- files of any version are of that of the first file of each part
    first_of : (hs : ℕ → ℕ → HeaderView) → ((v l : ℕ) → (hs v l).version ≡ v) → (disks : List X) → 0 < length disks
        → (z : FileSet) → (found : FoundOn hs disks z) → (v : ℕ) (files : List (List BodyView))
        → AreFilesWith (hs v) found.0 files → z.version ≡ v
    first_of hs names disks any z found v files are =
        let within : 0 < length found.0 = omega (arith, any, found.1.count, length-map disks seen) in
        let same = (one_file (get_or found.0 0 []) (hs z.version 0) (hs v 0)
        (get_or (map bodies_of_file z.bodies.items) 0 []) (get_or files 0 []) (found.2 0 within) (found.3.each 0 within)
        (are.each 0 within)).0 in
        sym (names z.version 0) ∙ ap (λ (h : HeaderView). h.version) same ∙ names v 0

    mixed : AreDamagedOf headers (front ++ back)
    mixed = (
      in_front.0 ++ in_back.0,
      are_on in_front.0 in_back.0 in_front.1 in_back.1,
      λ v files are.
          let both = parts (headers v) in_front.0 in_back.0 files are in
          let count : length in_front.0 ≡ length front = omega (arith, in_front.1.count, length-map front seen) in
          let low_is = first_of headers versions front some x in_front v (take (length in_front.0) files) both.0 in
          let high_is = first_of (λ w. headers_behind (headers w) (length front)) (λ w l. versions w (length front + l))
          back more y in_back v (drop (length in_front.0) files)
          (subst (λ (n : ℕ). AreFilesWith (headers_behind (headers v) n) in_back.0 (drop (length in_front.0) files))
          count both.1) in
          other (low_is ∙ sym high_is),
    )

  abbrev HasFailed : List X → List X → Type 0
  HasFailed old new = DeviceHasFailed (map failed old) (map failed new)

  counts : length (map failed front_now) ≡ length (map failed front)
  counts = omega (arith, low.count, length-map front_now failed, length-map front failed)

  as_mapped : DeviceHasFailed (map failed front ++ map failed back) (map failed front_now ++ map failed back_now)
      → HasFailed (front ++ back) (front_now ++ back_now)
  as_mapped has =
      subst (λ (old : List ℕ). DeviceHasFailed old (map failed (front_now ++ back_now))) (sym (map-append failed front back))
      (subst (λ (new : List ℕ). DeviceHasFailed (map failed front ++ map failed back) new)
      (sym (map-append failed front_now back_now)) has)

  failed_of : (IsErrOf a Device ⊎ IsErrOf b Device) → HasFailed (front ++ back) (front_now ++ back_now)
  failed_of = ⊎_elim
      (λ e. as_mapped (failed_in_front (map failed front) (map failed back) (map failed front_now) (map failed back_now)
      counts (low.failed e)))
      (λ e. as_mapped (failed_behind (map failed front) (map failed back) (map failed front_now) (map failed back_now)
      counts (high.failed e)))

  abbrev IsOther : Refusal → Type 0
  IsOther refusal = (refusal ≢ OutOfMemory) → (refusal ≢ Device) → refusal ≡ Damaged

  pub reads_both : ((v l : ℕ) → (headers v l).version ≡ v) → 0 < length front → 0 < length back
      → ReadsFiles modelled seen story failed headers (front ++ back) (front_now ++ back_now) result
  reads_both versions some more = record {
    found = IfOk-weaker result _ Found
        (λ files is. found_of_both is.0 is.1 files is.2 is.3 is.4 is.5 is.6) of_both.files;
    damaged = λ e. ⊎_elim (λ is. damaged_front (low.damaged is))
        (⊎_elim (λ is. damaged_back (high.damaged is))
        (λ is. mixed versions some more is.0 is.1 is.2 is.3 is.4)) (of_both.damaged e);
    failed = λ e. failed_of (of_both.device.0 e);
    not_failed = λ other. map_same failed (low.not_failed (λ e. other (of_both.device.1 (inl e))))
        (high.not_failed (λ e. other (of_both.device.1 (inr e))));
    others = IfErr-weaker result _ IsOther
        (λ refusal is apart. ⊎_elim (λ e. subst (λ (r : Read). IfErr r IsOther) {y = Err refusal} e low.others apart)
        (⊎_elim (λ e. subst (λ (r : Read). IfErr r IsOther) {y = Err refusal} e high.others apart) (λ e _. e))
        (is apart)) of_both.others;
    reads = record {
      seen = λ given. map_same seen (low.reads.seen given) (high.reads.seen given);
      story = λ given. map_same story (low.reads.story given) (high.reads.story given);
    };
    count = omega (arith, length-append front_now back_now, length-append front back, low.count, high.count);
  }

-- the headers of the loggers from a later one on
later : (first up loggers n seed : ℕ) (s : Sizes) → up ≡ first + n
    → headers_from up loggers s seed ≡ (λ (v : ℕ). headers_behind (headers_from first loggers s seed v) n)
later first up loggers n seed s is = λ j v l. header_of_version v (place l j) loggers s seed
  where
    place : (l : ℕ) → up + l ≡ first + (n + l)
    place l = omega (arith, is)

-- the disks of two parts, the second of which begins at logger up
pub reads_parts : {X : Type 0} {modelled : Type 0} {seen : X → List ℕ} {story : X → List Call} {failed : X → ℕ}
    (first up loggers : ℕ) (s : Sizes) (seed : ℕ) {disks front back front_now back_now : List X} {a b result : Read}
    → disks ≡ front ++ back → up ≡ first + length front → 0 < length front → 0 < length back
    → ReadsFiles modelled seen story failed (headers_from first loggers s seed) front front_now a
    → ReadsFiles modelled seen story failed (headers_from up loggers s seed) back back_now b
    → IsOfBoth a b result
    → ReadsFiles modelled seen story failed (headers_from first loggers s seed) disks (front_now ++ back_now) result
reads_parts {X} {modelled} {seen} {story} {failed} first up loggers s seed {disks} {front} {back} {front_now} {back_now} {a} {b} {result}
    all place some more low high of_both =
    let headers : ℕ → ℕ → HeaderView = headers_from first loggers s seed in
    subst (λ (xs : List X). ReadsFiles modelled seen story failed headers xs (front_now ++ back_now) result) (sym all)
    (reads_both {headers = headers} low
    (subst (λ (hs : ℕ → ℕ → HeaderView). ReadsFiles modelled seen story failed hs back back_now b)
    (later first up loggers (length front) seed s place) high)
    of_both (λ v l. refl) some more)
