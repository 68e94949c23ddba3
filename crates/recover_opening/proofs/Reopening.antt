-- Opening log files again, disk after disk.
use Rattle.std.proofs.Common.{◌≡◌, ℕ, ◌+◌, ◌<◌, List, [], ◌∷◌, ◌++◌, map, length, get_or, Vec, Global, refl, sym, ap, ◌∙◌, subst, arith, below_more, append_assoc, append-nil}
use Rattle.std.proofs.lemmas.List.{get_or-map, get_or_append_left, get_or_push, length_push, length-map, map_push, length-append}
use Rattle.std.proofs.Math.Seq.{get_or-append_seam}
use Rattle.tables.specs.Sizes.{Sizes}
use Rattle.log_disk.specs.Calls.{Call}
use Rattle.log_header.specs.Header.{header_view}
use Rattle.log_text.specs.Bodies.{BodyView}
use Rattle.log_text.specs.File.{IsFile}
use Rattle.log_text.specs.declared.body.Body.{Body}
use Rattle.logfile.specs.Standing.{LogFileView}
use Rattle.recover_files.specs.Files.{AreNoFiles}
use Rattle.recover_found.specs.Found.{bodies_in}
use Rattle.recover_opening.specs.Opening.{IsReopened, AreReopened}

-- an element, where there is one
pub some_in : {X : Type 0} (xs : List X) (l : ℕ) → l < length xs → X
some_in [] l less = absurd (omega (arith, less))
some_in (x ∷ xs) l less = x

pub none_left : {X : Type 0} (xs : List X) → length xs ≡ 0 → xs ≡ []
none_left [] none = refl
none_left (x ∷ xs) none = absurd (omega (arith, none))

-- what holds of four values holds of the same
pub to_four : {A B C E : Type 0} (P : A → B → C → E → Type 0) (a p : A) (b q : B) (c r : C) (e t : E) → a ≡ p → b ≡ q → c ≡ r → e ≡ t
    → P a b c e → P p q r t
to_four {A = A} {B = B} {C = C} P a p b q c r e t ap_is bq cr et h =
    subst (λ (x : A). P x q r t) ap_is (subst (λ (x : B). P a x r t) bq (subst (λ (x : C). P a b x t) cr (subst (P a b c) et h)))

abbrev pub bodies_of_file : Vec Body Global → List BodyView
bodies_of_file bodies = bodies_in bodies.items

-- a disk, the bytes that were read of it, the file that was opened on it, and its bodies
pub record Opened (D : Type 0) : Type 0 where
  pub disk : D
  pub bytes : List ℕ
  pub file : LogFileView D
  pub bodies : Vec Body Global

abbrev pub disks_of : {D : Type 0} → List (Opened D) → List D
disks_of done = map (λ x. x.disk) done

abbrev pub files_of : {D : Type 0} → List (Opened D) → List (LogFileView D)
files_of done = map (λ x. x.file) done

abbrev pub bodies_of_all : {D : Type 0} → List (Opened D) → List (Vec Body Global)
bodies_of_all done = map (λ x. x.bodies) done

-- files were opened on the first disks, and the rest are to come
pub record IsOpenSoFar {D : Type 0} (IsModelled : Type 0) (seen_of : D → List ℕ) (story_of : D → List Call)
    (failed_of : D → ℕ) (s : Sizes) (seed loggers : ℕ) (first rest : List D) (files : List (LogFileView D))
    (all : List (Vec Body Global)) : Type 0 where
  pub done : List (Opened D)
  pub disks_are : disks_of done ++ rest ≡ first
  pub files_are : files ≡ files_of done
  pub bodies_are : all ≡ bodies_of_all done
  pub each : (l : ℕ) → l < length done → (none : Opened D)
      → IsReopened IsModelled seen_of story_of failed_of (header_view l loggers s seed) (get_or done l none).disk
      (get_or done l none).bytes (get_or done l none).file (bodies_of_file (get_or done l none).bodies)

module _ {D : Type 0} {IsModelled : Type 0} {seen_of : D → List ℕ} {story_of : D → List Call} {failed_of : D → ℕ} {s : Sizes}
    {seed loggers : ℕ} {first : List D} where
  pub begins : (rest : List D) (files : List (LogFileView D)) (all : List (Vec Body Global)) → rest ≡ first → files ≡ [] → all ≡ []
      → IsOpenSoFar IsModelled seen_of story_of failed_of s seed loggers first rest files all
  begins rest files all same no_files no_bodies = record {
    done = [];
    disks_are = same;
    files_are = no_files;
    bodies_are = no_bodies;
    each = λ l less. absurd (omega (arith, less));
  }

  module _ {rest : List D} {files : List (LogFileView D)} {all : List (Vec Body Global)}
      (so_far : IsOpenSoFar IsModelled seen_of story_of failed_of s seed loggers first rest files all) where
    logger_is : length files ≡ length so_far.done
    logger_is = ap length so_far.files_are ∙ length-map so_far.done (λ (x : Opened D). x.file)

    -- how many there are
    pub places : (disk : D) (left : List D) → rest ≡ disk ∷ left → length files + 1 + length left ≡ length first
    places disk left next =
        omega (
          arith,
          logger_is,
          ap length so_far.disks_are,
          length-append (disks_of so_far.done) rest,
          ap length next,
          length-map so_far.done (λ (x : Opened D). x.disk),
        )

    pub same_places : length all ≡ length files
    same_places = ap length so_far.bodies_are ∙ length-map so_far.done (λ (x : Opened D). x.bodies) ∙ sym logger_is

    -- one disk more
    pub goes_on : (logger : ℕ) (disk : D) (left : List D) (file : LogFileView D) (bodies : Vec Body Global)
        (longer : List (LogFileView D)) (longer_all : List (Vec Body Global)) → logger ≡ length files → rest ≡ disk ∷ left
        → ((bytes : List ℕ) × IsReopened IsModelled seen_of story_of failed_of (header_view logger loggers s seed) disk bytes file
        (bodies_of_file bodies))
        → longer ≡ files ++ file ∷ [] → longer_all ≡ all ++ bodies ∷ []
        → IsOpenSoFar IsModelled seen_of story_of failed_of s seed loggers first left longer longer_all
    goes_on logger disk left file bodies longer longer_all is_logger next opened pushed pushed_all =
        let done : List (Opened D) = so_far.done in
        let x : Opened D = record { disk = disk; bytes = opened.0; file = file; bodies = bodies } in
        let place : logger ≡ length done = is_logger ∙ logger_is in
        record {
          done = done ++ x ∷ [];
          disks_are =
              ap (λ (ds : List D). ds ++ left) (map_push (λ (y : Opened D). y.disk) done x)
              ∙ append_assoc (disks_of done) (disk ∷ []) left ∙ ap (λ (ds : List D). disks_of done ++ ds) (sym next) ∙ so_far.disks_are;
          files_are = pushed ∙ ap (λ (fs : List (LogFileView D)). fs ++ file ∷ []) so_far.files_are
              ∙ sym (map_push (λ (y : Opened D). y.file) done x);
          bodies_are = pushed_all ∙ ap (λ (bs : List (Vec Body Global)). bs ++ bodies ∷ []) so_far.bodies_are
              ∙ sym (map_push (λ (y : Opened D). y.bodies) done x);
          each = λ l less none. below_more
              (λ k. IsReopened IsModelled seen_of story_of failed_of (header_view k loggers s seed) (get_or (done ++ x ∷ []) k none).disk
              (get_or (done ++ x ∷ []) k none).bytes (get_or (done ++ x ∷ []) k none).file (bodies_of_file (get_or (done ++ x ∷ []) k none).bodies))
              (length done)
              (λ k before. subst
              (λ (y : Opened D). IsReopened IsModelled seen_of story_of failed_of (header_view k loggers s seed) y.disk y.bytes y.file
              (bodies_of_file y.bodies))
              (sym (get_or_append_left done (x ∷ []) none k before)) (so_far.each k before none))
              (subst
              (λ (y : Opened D). IsReopened IsModelled seen_of story_of failed_of (header_view (length done) loggers s seed) y.disk y.bytes
              y.file (bodies_of_file y.bodies))
              (sym (get_or_push done x none (length done) refl))
              (subst (λ (k : ℕ). IsReopened IsModelled seen_of story_of failed_of (header_view k loggers s seed) disk opened.0 file
              (bodies_of_file bodies)) place opened.1))
              l (omega (arith, less, length_push done x));
        }

    -- all disks
    pub ends : rest ≡ [] → AreReopened IsModelled seen_of story_of failed_of s seed loggers first files (map bodies_of_file all)
    ends over =
        let done : List (Opened D) = so_far.done in
        let disks_are : disks_of done ≡ first = sym (append-nil (disks_of done))
        ∙ ap (λ (ds : List D). disks_of done ++ ds) (sym over) ∙ so_far.disks_are in
        let strings : List (List ℕ) = map (λ (x : Opened D). x.bytes) done in
        let count : length done ≡ length first = sym (length-map done (λ (x : Opened D). x.disk)) ∙ ap length disks_are in
        record {
          strings = strings;
          strings_count = length-map done (λ (x : Opened D). x.bytes) ∙ count;
          files_count = logger_is ∙ count;
          bodies_count = length-map all bodies_of_file ∙ ap length so_far.bodies_are
              ∙ length-map done (λ (x : Opened D). x.bodies) ∙ count;
          each = λ l less disk file.
              let within : l < length done = omega (arith, less, count) in
              let some : Opened D = some_in done l within in
              to_four (IsReopened IsModelled seen_of story_of failed_of (header_view l loggers s seed))
              (get_or done l some).disk (get_or first l disk) (get_or done l some).bytes (get_or strings l []) (get_or done l some).file
              (get_or files l file) (bodies_of_file (get_or done l some).bodies) (get_or (map bodies_of_file all) l [])
              (sym (get_or-map (λ (x : Opened D). x.disk) done l some disk within) ∙ ap (λ (ds : List D). get_or ds l disk) disks_are)
              (sym (get_or-map (λ (x : Opened D). x.bytes) done l some [] within))
              (sym (get_or-map (λ (x : Opened D). x.file) done l some file within)
              ∙ ap (λ (fs : List (LogFileView D)). get_or fs l file) (sym so_far.files_are))
              (ap bodies_of_file (sym (get_or-map (λ (x : Opened D). x.bodies) done l some (get_or done l some).bodies within))
              ∙ sym (get_or-map bodies_of_file (bodies_of_all done) l (get_or done l some).bodies []
              (omega (arith, within, length-map done (λ (x : Opened D). x.bodies))))
              ∙ ap (λ (bs : List (Vec Body Global)). get_or (map bodies_of_file bs) l []) (sym so_far.bodies_are))
              (so_far.each l within some);
        }

    -- a disk that has no such file
    pub damaged : (logger : ℕ) (disk : D) (left : List D) → logger ≡ length files → rest ≡ disk ∷ left → loggers ≡ length first
        → ((bodies : List BodyView) → IsFile (seen_of disk) (header_view logger loggers s seed) bodies → ⊥)
        → AreNoFiles s seed (map seen_of first)
    damaged logger disk left is_logger next count none files are =
        let done : List (Opened D) = so_far.done in
        let place : logger ≡ length (disks_of done) = is_logger ∙ logger_is ∙ sym (length-map done (λ (x : Opened D). x.disk)) in
        let parts : disks_of done ++ disk ∷ left ≡ first = ap (λ (ds : List D). disks_of done ++ ds) (sym next) ∙ so_far.disks_are in
        let within : logger < length first = omega (arith, place, ap length parts, length-append (disks_of done) (disk ∷ left)) in
        let here : get_or (map seen_of first) logger [] ≡ seen_of disk =
        get_or-map seen_of first logger disk [] within
        ∙ ap seen_of (ap (λ (ds : List D). get_or ds logger disk) (sym parts)
        ∙ ap (λ (n : ℕ). get_or (disks_of done ++ disk ∷ left) n disk) place ∙ get_or-append_seam (disks_of done) disk left disk) in
        let all : length (map seen_of first) ≡ loggers = length-map first seen_of ∙ sym count in
        none (get_or files logger [])
        (subst (λ (n : ℕ). IsFile (seen_of disk) (header_view logger n s seed) (get_or files logger [])) all
        (subst (λ (b : List ℕ). IsFile b (header_view logger (length (map seen_of first)) s seed) (get_or files logger [])) here
        (are.each logger (omega (arith, within, length-map first seen_of)))))
