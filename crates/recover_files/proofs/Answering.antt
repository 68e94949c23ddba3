-- What recovery answers, of what was read and of what was made of it.
use Rattle.std.proofs.Common.{◌≡◌, ◌≢◌, ℕ, Bool, List, map, length, Result, Ok, Err, IfOk, IfErr, IsErrOf, refl, sym, ◌∙◌, subst}
use Rattle.std.specs.List.{flat_map}
use Rattle.std.proofs.lemmas.Result.{IfOk-weaker}
use Rattle.money.specs.declared.refusal.Refusal.{Refusal}
use Rattle.money.specs.declared.refusal.Refusal.TheVariants as refusal
use Rattle.tables.specs.Database.{Database}
use Rattle.tables.specs.Sizes.{Sizes}
use Rattle.log_disk.specs.Calls.{Call}
use Rattle.log_text.specs.Bodies.{BodyView}
use Rattle.log_text.specs.Entries.{EntryView}
use Rattle.recover_found.specs.Found.{counted, durable_of, found, keeps}
use Rattle.recover_found.specs.Rebuilt.{HaveNoGap}
use Rattle.recover_files.specs.Answers.{IsAnswer, IsAnswerOn}
use Rattle.recover_files.specs.Files.{AreFilesOf, AreShort, AreDamaged, headers_from, ReadsFiles}
use Rattle.recover_files.specs.Parts.{IsPart, IsMerged, HaveLawfulWrites}
use Rattle.recover_files.specs.Recovered.{IsOfFiles, IsRecovery, HasGap}
use Rattle.recover_files.specs.declared.file_set.FileSet.{FileSet}
use Rattle.recover_files.specs.declared.part.Part.{Part}
use Rattle.recover_files.specs.declared.recovering.Recovered.{Recovered}
use Rattle.recover_files.proofs.AllRead.{found_all, damaged_all}
use Rattle.recover_files.proofs.DiskByDisk.{bodies_of_file}
use Rattle.recover_files.proofs.Found.{files_lawful, counted_lawful, counted_found}

-- for modelled disks, strings are what a read gives
abbrev AreSeen : Type 0 → List (List ℕ) → List (List ℕ) → Type 0
AreSeen Modelled seen strings = Modelled → strings ≡ seen

-- an answer to some of the strings that are so, where there are such strings
module _ (t0 : Database) (seed : ℕ) (Are : List (List ℕ) → Type 0) (some : (strings : List (List ℕ)) × Are strings) where
  abbrev Said : (List (List ℕ) → Type 0) → Type 0
  Said P = (strings : List (List ℕ)) × Are strings × P strings

  answered : (result : Result Recovered Refusal) → IfOk result (λ r. Said (λ l. IsRecovery t0 seed l r))
      → (IsErrOf result refusal.Gap → Said (HasGap t0.scale seed))
      → (IsErrOf result refusal.Damaged → Said (AreDamaged t0.scale seed))
      → IfErr result (λ e. (e ≢ refusal.OutOfMemory) → (e ≢ refusal.Device) → (e ≢ refusal.Damaged) → e ≡ refusal.Gap)
      → Said (λ l. IsAnswer t0 seed l result)
  answered (Ok r) ok gap damaged others = ok
  answered (Err refusal.Gap) ok gap damaged others = gap refl
  answered (Err refusal.Damaged) ok gap damaged others = damaged refl
  answered (Err refusal.OutOfMemory) ok gap damaged others = (some.0, some.1, tt)
  answered (Err refusal.Device) ok gap damaged others = (some.0, some.1, tt)
  answered (Err _) ok gap damaged others =
      let same = others (λ x. absurd cc) (λ x. absurd cc) (λ x. absurd cc) in absurd cc

-- a refusal that is the one or the other is no third
neither : (result : Result Recovered Refusal) (x : Refusal) → (x ≢ refusal.OutOfMemory) → (x ≢ refusal.Gap)
    → IfErr result (λ e. (e ≢ refusal.OutOfMemory) → e ≡ refusal.Gap) → IsErrOf result x → ⊥
neither (Ok r) x a b others is = absurd cc
neither (Err e) x a b others is =
    let same : e ≡ x = cc in b (sym same ∙ others (λ h. a (sym same ∙ h)))

weaker : (result : Result Recovered Refusal) → IfErr result (λ e. (e ≢ refusal.OutOfMemory) → e ≡ refusal.Gap)
    → IfErr result (λ e. (e ≢ refusal.OutOfMemory) → (e ≢ refusal.Device) → (e ≢ refusal.Damaged) → e ≡ refusal.Gap)
weaker (Ok r) others = others
weaker (Err e) others = λ a b c. others a

module _ {X : Type 0} {modelled : Type 0} {seen : X → List ℕ} {story : X → List Call} {failed : X → ℕ} {t0 : Database}
    {seed loggers : ℕ} {old new : List X} (count : loggers ≡ length old) where
  -- what can't be read is answered as it was refused
  pub unread : {e : Refusal} → ReadsFiles modelled seen story failed (headers_from 0 loggers t0.scale seed) old new (Err e)
      → IsAnswerOn modelled seen story failed t0 seed old new (Err e)
  unread {e} reads = record {
    answer = answered t0 seed (AreSeen modelled (map seen old)) (map seen old, λ _. refl) (Err e) tt
        (λ (is : IsErrOf {T = Recovered} (Err e) refusal.Gap). absurd (no_gap cc))
        (λ (is : IsErrOf {T = Recovered} (Err e) refusal.Damaged). damaged_all count reads cc)
        (λ a b c. absurd (c (reads.others a b)));
    failed = λ (is : IsErrOf {T = Recovered} (Err e) refusal.Device). reads.failed cc;
    not_failed = λ none. reads.not_failed (λ is. none cc);
    reads = reads.reads;
  }
    where
      no_gap : (e ≡ refusal.Gap) → ⊥
      no_gap is =
          let damaged : e ≡ refusal.Damaged = reads.others (λ h. absurd cc) (λ h. absurd cc) in absurd cc

  -- what was read is answered by what was made of it
  pub settled_answer : {files : FileSet}
      → ReadsFiles modelled seen story failed (headers_from 0 loggers t0.scale seed) old new (Ok files)
      → (result : Result Recovered Refusal) → IfOk result (IsOfFiles t0 (map bodies_of_file files.bodies.items))
      → (IsErrOf result refusal.Gap → HaveNoGap (found (map bodies_of_file files.bodies.items)) → ⊥)
      → IfErr result (λ e. (e ≢ refusal.OutOfMemory) → e ≡ refusal.Gap)
      → IsAnswerOn modelled seen story failed t0 seed old new result
  settled_answer {files} reads result ok gap others = record {
    answer = answered t0 seed (AreSeen modelled (map seen old)) (map seen old, λ _. refl) result
        (IfOk-weaker result _ _ (λ r of_files. (
          read.0,
          read.1,
          record { version = files.version; files = bodies; short = read.2; read = read.3; of_files = of_files },
        )) ok)
        (λ is. (
          read.0,
          read.1,
          record { version = files.version; files = bodies; short = read.2; read = read.3; gap = gap is },
        ))
        (λ is. absurd (neither result refusal.Damaged (λ h. absurd cc) (λ h. absurd cc) others is))
        (weaker result others);
    failed = λ is. absurd (neither result refusal.Device (λ h. absurd cc) (λ h. absurd cc) others is);
    not_failed = λ _. reads.not_failed (λ is. absurd cc);
    reads = reads.reads;
  }
    where
      bodies : List (List BodyView)
      bodies = map bodies_of_file files.bodies.items

      read : (strings : List (List ℕ)) × (modelled → strings ≡ map seen old) × AreShort strings
          × AreFilesOf files.version t0.scale seed strings bodies
      read = found_all count reads

-- the part that was made of files that were read
pub merged_of : {version : ℕ} {s t : Sizes} (seed : ℕ) (strings : List (List ℕ)) {files : List (List BodyView)}
    → AreFilesOf version s seed strings files → {durable : ℕ} → durable ≡ durable_of files → {counts : ℕ → Bool} → counts ≡ keeps files → t ≡ s → {part : Part} → IsPart t (flat_map (counted counts) files) part → IsMerged s files durable part
merged_of {version} {s} seed strings {files} are {durable} is {counts} keeps_is same {part} made = record {
  durable_is = is;
  lawful = subst (HaveLawfulWrites s) (counted_found counts files keeps_is) (counted_lawful s counts files (files_lawful s seed strings files are));
  part = subst (λ (q : Sizes × List EntryView). IsPart q.0 q.1 part) (λ i. (same i, counted_found counts files keeps_is i)) made;
}
