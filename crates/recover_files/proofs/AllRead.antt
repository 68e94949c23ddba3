-- What is read of all disks are a database's log files.
use Rattle.std.proofs.Common.{◌≡◌, ℕ, ◌+◌, List, map, length, Result, IfOk, IsErrOf, sym, subst, arith}
use Rattle.std.proofs.lemmas.List.{length-map}
use Rattle.std.proofs.lemmas.Result.{IfOk-weaker}
use Rattle.money.specs.declared.refusal.Refusal.{Refusal}
use Rattle.money.specs.declared.refusal.Refusal.TheVariants.{Damaged}
use Rattle.tables.specs.Sizes.{Sizes}
use Rattle.log_disk.specs.Calls.{Call}
use Rattle.log_header.specs.Header.{HeaderView, header_of_version}
use Rattle.recover_files.specs.Files.{AreFilesOf, AreFilesWith, AreOnDisks, AreDamaged, AreShort, headers_from, ReadsFiles}
use Rattle.recover_files.specs.declared.file_set.FileSet.{FileSet}
use Rattle.recover_files.proofs.DiskByDisk.{bodies_of_file}

none_before : (n : ℕ) → 0 + n ≡ n
none_before n = omega arith

module _ {X : Type 0} {modelled : Type 0} {seen : X → List ℕ} {story : X → List Call} {failed : X → ℕ} {s : Sizes}
    {seed loggers : ℕ} {old new : List X} {result : Result FileSet Refusal}
    (count : loggers ≡ length old)
    (reads : ReadsFiles modelled seen story failed (headers_from 0 loggers s seed) old new result) where
  -- the headers of all loggers are those from the first on
  headers : (version : ℕ) (strings : List (List ℕ)) → AreOnDisks modelled (map seen old) strings
      → (headers_from 0 loggers s seed version) ≡ (λ (l : ℕ). header_of_version version l (length strings) s seed)
  headers version strings on =
      let same : loggers ≡ length strings = omega (arith, count, on.count, length-map old seen) in
      λ j l. header_of_version version (none_before l j) (same j) s seed

  pub found_all : IfOk result (λ files. (strings : List (List ℕ)) × (modelled → strings ≡ map seen old)
      × AreShort strings × AreFilesOf files.version s seed strings (map bodies_of_file files.bodies.items))
  found_all = IfOk-weaker result _ _
      (λ files f. (
        f.0,
        f.1.modelled,
        f.2,
        subst (λ (h : ℕ → HeaderView). AreFilesWith h f.0 (map bodies_of_file files.bodies.items))
            (headers files.version f.0 f.1) f.3,
      ))
      reads.found

  pub damaged_all : IsErrOf result Damaged
      → (strings : List (List ℕ)) × (modelled → strings ≡ map seen old) × AreDamaged s seed strings
  damaged_all e =
      let d = reads.damaged e in (
        d.0,
        d.1.modelled,
        λ version files are. d.2 version files
            (subst (λ (h : ℕ → HeaderView). AreFilesWith h d.0 files) (sym (headers version d.0 d.1)) are),
      )
