-- Strings of bytes are the files of one list of bodies.
use Rattle.std.proofs.Common.{◌≡◌, ℕ, ◌<◌, List, [], length, get_or, sym, ◌∙◌, subst}
use Rattle.std.proofs.lemmas.List.{ext_get_or}
use Rattle.tables.specs.Database.{Database}
use Rattle.log_header.specs.Header.{HeaderView, header_of_version}
use Rattle.log_text.specs.Bodies.{BodyView}
use Rattle.log_text.proofs.OneFile.{one_file}
use Rattle.recover_files.specs.Files.{AreFilesOf, AreShort}

module _ {version : ℕ} (t0 : Database) (seed : ℕ) (strings : List (List ℕ)) (left : List (List BodyView))
    (are : AreFilesOf version t0.scale seed strings left) where
  -- whatever version they may be of
  pub same_files : {other : ℕ} (files : List (List BodyView)) → AreShort strings
      → AreFilesOf other t0.scale seed strings files → files ≡ left
  same_files {other} files short is =
      ext_get_or [] files left (is.count ∙ sym are.count)
      (λ l less.
      let within : l < length strings = subst (λ (n : ℕ). l < n) is.count less in
      let header : ℕ → HeaderView = (λ v. header_of_version v l (length strings) t0.scale seed) in
      (one_file (get_or strings l []) (header other) (header version) (get_or files l []) (get_or left l [])
      (short l within) (is.each l within) (are.each l within)).1)
