-- What recovery finds in log files.
use Rattle.std.proofs.Common.{◌≡◌, Bool, true, ℕ, ◌<◌, get_or, List, [], ◌∷◌, length, sym, ap, subst}
use Rattle.std.specs.List.{All, flat_map}
use Rattle.std.proofs.lemmas.List.Concat.{flat_map-cons}
use Rattle.std.proofs.lemmas.List.Elements.{All-append, All-filter, All-from_get_or, All-head, All-tail}
use Rattle.tables.specs.Sizes.{Sizes}
use Rattle.tidword.specs.TidWord.{epoch_of}
use Rattle.log_header.specs.Header.{header_of_version}
use Rattle.log_text.specs.Bodies.{BodyView}
use Rattle.log_text.specs.Entries.{EntryView}
use Rattle.log_text.specs.File.{IsFile}
use Rattle.log_text.specs.Writes.{are_writes}
use Rattle.recover_found.specs.Found.{counted, entries_of, found, keeps, kept}
use Rattle.recover_found.proofs.Elements.{has_to}
use Rattle.recover_files.specs.Files.{AreFilesOf}
use Rattle.recover_files.specs.Parts.{HaveLawfulWrites}
use Rattle.recover_files.proofs.LawfulEntries.{IsPositive, IsWithinCap, lawful_entries, positive_entries, entries_within_cap}
use Rattle.recover_files.proofs.Looking.{all_from, all_in, all_passed}

-- the entries of log files have lawful writes
pub files_lawful : {version : ℕ} (s : Sizes) (seed : ℕ) (strings : List (List ℕ)) (files : List (List BodyView))
    → AreFilesOf version s seed strings files → All (λ bodies. HaveLawfulWrites s (entries_of bodies)) files
files_lawful {version} s seed strings files are = All-from_get_or (λ (bodies : List BodyView). HaveLawfulWrites s (entries_of bodies)) files [] each
  where
    each : (l : ℕ) → l < length files → HaveLawfulWrites s (entries_of (get_or files l []))
    each l lt =
        let is = are.each l (subst (λ (n : ℕ). l < n) are.count lt) in
        all_from (λ (e : EntryView). are_writes s e.writes ≡ true) (entries_of (get_or files l []))
        (λ e h. lawful_entries (get_or strings l []) (header_of_version version l (length strings) s seed) (get_or files l []) is e (has_to (entries_of (get_or files l [])) e h))

-- so have those that count
pub counted_lawful : (s : Sizes) (counts : ℕ → Bool) (files : List (List BodyView)) → All (λ bodies. HaveLawfulWrites s (entries_of bodies)) files
    → HaveLawfulWrites s (flat_map (counted counts) files)
counted_lawful s counts [] all = all_from (λ (e : EntryView). are_writes s e.writes ≡ true) [] (λ e never. absurd never)
counted_lawful s counts (file ∷ files) all =
    let P = λ (e : EntryView). are_writes s e.writes ≡ true in
    let each = λ (bodies : List BodyView). HaveLawfulWrites s (entries_of bodies) in
    subst (HaveLawfulWrites s) (sym (flat_map-cons (counted counts) file files))
    (All-append P (counted counts file) (flat_map (counted counts) files)
    (all_passed P (λ e. counts (epoch_of e.tid)) (entries_of file) (All-head each file files all)) (counted_lawful s counts files (All-tail each file files all)))

-- what counts is what is found
pub counted_found : (counts : ℕ → Bool) (files : List (List BodyView)) → counts ≡ keeps files → flat_map (counted counts) files ≡ found files
counted_found counts files is = ap (λ (c : ℕ → Bool). flat_map (counted c) files) is

module _ {version : ℕ} (s : Sizes) (seed : ℕ) (strings : List (List ℕ)) (files : List (List BodyView))
    (are : AreFilesOf version s seed strings files) where
  abbrev IsNth : ℕ → Type 0
  IsNth l = IsFile (get_or strings l []) (header_of_version version l (length strings) s seed) (get_or files l [])

  -- what holds of all entries of each file holds of those that are found
  found_keep : (P : EntryView → Type 0) → ((l : ℕ) → IsNth l → All P (entries_of (get_or files l [])))
      → All P (found files)
  found_keep P of_file =
      all_in P (kept files) files (All-from_get_or (λ (bodies : List BodyView). All P (kept files bodies)) files [] each)
    where
      each : (l : ℕ) → l < length files → All P (kept files (get_or files l []))
      each l lt =
          let is = are.each l (subst (λ (n : ℕ). l < n) are.count lt) in
          All-filter (λ e. keeps files (epoch_of e.tid)) P (entries_of (get_or files l [])) (of_file l is)

  -- the entries that are found have commit numbers from 1 on
  pub found_positive : All IsPositive (found files)
  found_positive = found_keep IsPositive
      (λ l is. positive_entries (get_or strings l []) (header_of_version version l (length strings) s seed)
      (get_or files l []) is)

  -- up to the commit cap
  pub found_within_cap : All (IsWithinCap s.commits) (found files)
  found_within_cap = found_keep (IsWithinCap s.commits)
      (λ l is. entries_within_cap (get_or strings l []) (header_of_version version l (length strings) s seed)
      (get_or files l []) is)
