-- What each entry of a log file has: lawful writes, and a commit number from 1 up to the commit cap.
use Rattle.std.proofs.Common.{◌≡◌, ◌≤◌, ℕ, true, ◌&&◌, true≢false, arith, Option, Some, None, IsSome, List, [], ◌∷◌, ◌++◌, refl, sym}
use Rattle.std.specs.Prelude.{nat_le, nat_lt}
use Rattle.std.specs.List.{All, AllByRecursion, Contains}
use Rattle.std.specs.Option.{option_and_then}
use Rattle.std.proofs.lemmas.Bool.{ltb-true, leb-true}
use Rattle.std.proofs.lemmas.List.Elements.{All-nil, All-append, All-contains, All-from_recursion}
use Rattle.tables.specs.Sizes.{Sizes}
use Rattle.log_header.specs.Header.{HeaderView}
use Rattle.log_text.specs.Entries.{EntryView}
use Rattle.log_text.specs.Writes.{are_of_version, are_writes}
use Rattle.log_text.specs.Bodies.{BodyView, Entries, Void, entries_in, is_next, is_timed, is_asked, is_entry, behind, entries_after, marked, body_after}
use Rattle.log_text.specs.Bodies.{bodies_after, start}
use Rattle.log_text.specs.File.{IsFile}
use Rattle.tables.specs.declared.limits.TheConstants.{MAX_MARK}
use Rattle.log_text.specs.declared.last.Last.{Last}
use Rattle.log_text.proofs.Fitting.{and_split}
use Rattle.log_text.proofs.Lawful.{through}
use Rattle.recover_found.specs.Found.{entries_of}

-- what comes of a value was made of one
made_of : {A B : Type 0} (f : A → Option B) (o : Option A) (y : B) → option_and_then f o ≡ Some y → (x : A) × (o ≡ Some x)
made_of f None y e = absurd cc
made_of f (Some x) y e = (x, refl)

-- what holds of each entry that may follow holds of all entries of a file
module _ (h : HeaderView) (P : EntryView → Type 0) (each : (mark number : ℕ) (last : Last) (e : EntryView) → is_entry h mark number last e ≡ true → P e) where
  entries_keep : (mark number : ℕ) (last : Last) (es : List EntryView) (now : Last) → entries_after h mark number last es ≡ Some now → AllByRecursion P es
  entries_keep mark number last [] now e = tt
  entries_keep mark number last (entry ∷ es) now e =
      let step = through (is_entry h mark number last entry) (entries_after h mark entry.number (behind last entry) es) now e in
      (each mark number last entry step.0, entries_keep mark entry.number (behind last entry) es now step.1)

  body_keeps : (last : Last) (b : BodyView) (now : Last) → body_after h last b ≡ Some now → All P (entries_in b)
  body_keeps last (Entries mark es) now e =
      let after = λ (l : Last). Some (marked mark l) in
      let step = through (nat_le last.mark mark && nat_le mark MAX_MARK) (option_and_then after (entries_after h mark 0 last es)) now e in
      let entries = made_of after (entries_after h mark 0 last es) now step.1 in
      All-from_recursion P es (entries_keep mark 0 last es entries.0 entries.1)
  body_keeps last (Void low high) now e = All-nil P

  bodies_keep : (last : Last) (bodies : List BodyView) → IsSome (bodies_after h last bodies) → All P (entries_of bodies)
  bodies_keep last [] some = All-nil P
  bodies_keep last (b ∷ bs) some = joined (body_after h last b) refl some (λ l. bodies_keep l bs)
    where
      joined : (o : Option Last) → body_after h last b ≡ o → IsSome (option_and_then (λ (l : Last). bodies_after h l bs) o)
          → ((l : Last) → IsSome (bodies_after h l bs) → All P (entries_of bs)) → All P (entries_in b ++ entries_of bs)
      joined None e is rest = absurd (true≢false (sym is))
      joined (Some l) e is rest = All-append P (entries_in b) (entries_of bs) (body_keeps last b l e) (rest l is)

  pub file_keeps : (file : List ℕ) (bodies : List BodyView) → IsFile file h bodies → All P (entries_of bodies)
  file_keeps file bodies is = bodies_keep start bodies is.lawful

-- its writes are lawful
abbrev HasLawful : Sizes → EntryView → Type 0
HasLawful s e = are_writes s e.writes ≡ true

entry_lawful : (h : HeaderView) (mark number : ℕ) (last : Last) (e : EntryView) → is_entry h mark number last e ≡ true → HasLawful h.scale e
entry_lawful h mark number last e lawful =
    let halves = and_split (is_next h number e.number && is_timed mark last e.tid)
    (is_asked h e.terminal && (are_writes h.scale e.writes && are_of_version h.version e.writes)) lawful in
    (and_split (are_writes h.scale e.writes) (are_of_version h.version e.writes)
    (and_split (is_asked h e.terminal) (are_writes h.scale e.writes && are_of_version h.version e.writes) halves.1).1).0

-- the entries of a log file
pub lawful_entries : (file : List ℕ) (h : HeaderView) (bodies : List BodyView) → IsFile file h bodies → (e : EntryView) → Contains (entries_of bodies) e
    → are_writes h.scale e.writes ≡ true
lawful_entries file h bodies is e among = All-contains (HasLawful h.scale) (entries_of bodies) e (file_keeps h (HasLawful h.scale) (entry_lawful h) file bodies is) among

-- an entry's commit number is at least 1
abbrev pub IsPositive : EntryView → Type 0
IsPositive e = 1 ≤ e.number

entry_positive : (h : HeaderView) (mark number : ℕ) (last : Last) (e : EntryView) → is_entry h mark number last e ≡ true → IsPositive e
entry_positive h mark number last e lawful =
    let halves = and_split (is_next h number e.number && is_timed mark last e.tid)
    (is_asked h e.terminal && (are_writes h.scale e.writes && are_of_version h.version e.writes)) lawful in
    let next = and_split (is_next h number e.number) (is_timed mark last e.tid) halves.0 in
    let above = and_split (nat_lt number e.number) (nat_le e.number h.scale.commits) next.0 in
    omega (arith, ltb-true number e.number above.0)

pub positive_entries : (file : List ℕ) (h : HeaderView) (bodies : List BodyView) → IsFile file h bodies → All IsPositive (entries_of bodies)
positive_entries file h bodies is = file_keeps h IsPositive (entry_positive h) file bodies is

-- and at most the commit cap
abbrev pub IsWithinCap : ℕ → EntryView → Type 0
IsWithinCap cap e = e.number ≤ cap

entry_within_cap : (h : HeaderView) (mark number : ℕ) (last : Last) (e : EntryView)
    → is_entry h mark number last e ≡ true → IsWithinCap h.scale.commits e
entry_within_cap h mark number last e lawful =
    let asked = is_asked h e.terminal && (are_writes h.scale e.writes && are_of_version h.version e.writes) in
    let halves = and_split (is_next h number e.number && is_timed mark last e.tid) asked lawful in
    let next = and_split (is_next h number e.number) (is_timed mark last e.tid) halves.0 in
    leb-true e.number h.scale.commits (and_split (nat_lt number e.number) (nat_le e.number h.scale.commits) next.0).1

pub entries_within_cap : (file : List ℕ) (h : HeaderView) (bodies : List BodyView) → IsFile file h bodies
    → All (IsWithinCap h.scale.commits) (entries_of bodies)
entries_within_cap file h bodies is = file_keeps h (IsWithinCap h.scale.commits) (entry_within_cap h) file bodies is
