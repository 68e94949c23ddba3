-- A log file that is opened again: where it stands, and what no crash can take of it.
use Rattle.std.proofs.Common.{◌≡◌, ℕ, ◌+◌, ◌%◌, ◌<◌, ◌≤◌, ◌==◌, true, ◌&&◌, Some, List, [], ◌∷◌, ◌++◌, length}
use Rattle.std.proofs.Common.{refl, sym, ap, ◌∙◌, subst, append_assoc, length-append, arith}
use Rattle.std.specs.Prelude.{nat_le, nat_lt}
use Rattle.std.specs.Option.{option_and_then}
use Rattle.std.proofs.lemmas.Bool.{leb-true}
use Rattle.tables.specs.declared.limits.TheConstants.{MAX_MARK}
use Rattle.tidword.specs.TidWord.{epoch_of}
use Rattle.log_codec.proofs.Codecs.{and_then_some}
use Rattle.log_disk.specs.Calls.{Call, Synced}
use Rattle.log_disk.specs.Crashes.{MayLeave}
use Rattle.log_header.specs.Header.{HeaderView, header_text}
use Rattle.log_text.specs.Writes.{are_of_version, are_writes}
use Rattle.log_text.specs.Entries.{EntryView}
use Rattle.log_text.specs.Bodies.{BodyView, Entries, Void, is_next, is_timed, is_asked, is_entry, behind, entries_after, marked, may_be_void, body_after}
use Rattle.log_text.specs.Bodies.{bodies_after, start}
use Rattle.log_text.specs.File.{IsFile, IsFileTo, opened}
use Rattle.log_text.specs.declared.last.Last.{Last}
use Rattle.log_text.proofs.Texts.{some_is}
use Rattle.log_text.proofs.Fitting.{and_split}
use Rattle.log_text.proofs.Lawful.{through}
use Rattle.logfile.specs.Standing.{Stands}

-- where epochs are near a mark: none is further than one above it
abbrev pub IsNear : ℕ → Last → Type 0
IsNear mark last = last.epoch ≤ mark + 1

entry_near : (h : HeaderView) (mark number : ℕ) (last : Last) (e : EntryView) → is_entry h mark number last e ≡ true → epoch_of e.tid ≤ mark + 1
entry_near h mark number last e lawful =
    let halves = and_split (is_next h number e.number && is_timed mark last e.tid) (is_asked h e.terminal && (are_writes h.scale e.writes && are_of_version h.version e.writes)) lawful in
    let first = and_split (is_next h number e.number) (is_timed mark last e.tid) halves.0 in
    let bits = and_split (e.tid % 8 == 0)
    (nat_le last.epoch (epoch_of e.tid) && (nat_lt last.mark (epoch_of e.tid) && nat_le (epoch_of e.tid) (mark + 1))) first.1 in
    let later = and_split (nat_le last.epoch (epoch_of e.tid)) (nat_lt last.mark (epoch_of e.tid) && nat_le (epoch_of e.tid) (mark + 1)) bits.1 in
    let timed = and_split (nat_lt last.mark (epoch_of e.tid)) (nat_le (epoch_of e.tid) (mark + 1)) later.1 in
    leb-true (epoch_of e.tid) (mark + 1) timed.1

entries_near : (h : HeaderView) (mark number : ℕ) (last : Last) (es : List EntryView) (now : Last) → entries_after h mark number last es ≡ Some now
    → IsNear mark last → IsNear mark now
entries_near h mark number last [] now e near = subst (IsNear mark) (some_is last now e) near
entries_near h mark number last (entry ∷ es) now e near =
    let step = through (is_entry h mark number last entry) (entries_after h mark entry.number (behind last entry) es) now e in
    entries_near h mark entry.number (behind last entry) es now step.1 (entry_near h mark number last entry step.0)

-- behind a body that may follow, a file stands at an epoch near its mark
pub body_near : (h : HeaderView) (last : Last) (b : BodyView) (now : Last) → body_after h last b ≡ Some now → IsNear last.mark last → IsNear now.mark now
body_near h last (Entries mark entries) now e near =
    let step = through (nat_le last.mark mark && nat_le mark MAX_MARK)
    (option_and_then (λ (l : Last). Some (marked mark l)) (entries_after h mark 0 last entries)) now e in
    let marks = and_split (nat_le last.mark mark) (nat_le mark MAX_MARK) step.0 in
    let all = and_then_some (λ (l : Last). Some (marked mark l)) (entries_after h mark 0 last entries) now step.1 in
    let far = entries_near h mark 0 last entries all.0 all.1 (omega (arith, near, leb-true last.mark mark marks.0)) in
    subst (λ (l : Last). IsNear l.mark l) (some_is (marked mark all.0) now all.2) far
body_near h last (Void low high) now e near =
    let step = through (may_be_void last low high) (Some (marked high last)) now e in
    let halves = and_split (nat_le 1 low && nat_le low high) ((nat_le last.mark high && nat_le last.epoch high) && nat_le high MAX_MARK) step.0 in
    let marks = and_split (nat_le last.mark high && nat_le last.epoch high) (nat_le high MAX_MARK) halves.1 in
    let before = and_split (nat_le last.mark high) (nat_le last.epoch high) marks.0 in
    subst (λ (l : Last). IsNear l.mark l) (some_is (marked high last) now step.1) (omega (arith, leb-true last.epoch high before.1))

pub bodies_near : (h : HeaderView) (last : Last) (bodies : List BodyView) (now : Last) → bodies_after h last bodies ≡ Some now → IsNear last.mark last
    → IsNear now.mark now
bodies_near h last [] now e near = subst (λ (l : Last). IsNear l.mark l) (some_is last now e) near
bodies_near h last (b ∷ bs) now e near =
    let step = and_then_some (λ (l : Last). bodies_after h l bs) (body_after h last b) now e in
    bodies_near h step.0 bs now step.2 (body_near h last b step.0 step.1 near)

-- a file's bodies leave it so
pub file_near : (file : List ℕ) (h : HeaderView) (bodies : List BodyView) (last : Last) (end : ℕ) → IsFileTo file h bodies last end → IsNear last.mark last
file_near file h bodies last end is = bodies_near h start bodies last is.stands (omega arith)

-- the gate that ends a file's text is one of its bytes
pub end_within : (file : List ℕ) (h : HeaderView) (bodies : List BodyView) (last : Last) (end : ℕ) → IsFileTo file h bodies last end → end < length file
end_within file h bodies last end is =
    omega (
      arith,
      is.place,
      ap length (is.is.text ∙ sym (append_assoc (header_text h) (opened bodies) (is.is.gate ∷ is.is.rest))),
      length-append (header_text h ++ opened bodies) (is.is.gate ∷ is.is.rest),
    )

-- a disk that was synced, and then read
pub reopened : (bytes : List ℕ) (h : HeaderView) (bodies : List BodyView) (last : Last) (end : ℕ) (before synced seen : List ℕ) (old mid new : List Call)
    → IsFileTo bytes h bodies last end → bytes ≡ synced → synced ≡ before → seen ≡ synced → mid ≡ Synced before ∷ old → new ≡ mid
    → Stands h bodies end last seen new
reopened bytes h bodies last end before synced seen old mid new is read same left story stays = record {
  file = subst (λ (b : List ℕ). IsFile b h bodies) (read ∙ sym left) is.is;
  lawful = is.stands;
  settled = λ b may. subst (λ (s : List Call). MayLeave s b) (stays ∙ story) may ∙ sym same ∙ sym left;
  place = is.place;
}

-- the same, of the bytes that the disk had before, which a read gives after it
pub reopened_read : (bytes : List ℕ) (h : HeaderView) (bodies : List BodyView) (last : Last) (end : ℕ) (before seen : List ℕ) (old new : List Call)
    → IsFileTo bytes h bodies last end → bytes ≡ before → seen ≡ before → new ≡ Synced before ∷ old
    → Stands h bodies end last seen new
reopened_read bytes h bodies last end before seen old new is read same story =
    reopened bytes h bodies last end before before seen old new new is read refl same story refl
