-- What a body that may follow has fits its bytes.
use Rattle.std.proofs.Common.{◌≡◌, ℕ, ◌+◌, ◌%◌, ◌^◌, ◌<◌, ◌≤◌, Bool, true, false, ◌&&◌, Option, Some, None, List, [], ◌∷◌, refl, arith}
use Rattle.std.proofs.lemmas.Bool.{leb-true, ltb-true}
use Rattle.std.specs.Prelude.{◌==◌, nat_le, nat_lt, if◌then◌else◌}
use Rattle.std.specs.List.{AllByRecursion}
use Rattle.std.specs.Option.{option_and_then}
use Rattle.tidword.specs.TidWord.{epoch_of}
use Rattle.log_codec.proofs.Codecs.{and_then_some}
use Rattle.log_header.specs.Header.{HeaderView, IsHeader}
use Rattle.log_text.specs.Writes.{are_of_version, are_writes}
use Rattle.log_text.specs.Entries.{EntryView}
use Rattle.log_text.specs.Bodies.{BodyView, Entries, Void, is_next, is_timed, is_asked, is_entry, behind, entries_after, marked, may_be_void, body_after}
use Rattle.log_text.specs.declared.body.TheConstants.{VOID_MARK}
use Rattle.tables.specs.declared.limits.TheConstants.{MAX_MARK, MAX_TERMINALS}
use Rattle.log_text.specs.declared.last.Last.{Last}
use Rattle.log_text.proofs.Texts.{FitsEntry}
use Rattle.log_text.proofs.Fitting.{and_split, few_writes, all_writes_fit}

pub through : {A : Type 0} (b : Bool) (o : Option A) (y : A) → (if b then o else None) ≡ Some y → (b ≡ true) × (o ≡ Some y)
through true o y e = (refl, e)
through false o y e = absurd cc

-- a body whose parts fit their bytes, and whose mark isn't what stands in its place in a void one
abbrev pub FitsBody : BodyView → Type 0
FitsBody (Entries mark entries) = (mark < VOID_MARK) × AllByRecursion FitsEntry entries
FitsBody (Void low high) = (low < 256 ^ 8) × (high < 256 ^ 8)

entry_fits : (h : HeaderView) → IsHeader h → (mark number : ℕ) (last : Last) (e : EntryView) → mark ≤ MAX_MARK → is_entry h mark number last e ≡ true → FitsEntry e
entry_fits h is mark number last e small lawful =
    let halves = and_split (is_next h number e.number && is_timed mark last e.tid)
    (is_asked h e.terminal && (are_writes h.scale e.writes && are_of_version h.version e.writes)) lawful in
    let first = and_split (is_next h number e.number) (is_timed mark last e.tid) halves.0 in
    let second = and_split (is_asked h e.terminal) (are_writes h.scale e.writes && are_of_version h.version e.writes) halves.1 in
    let writes = (and_split (are_writes h.scale e.writes) (are_of_version h.version e.writes) second.1).0 in
    let next = and_split (nat_lt number e.number) (nat_le e.number h.scale.commits) first.0 in
    let bits = and_split (e.tid % 8 == 0)
    (nat_le last.epoch (epoch_of e.tid) && (nat_lt last.mark (epoch_of e.tid) && nat_le (epoch_of e.tid) (mark + 1))) first.1 in
    let later = and_split (nat_le last.epoch (epoch_of e.tid)) (nat_lt last.mark (epoch_of e.tid) && nat_le (epoch_of e.tid) (mark + 1)) bits.1 in
    let timed = and_split (nat_lt last.mark (epoch_of e.tid)) (nat_le (epoch_of e.tid) (mark + 1)) later.1 in
    let asked = and_split (nat_lt e.terminal MAX_TERMINALS) (e.terminal % h.loggers == h.logger) second.0 in
    record {
      number = omega (arith, leb-true e.number h.scale.commits next.1, is.scale.commits.1);
      tid = omega (arith, leb-true (epoch_of e.tid) (mark + 1) timed.1, small);
      terminal = omega (arith, ltb-true e.terminal MAX_TERMINALS asked.0);
      count = few_writes h.scale e.writes writes;
      writes = all_writes_fit h.scale is.scale e.writes writes;
    }

entries_fit : (h : HeaderView) → IsHeader h → (mark number : ℕ) (last : Last) (es : List EntryView) (now : Last) → mark ≤ MAX_MARK
    → entries_after h mark number last es ≡ Some now → AllByRecursion FitsEntry es
entries_fit h is mark number last [] now small e = tt
entries_fit h is mark number last (entry ∷ es) now small e =
    let step = through (is_entry h mark number last entry) (entries_after h mark entry.number (behind last entry) es) now e in
    (entry_fits h is mark number last entry small step.0, entries_fit h is mark entry.number (behind last entry) es now small step.1)

pub body_fits : (h : HeaderView) → IsHeader h → (last : Last) (b : BodyView) (now : Last) → body_after h last b ≡ Some now → FitsBody b
body_fits h is last (Entries mark entries) now e =
    let step = through (nat_le last.mark mark && nat_le mark MAX_MARK)
    (option_and_then (λ (l : Last). Some (marked mark l)) (entries_after h mark 0 last entries)) now e in
    let marks = and_split (nat_le last.mark mark) (nat_le mark MAX_MARK) step.0 in
    let small : mark ≤ MAX_MARK = leb-true mark MAX_MARK marks.1 in
    let all = and_then_some (λ (l : Last). Some (marked mark l)) (entries_after h mark 0 last entries) now step.1 in
    (omega (arith, small), entries_fit h is mark 0 last entries all.0 small all.1)
body_fits h is last (Void low high) now e =
    let step = through (may_be_void last low high) (Some (marked high last)) now e in
    let halves = and_split (nat_le 1 low && nat_le low high) ((nat_le last.mark high && nat_le last.epoch high) && nat_le high MAX_MARK) step.0 in
    let range = and_split (nat_le 1 low) (nat_le low high) halves.0 in
    let marks = and_split (nat_le last.mark high && nat_le last.epoch high) (nat_le high MAX_MARK) halves.1 in
    let most : high ≤ MAX_MARK = leb-true high MAX_MARK marks.1 in
    (omega (arith, leb-true low high range.1, most), omega (arith, most))
