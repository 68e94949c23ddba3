-- A body of a log file, what one append leaves: its text, and which bodies may follow one another.
use Rattle.std.specs.Prelude.{ℕ, ◌+◌, ◌%◌, ◌^◌, ◌<◌, nat_lt, nat_le, ◌==◌, ◌&&◌, Bool, false, Option, Some, None, if◌then◌else◌}
use Rattle.std.specs.Prelude.{List, [], ◌∷◌, ◌++◌, length, map, flat_map}
use Rattle.std.specs.List.{All}
use Rattle.std.specs.Option.{option_and_then}
use Rattle.log_codec.specs.Numbers.{number}
use Rattle.tidword.specs.TidWord.{epoch_of}
use Rattle.log_text.specs.Entries.{EntryView, entry_text, logged}
use Rattle.log_header.specs.Header.{HeaderView}
use Rattle.log_text.specs.Writes.{are_of_version, are_writes}
use Rattle.tables.specs.declared.limits.TheConstants.{MAX_MARK, MAX_TERMINALS}
use Rattle.log_text.specs.declared.body.Body.{Body}
use Rattle.log_text.specs.declared.body.Body.TheVariants as body
use Rattle.log_text.specs.declared.body.TheConstants.{VOID_MARK}
use Rattle.log_text.specs.declared.last.Last.{Last}

-- a mark, and entries; or that the epochs from one to another are void: in no file does an entry of theirs count
pub data BodyView : Type 0 where
  Entries : (mark : ℕ) → (entries : List EntryView) → BodyView
  Void : (low : ℕ) → (high : ℕ) → BodyView

abbrev pub body_of : Body → BodyView
body_of (body.Entries mark entries) = Entries mark (map logged entries.items)
body_of (body.Void low high) = Void low high

-- its entries have at most 65,535 writes each
abbrev pub HasFewWrites : Body → Type 0
HasFewWrites (body.Entries mark entries) = All (λ e. length e.writes.items < 2 ^ 16) entries.items
HasFewWrites (body.Void low high) = Unit {0}

-- the mark up to which a file is whole with it
abbrev pub mark_of : BodyView → ℕ
mark_of (Entries mark entries) = mark
mark_of (Void low high) = high

abbrev pub entries_in : BodyView → List EntryView
entries_in (Entries mark entries) = entries
entries_in (Void low high) = []

-- whether it declares an epoch void
abbrev pub voids : BodyView → ℕ → Bool
voids (Entries mark entries) epoch = false
voids (Void low high) epoch = nat_le low epoch && nat_le epoch high

-- in place of a mark, which is never so large, a void body has 2^64 - 1
abbrev pub content_text : BodyView → List ℕ
content_text (Entries mark entries) = number 8 mark ++ flat_map entry_text entries
content_text (Void low high) = number 8 VOID_MARK ++ (number 8 low ++ number 8 high)

-- the length counts the content and the gate behind it
abbrev pub body_text : BodyView → List ℕ
body_text b = number 8 (length (content_text b) + 1) ++ content_text b

-- where a file stands behind no body: the last mark, and the last entry's epoch, which is at least 1
abbrev pub start : Last
start = record { mark = 0; epoch = 1 }

-- inside a body commit numbers rise, up to the commit cap
abbrev pub is_next : HeaderView → ℕ → ℕ → Bool
is_next h last n = nat_lt last n && nat_le n h.scale.commits

-- the epoch is none before the last one, above every mark before, and at most one above its own body's mark
abbrev pub is_timed : ℕ → Last → ℕ → Bool
is_timed mark last tid = (tid % 8 == 0) && (nat_le last.epoch (epoch_of tid)
    && (nat_lt last.mark (epoch_of tid) && nat_le (epoch_of tid) (mark + 1)))

-- a terminal of this logger
abbrev pub is_asked : HeaderView → ℕ → Bool
is_asked h terminal = nat_lt terminal MAX_TERMINALS && (terminal % h.loggers == h.logger)

-- behind an entry of this number, and 0 where it is the first of its body
abbrev pub is_entry : HeaderView → ℕ → ℕ → Last → EntryView → Bool
is_entry h mark number last e = (is_next h number e.number && is_timed mark last e.tid)
    && (is_asked h e.terminal && (are_writes h.scale e.writes && are_of_version h.version e.writes))

-- where a file stands behind one entry more, and behind some, in a body of this mark
abbrev pub behind : Last → EntryView → Last
behind last e = record { mark = last.mark; epoch = epoch_of e.tid }

abbrev pub entries_after : HeaderView → ℕ → ℕ → Last → List EntryView → Option Last
entries_after h mark number last [] = Some last
entries_after h mark number last (e ∷ es) =
    if is_entry h mark number last e then entries_after h mark e.number (behind last e) es else None

-- and behind one body more, whose mark is no less than the one before
abbrev pub marked : ℕ → Last → Last
marked mark last = record { mark = mark; epoch = last.epoch }

-- epochs may be declared void up to one that is no less than any mark or entry's epoch before
abbrev pub may_be_void : Last → ℕ → ℕ → Bool
may_be_void last low high = (nat_le 1 low && nat_le low high)
    && ((nat_le last.mark high && nat_le last.epoch high) && nat_le high MAX_MARK)

abbrev pub body_after : HeaderView → Last → BodyView → Option Last
body_after h last (Entries mark entries) = if nat_le last.mark mark && nat_le mark MAX_MARK
    then option_and_then (λ l. Some (marked mark l)) (entries_after h mark 0 last entries) else None
body_after h last (Void low high) = if may_be_void last low high then Some (marked high last) else None

abbrev pub bodies_after : HeaderView → Last → List BodyView → Option Last
bodies_after h last [] = Some last
bodies_after h last (b ∷ bs) = option_and_then (λ l. bodies_after h l bs) (body_after h last b)
