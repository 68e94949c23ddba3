-- In a log file neither marks nor epochs fall.
use Rattle.std.proofs.Common.{◌≡◌, ◌⊎◌, inl, inr, ℕ, ◌+◌, ◌%◌, ◌<◌, ◌≤◌, ◌==◌, true, false, ◌&&◌, Some, List, [], ◌∷◌, ◌++◌, refl, sym, ap, ◌∙◌, subst, arith}
use Rattle.std.specs.Prelude.{nat_le, nat_lt}
use Rattle.std.specs.List.{All}
use Rattle.std.specs.Option.{option_and_then}
use Rattle.std.proofs.lemmas.Bool.{leb-true, lt-leb, and_right, or_from}
use Rattle.std.proofs.lemmas.List.Elements.{All-append, All-cons, All-head, All-nil, All-tail, All-weaker}
use Rattle.tables.specs.declared.limits.TheConstants.{MAX_MARK}
use Rattle.tidword.specs.TidWord.{epoch_of}
use Rattle.log_codec.proofs.Codecs.{and_then_some}
use Rattle.log_header.specs.Header.{HeaderView}
use Rattle.log_text.specs.Bodies.{BodyView, Entries, Void, mark_of, entries_in, voids, is_next, is_timed, is_asked, is_entry, behind, entries_after, marked, may_be_void}
use Rattle.log_text.specs.Bodies.{body_after, bodies_after}
use Rattle.log_text.specs.Entries.{EntryView}
use Rattle.log_text.specs.Writes.{are_of_version, are_writes}
use Rattle.log_text.specs.declared.last.Last.{Last}
use Rattle.log_text.proofs.Texts.{some_is}
use Rattle.log_text.proofs.Fitting.{and_split}
use Rattle.log_text.proofs.Lawful.{through}
use Rattle.recover_found.specs.Found.{entries_of, void_in}
use Rattle.recover_crashes.proofs.Lists.{all_in_front, all_behind}
use Rattle.recover_opening.specs.Tops.{epoch_behind, epoch_from}

-- the entry is of no later epoch
abbrev pub IsUpToEpoch : ℕ → EntryView → Type 0
IsUpToEpoch epoch e = epoch_of e.tid ≤ epoch

up_to_later : (a b : ℕ) → a ≤ b → (es : List EntryView) → All (IsUpToEpoch a) es → All (IsUpToEpoch b) es
up_to_later a b low es all = All-weaker (IsUpToEpoch a) (IsUpToEpoch b) (λ e is. omega (arith, is, low)) es all

entry_rises : (h : HeaderView) (mark number : ℕ) (last : Last) (e : EntryView) → is_entry h mark number last e ≡ true → last.epoch ≤ epoch_of e.tid
entry_rises h mark number last e lawful =
    let halves = and_split (is_next h number e.number && is_timed mark last e.tid) (is_asked h e.terminal && (are_writes h.scale e.writes && are_of_version h.version e.writes)) lawful in
    let first = and_split (is_next h number e.number) (is_timed mark last e.tid) halves.0 in
    let bits = and_split (e.tid % 8 == 0)
    (nat_le last.epoch (epoch_of e.tid) && (nat_lt last.mark (epoch_of e.tid) && nat_le (epoch_of e.tid) (mark + 1))) first.1 in
    let later = and_split (nat_le last.epoch (epoch_of e.tid)) (nat_lt last.mark (epoch_of e.tid) && nat_le (epoch_of e.tid) (mark + 1)) bits.1 in
    leb-true last.epoch (epoch_of e.tid) later.0

-- where a file stands behind entries: at no earlier epoch, at none before any of theirs, and at that of the last of them
record Rise (before now : ℕ) (es : List EntryView) : Type 0 where
  pub no_less : before ≤ now
  pub all : All (IsUpToEpoch now) es
  pub is_last : now ≡ epoch_behind before es

entries_rise : (h : HeaderView) (mark number : ℕ) (last : Last) (es : List EntryView) (now : Last) → entries_after h mark number last es ≡ Some now
    → Rise last.epoch now.epoch es
entries_rise h mark number last [] now e =
    let same : last.epoch ≡ now.epoch = ap (λ (l : Last). l.epoch) (some_is last now e) in
    record { no_less = omega (arith, same); all = All-nil (IsUpToEpoch now.epoch); is_last = sym same }
entries_rise h mark number last (x ∷ es) now e =
    let step = through (is_entry h mark number last x) (entries_after h mark x.number (behind last x) es) now e in
    let rest = entries_rise h mark x.number (behind last x) es now step.1 in
    record {
      no_less = omega (arith, entry_rises h mark number last x step.0, rest.no_less);
      all = All-cons (IsUpToEpoch now.epoch) x es rest.no_less rest.all;
      is_last = rest.is_last;
    }

-- and behind a body
record BodyRises (last now : Last) (b : BodyView) : Type 0 where
  pub marks : last.mark ≤ now.mark
  pub mark_is : now.mark ≡ mark_of b
  pub rise : Rise last.epoch now.epoch (entries_in b)
  pub ends : (epoch : ℕ) → now.mark < epoch → voids b epoch ≡ false

to_body : (last m now : Last) (b : BodyView) → m ≡ now → BodyRises last m b → BodyRises last now b
to_body last m now b same is = subst (λ (l : Last). BodyRises last l b) same is

body_rises : (h : HeaderView) (last : Last) (b : BodyView) (now : Last) → body_after h last b ≡ Some now → BodyRises last now b
body_rises h last (Entries mark es) now e =
    let step = through (nat_le last.mark mark && nat_le mark MAX_MARK)
    (option_and_then (λ (l : Last). Some (marked mark l)) (entries_after h mark 0 last es)) now e in
    let marks = and_split (nat_le last.mark mark) (nat_le mark MAX_MARK) step.0 in
    let all = and_then_some (λ (l : Last). Some (marked mark l)) (entries_after h mark 0 last es) now step.1 in
    to_body last (marked mark all.0) now (Entries mark es) (some_is (marked mark all.0) now all.2)
    (record {
      marks = leb-true last.mark mark marks.0;
      mark_is = refl;
      rise = entries_rise h mark 0 last es all.0 all.1;
      ends = λ epoch above. refl;
    })
body_rises h last (Void low high) now e =
    let step = through (may_be_void last low high) (Some (marked high last)) now e in
    let halves = and_split (nat_le 1 low && nat_le low high) ((nat_le last.mark high && nat_le last.epoch high) && nat_le high MAX_MARK) step.0 in
    let tops = and_split (nat_le last.mark high && nat_le last.epoch high) (nat_le high MAX_MARK) halves.1 in
    let marks = and_split (nat_le last.mark high) (nat_le last.epoch high) tops.0 in
    to_body last (marked high last) now (Void low high) (some_is (marked high last) now step.1)
    (record {
      marks = leb-true last.mark high marks.0;
      mark_is = refl;
      rise = record { no_less = omega arith; all = All-nil (IsUpToEpoch last.epoch); is_last = refl };
      ends = λ epoch above. and_right (nat_le low epoch) (nat_le epoch high) (lt-leb epoch high above);
    })

-- and behind bodies
pub record FileRises (first last : Last) (bs : List BodyView) : Type 0 where
  pub marks : first.mark ≤ last.mark
  pub epochs : first.epoch ≤ last.epoch
  pub entries : All (IsUpToEpoch last.epoch) (entries_of bs)
  pub epoch_is : last.epoch ≡ epoch_from first.epoch bs
  pub ends : (epoch : ℕ) → last.mark < epoch → void_in bs epoch ≡ false

pub file_rises : (h : HeaderView) (first : Last) (bs : List BodyView) (last : Last) → bodies_after h first bs ≡ Some last → FileRises first last bs
file_rises h first [] last e =
    let same = some_is first last e in
    record {
      marks = omega (arith, ap (λ (l : Last). l.mark) same);
      epochs = omega (arith, ap (λ (l : Last). l.epoch) same);
      entries = All-nil (IsUpToEpoch last.epoch);
      epoch_is = sym (ap (λ (l : Last). l.epoch) same);
      ends = λ epoch above. refl;
    }
file_rises h first (b ∷ bs) last e =
    let step = and_then_some (λ (l : Last). bodies_after h l bs) (body_after h first b) last e in
    let body = body_rises h first b step.0 step.1 in
    let rest = file_rises h step.0 bs last step.2 in
    record {
      marks = omega (arith, body.marks, rest.marks);
      epochs = omega (arith, body.rise.no_less, rest.epochs);
      entries = All-append (IsUpToEpoch last.epoch) (entries_in b) (entries_of bs)
          (up_to_later step.0.epoch last.epoch rest.epochs (entries_in b) body.rise.all) rest.entries;
      epoch_is = rest.epoch_is ∙ ap (λ (n : ℕ). epoch_from n bs) body.rise.is_last;
      ends = λ epoch above. or_from (voids b epoch) (void_in bs epoch) (body.ends epoch (omega (arith, rest.marks, above))) (rest.ends epoch above);
    }

-- the epoch of the last entry doesn't go by what was before, where there is an entry
behind_same : (a b : ℕ) (es : List EntryView) → (es ≡ []) ⊎ (epoch_behind a es ≡ epoch_behind b es)
behind_same a b [] = inl refl
behind_same a b (e ∷ es) = inr refl

pub from_same : (a b : ℕ) (bs : List BodyView) → (entries_of bs ≡ []) ⊎ (epoch_from a bs ≡ epoch_from b bs)
from_same a b [] = inl refl
from_same a b (x ∷ bs) = by (behind_same a b (entries_in x)) (from_same a b bs)
  where
    by : (entries_in x ≡ []) ⊎ (epoch_behind a (entries_in x) ≡ epoch_behind b (entries_in x))
        → (entries_of bs ≡ []) ⊎ (epoch_from a bs ≡ epoch_from b bs)
        → (entries_in x ++ entries_of bs ≡ []) ⊎ (epoch_from (epoch_behind a (entries_in x)) bs ≡ epoch_from (epoch_behind b (entries_in x)) bs)
    by (inr same) rest = inr (ap (λ (n : ℕ). epoch_from n bs) same)
    by (inl none) (inl no_more) = inl ((λ i. none i ++ entries_of bs) ∙ no_more)
    by (inl none) (inr same) = inr (
        ap (λ (es : List EntryView). epoch_from (epoch_behind a es) bs) none ∙ same
        ∙ sym (ap (λ (es : List EntryView). epoch_from (epoch_behind b es) bs) none)
        )

-- and it is no later than all are
behind_low : (before top : ℕ) (es : List EntryView) → before ≤ top → All (IsUpToEpoch top) es → epoch_behind before es ≤ top
behind_low before top [] low all = low
behind_low before top (e ∷ es) low all =
    behind_low (epoch_of e.tid) top es (All-head (IsUpToEpoch top) e es all) (All-tail (IsUpToEpoch top) e es all)

pub from_low : (before top : ℕ) (bs : List BodyView) → before ≤ top → All (IsUpToEpoch top) (entries_of bs) → epoch_from before bs ≤ top
from_low before top [] low all = low
from_low before top (b ∷ bs) low all =
    from_low (epoch_behind before (entries_in b)) top bs
    (behind_low before top (entries_in b) low (all_in_front (IsUpToEpoch top) (entries_in b) (entries_of bs) all))
    (all_behind (IsUpToEpoch top) (entries_in b) (entries_of bs) all)
