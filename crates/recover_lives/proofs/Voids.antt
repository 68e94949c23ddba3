-- Files in some of which a restart has put its void body: what counts in them is what counted before.
use Rattle.std.proofs.Common.{◌≡◌, ◌⊎◌, ⊎_elim, ℕ, ◌+◌, ◌<◌, ◌≤◌, Bool, true, false, ◌&&◌, ◌||◌, Some, List, [], ◌∷◌, ◌++◌, map, refl, sym, ap, ◌∙◌, subst, arith, append-nil}
use Rattle.std.specs.Prelude.{nat_le, not, filter, if◌then◌else◌, None}
use Rattle.std.specs.List.{All, Contains}
use Rattle.std.proofs.lemmas.Bool.{le-leb, lt-leb, and_from, and_left, and_right, or_left, or_right}
use Rattle.std.proofs.lemmas.Bool.Decides.{leb_tells}
use Rattle.std.proofs.Math.Logic.{⊎_map}
use Rattle.std.proofs.lemmas.Grind.{flat_map-append}
use Rattle.std.proofs.lemmas.List.Elements.{All-head, All-tail}
use Rattle.tables.specs.Database.{Database}
use Rattle.tables.specs.declared.limits.TheConstants.{MAX_MARK}
use Rattle.tidword.specs.TidWord.{epoch_of}
use Rattle.board.specs.Words.{last_epoch}
use Rattle.log_codec.proofs.Codecs.{and_then_some}
use Rattle.log_header.specs.Header.{HeaderView}
use Rattle.log_text.specs.Bodies.{BodyView, Entries, Void, entries_in, marked, behind, is_entry, entries_after, may_be_void, body_after, bodies_after, start}
use Rattle.log_text.specs.Entries.{EntryView}
use Rattle.log_text.specs.declared.last.Last.{Last}
use Rattle.log_text.proofs.Texts.{some_is}
use Rattle.log_text.proofs.Lawful.{through}
use Rattle.log_entries.specs.Logged.{logged_entry}
use Rattle.book.specs.History.{Replays}
use Rattle.book.specs.Stamps.{AreStamped}
use Rattle.book.specs.Streams.{stream}
use Rattle.book.specs.declared.entry.Entry.{Entry}
use Rattle.recover_found.specs.Found.{last_mark, entries_of, void_in}
use Rattle.recover_crashes.specs.Recovering.{IsDurable, IsFitForLogs, Tell, is_void, counts_in, cut}
use Rattle.recover_crashes.proofs.Histories.{above_out, replays_front, stamped_front}
use Rattle.recover_crashes.proofs.Joins.{mark_join, void_join, any_same, any_true, filter_again}
use Rattle.recover_crashes.proofs.Lists.{all_in_front, all_behind}
use Rattle.recover_crashes.proofs.Marks.{last_is}
use Rattle.recover_lives.specs.Events.{void_body}

abbrev pub side : (a b : ℕ) → (a ≤ b) ⊎ (b < a)
side a b = ⊎_map (λ t. t.1) (λ t. t.1) (leb_tells a b)

-- ---- one file
abbrev pub with_body : ℕ → ℕ → List BodyView → List BodyView
with_body durable top old = old ++ void_body durable top ∷ []

pub entries_declared : (durable top : ℕ) (old : List BodyView) → entries_of (with_body durable top old) ≡ entries_of old
entries_declared durable top old = flat_map-append entries_in old (void_body durable top ∷ []) ∙ append-nil (entries_of old)

pub mark_declared : (durable top : ℕ) (old : List BodyView) → last_mark 0 (with_body durable top old) ≡ top
mark_declared durable top old = mark_join 0 old (void_body durable top ∷ [])

or_no : (a b : Bool) → b ≡ false → (a || (b || false)) ≡ a
or_no true b none = refl
or_no false b none = ap (λ (c : Bool). c || false) none

void_declared : (durable top : ℕ) (old : List BodyView) (epoch : ℕ)
    → void_in (with_body durable top old) epoch ≡ (void_in old epoch || ((nat_le (durable + 1) epoch && nat_le epoch top) || false))
void_declared durable top old epoch = void_join old (void_body durable top ∷ []) epoch

-- no epoch up to the durable one is declared void, and none above the top; all between them are
pub void_low : (durable top : ℕ) (old : List BodyView) (epoch : ℕ) → epoch ≤ durable → void_in (with_body durable top old) epoch ≡ void_in old epoch
void_low durable top old epoch low =
    void_declared durable top old epoch
    ∙ or_no (void_in old epoch) _ (and_left (nat_le (durable + 1) epoch) (nat_le epoch top) (lt-leb (durable + 1) epoch (omega (arith, low))))

pub void_high : (durable top : ℕ) (old : List BodyView) (epoch : ℕ) → top < epoch → void_in (with_body durable top old) epoch ≡ void_in old epoch
void_high durable top old epoch high =
    void_declared durable top old epoch
    ∙ or_no (void_in old epoch) _ (and_right (nat_le (durable + 1) epoch) (nat_le epoch top) (lt-leb epoch top high))

pub void_between : (durable top : ℕ) (old : List BodyView) (epoch : ℕ) → durable < epoch → epoch ≤ top → void_in (with_body durable top old) epoch ≡ true
void_between durable top old epoch high low =
    void_declared durable top old epoch
    ∙ or_right (void_in old epoch) _ (or_left _ false
    (and_from (nat_le (durable + 1) epoch) (nat_le epoch top) (le-leb (durable + 1) epoch (omega (arith, high))) (le-leb epoch top low)))

-- ---- all files, each with the void body or without it, in whatever order they get it
abbrev pub AreVoided : ℕ → (ℕ → List BodyView) → ℕ → ℕ → (ℕ → List BodyView) → Type 0
AreVoided n old durable top left = (l : ℕ) → l < n → (left l ≡ old l) ⊎ ((durable < top) × (left l ≡ with_body durable top (old l)))

module _ (n : ℕ) (old : ℕ → List BodyView) (durable top : ℕ) (left : ℕ → List BodyView) (are : AreVoided n old durable top left)
    (below : (l : ℕ) → l < n → last_mark 0 (old l) ≤ top) where
  pub entries_same : (l : ℕ) → l < n → entries_of (left l) ≡ entries_of (old l)
  entries_same l lt = ⊎_elim (λ e. ap entries_of e) (λ e. ap entries_of e.1 ∙ entries_declared durable top (old l)) (are l lt)

  -- marks rise
  pub rises : (l : ℕ) → l < n → last_mark 0 (old l) ≤ last_mark 0 (left l)
  rises l lt = ⊎_elim
      (λ (e : left l ≡ old l). omega (arith, ap (last_mark 0) e))
      (λ (e : (durable < top) × (left l ≡ with_body durable top (old l))). omega (arith, ap (last_mark 0) e.1, mark_declared durable top (old l), below l lt))
      (are l lt)

  same_low : (epoch : ℕ) → epoch ≤ durable → is_void n left epoch ≡ is_void n old epoch
  same_low epoch low = any_same n (λ l. void_in (left l) epoch) (λ l. void_in (old l) epoch)
      (λ l lt. ⊎_elim (λ e. ap (λ (bs : List BodyView). void_in bs epoch) e)
      (λ e. ap (λ (bs : List BodyView). void_in bs epoch) e.1 ∙ void_low durable top (old l) epoch low) (are l lt))

  module _ (is : IsDurable n old durable) (later : ℕ) (is_later : IsDurable n left later) where
    pub no_less : durable ≤ later
    no_less = omega (
      arith,
      is.least is_later.among.0 is_later.among.1,
      rises is_later.among.0 is_later.among.1,
      is_later.among.2,
    )

    -- where the durable epoch has risen, each file that held it back has the void body
    risen : (epoch : ℕ) → durable < epoch → epoch ≤ later → is_void n left epoch ≡ true
    risen epoch above low = any_true n (λ l. void_in (left l) epoch) is.among.0 is.among.1 (⊎_elim
        (λ (e : left is.among.0 ≡ old is.among.0). absurd (omega (
          arith,
          above,
          low,
          is_later.least is.among.0 is.among.1,
          ap (last_mark 0) e,
          is.among.2,
        )))
        (λ (e : (durable < top) × (left is.among.0 ≡ with_body durable top (old is.among.0))).
        ap (λ (bs : List BodyView). void_in bs epoch) e.1
        ∙ void_between durable top (old is.among.0) epoch above
        (omega (arith, low, is_later.least is.among.0 is.among.1, ap (last_mark 0) e.1, mark_declared durable top (old is.among.0))))
        (are is.among.0 is.among.1))

    pub same_counts : (epoch : ℕ) → counts_in n left later epoch ≡ counts_in n old durable epoch
    same_counts epoch = ⊎_elim
        (λ (low : epoch ≤ durable).
        let both : nat_le epoch later ≡ nat_le epoch durable = le-leb epoch later (omega (arith, low, no_less)) ∙ sym (le-leb epoch durable low) in
        λ i. both i && not (same_low epoch low i))
        (λ (above : durable < epoch). ⊎_elim
        (λ (low : epoch ≤ later). and_right (nat_le epoch later) _ (ap not (risen epoch above low)))
        (λ (high : later < epoch). above_out later epoch (is_void n left) high)
        (side epoch later)
        ∙ sym (above_out durable epoch (is_void n old) above))
        (side epoch durable)

    pub counts_are : counts_in n left later ≡ counts_in n old durable
    counts_are = λ i epoch. same_counts epoch i

    -- they tell the same
    pub tell_same : (t0 : Database) (history released : List Entry) → Tell t0 n old durable history released → Tell t0 n left later history released
    tell_same t0 history released tell = record {
      is_durable = is_later;
      rest = tell.rest;
      beginning = tell.beginning ∙ ap (λ (c : ℕ → Bool). cut c history ++ tell.rest) (sym counts_are);
      held = λ l lt.
          (λ i. filter (λ (e : EntryView). counts_are i (epoch_of e.tid)) (entries_same l lt i))
          ∙ tell.held l lt
          ∙ ap (λ (c : ℕ → Bool). map (logged_entry t0.scale) (stream n l (cut c history))) (sym counts_are);
      told = subst (λ (c : ℕ → Bool). All (Contains (cut c history)) released) (sym counts_are) tell.told;
      replays = tell.replays;
      stamped = tell.stamped;
      fit = tell.fit;
    }

-- what counts of a history is told as a whole
pub tell_again : (t0 : Database) (n : ℕ) (files : ℕ → List BodyView) (durable : ℕ) (history released : List Entry)
    → Tell t0 n files durable history released → Tell t0 n files durable (cut (counts_in n files durable) history) released
tell_again t0 n files durable history released tell =
    let front : List Entry = cut (counts_in n files durable) history in
    let again : cut (counts_in n files durable) front ≡ front = filter_again (λ (e : Entry). counts_in n files durable (epoch_of e.tid)) history in
    record {
      is_durable = tell.is_durable;
      rest = [];
      beginning = sym (append-nil (cut (counts_in n files durable) front) ∙ again);
      held = λ l lt. tell.held l lt ∙ ap (λ (es : List Entry). map (logged_entry t0.scale) (stream n l es)) (sym again);
      told = subst (λ (es : List Entry). All (Contains es) released) (sym again) tell.told;
      replays = replays_front 1 t0 front tell.rest (subst (λ (es : List Entry). Replays 1 t0 es) tell.beginning tell.replays);
      stamped = stamped_front front tell.rest (subst AreStamped tell.beginning tell.stamped);
      fit = all_in_front (IsFitForLogs t0.scale) front tell.rest (subst (All (IsFitForLogs t0.scale)) tell.beginning tell.fit);
    }

-- ---- the void body may follow
last_of_entries : (h : HeaderView) (mark number : ℕ) (last : Last) (es : List EntryView) (now : Last) (top : ℕ)
    → entries_after h mark number last es ≡ Some now → last.epoch ≤ top → All (λ e. epoch_of e.tid ≤ top) es → now.epoch ≤ top
last_of_entries h mark number last [] now top e low all = subst (λ (l : Last). l.epoch ≤ top) (some_is last now e) low
last_of_entries h mark number last (x ∷ es) now top e low all =
    let step = through (is_entry h mark number last x) (entries_after h mark x.number (behind last x) es) now e in
    last_of_entries h mark x.number (behind last x) es now top step.1 (All-head (λ (d : EntryView). epoch_of d.tid ≤ top) x es all)
    (All-tail (λ (d : EntryView). epoch_of d.tid ≤ top) x es all)

last_of_body : (h : HeaderView) (last : Last) (b : BodyView) (now : Last) (top : ℕ) → body_after h last b ≡ Some now → last.epoch ≤ top
    → All (λ e. epoch_of e.tid ≤ top) (entries_in b) → now.epoch ≤ top
last_of_body h last (Entries mark es) now top e low all =
    let t = through _ _ now e in
    let s = and_then_some (λ (l : Last). Some (marked mark l)) (entries_after h mark 0 last es) now t.1 in
    subst (λ (l : Last). l.epoch ≤ top) (some_is (marked mark s.0) now s.2) (last_of_entries h mark 0 last es s.0 top s.1 low all)
last_of_body h last (Void from to) now top e low all =
    let t = through (may_be_void last from to) (Some (marked to last)) now e in subst (λ (l : Last). l.epoch ≤ top) (some_is (marked to last) now t.1) low

-- the last epoch of a file is none above all its entries' epochs
pub last_bound : (h : HeaderView) (first : Last) (bs : List BodyView) (last : Last) (top : ℕ) → bodies_after h first bs ≡ Some last → first.epoch ≤ top
    → All (λ e. epoch_of e.tid ≤ top) (entries_of bs) → last.epoch ≤ top
last_bound h first [] last top e low all = subst (λ (l : Last). l.epoch ≤ top) (some_is first last e) low
last_bound h first (b ∷ bs) last top e low all =
    let s = and_then_some (λ (l : Last). bodies_after h l bs) (body_after h first b) last e in
    last_bound h s.0 bs last top s.2
    (last_of_body h first b s.0 top s.1 low (all_in_front (λ (d : EntryView). epoch_of d.tid ≤ top) (entries_in b) (entries_of bs) all))
    (all_behind (λ (d : EntryView). epoch_of d.tid ≤ top) (entries_in b) (entries_of bs) all)

pub void_follows : (h : HeaderView) (old : List BodyView) (last : Last) (durable top : ℕ) → bodies_after h start old ≡ Some last → durable < top
    → top < last_epoch → last_mark 0 old ≤ top → last.epoch ≤ top → body_after h last (void_body durable top) ≡ Some (marked top last)
void_follows h old last durable top lawful more room marks epochs =
    let mark : last_mark 0 old ≡ last.mark = last_is h start old last lawful in
    let may : may_be_void last (durable + 1) top ≡ true =
    and_from _ _
    (and_from _ _ (le-leb 1 (durable + 1) (omega arith)) (le-leb (durable + 1) top (omega (arith, more))))
    (and_from _ _ (and_from _ _ (le-leb last.mark top (omega (arith, mark, marks))) (le-leb last.epoch top epochs))
    (le-leb top MAX_MARK (omega (arith, room)))) in
    ap (λ (b : Bool). if b then Some (marked top last) else None) may
