-- The streams of the loggers, through a commit and a take.
use Rattle.std.proofs.Common.{◌≡◌, ◌≢◌, ℕ, suc, ◌+◌, ◌-◌, ◌%◌, ◌<◌, ◌≤◌, ◌==◌, Bool, true, false, cond, ⊎_elim, List, [], ◌∷◌, ◌++◌, length, map, take, drop, refl, sym, ap, ◌∙◌}
use Rattle.std.proofs.Common.{subst, arith, All, mod-lt}
use Rattle.std.proofs.lemmas.Bool.{cases_eq}
use Rattle.std.proofs.lemmas.Bool.Decides.{eqb_tells}
use Rattle.std.proofs.lemmas.List.{get_or-set_same, get_or-set_other, length-set, length-append, length-drop, drop_all, take_all, take-append-drop}
use Rattle.std.proofs.lemmas.List.{append-nil, length-map}
use Rattle.std.proofs.lemmas.List.Elements.{All-push, All-nil, All-get_or, filter-append}
use lib.Seq.{drop-append-le, take-append-le, map-set, set-get_or}
use Rattle.std.specs.List.{slice_set}
use Rattle.std.specs.Prelude.{slice_index_or}
use Rattle.std.specs.Arc.{arc_value}
use Rattle.tidword.specs.TidWord.{epoch_of}
use Rattle.board.specs.declared.rule.Plan.{Plan}
use Rattle.book.specs.Parts.{AreEmpty}
use Rattle.book.specs.Streams.{stream, last_number, IsSameUntaken, IsUntakenOf, AreStreams}
use Rattle.tables.specs.declared.limits.TheConstants.{MAX_LOGGERS}
use Rattle.book.specs.declared.entry.Entry.{Entry}
use Rattle.book.specs.declared.untaken.Untaken.{Untaken}

pub same_stream : (base epoch : ℕ) (entries : List Entry) (s t : Untaken) → IsSameUntaken s t → IsUntakenOf base epoch entries s → IsUntakenOf base epoch
    entries t
same_stream base epoch entries s t same is = record {
  taken = subst (λ n. n ≤ length entries) (sym same.taken) is.taken;
  last_taken = same.last_taken ∙ is.last_taken ∙ ap (λ n. last_number 0 (take n entries)) (sym same.taken);
  waiting = ap (map arc_value) same.waiting ∙ is.waiting ∙ ap (λ n. drop n entries) (sym same.taken);
  least = subst (λ n. base ≤ n) (sym same.mark) is.least;
  mark = subst (λ n. n < epoch) (sym same.mark) is.mark;
  above = subst (λ (q : ℕ × ℕ). All (λ (e : Entry). q.0 < epoch_of e.tid) (drop q.1 entries)) (λ i. (sym same.mark i, sym same.taken i)) is.above;
}

-- a later epoch
pub streams_later : (plan : Plan) (old new : ℕ) (history : List Entry) (streams : List Untaken) → old ≤ new → AreStreams plan old history streams
    → AreStreams plan new history streams
streams_later plan old new history streams later are = record {
  some = are.some;
  few = are.few;
  count = are.count;
  each = λ l h d. let is = are.each l h d in record {
    taken = is.taken;
    last_taken = is.last_taken;
    waiting = is.waiting;
    least = is.least;
    mark = less (slice_index_or streams l d).mark is.mark;
    above = is.above;
  };
}
  where
    less : (n : ℕ) → n < old → n < new
    less n h = omega (arith, h, later)

-- one stream changes, and the history
pub stream_set : (plan : Plan) (epoch : ℕ) (old new : List Entry) (streams : List Untaken) (l : ℕ) (s : Untaken) → AreStreams plan epoch old streams → l <
    plan.loggers
    → ((k : ℕ) → k ≢ l → stream plan.loggers k new ≡ stream plan.loggers k old) → IsUntakenOf plan.base epoch (stream plan.loggers l new) s
    → AreStreams plan epoch new (slice_set streams l s)
stream_set plan epoch old new streams l s are within others is = record {
  some = are.some;
  few = are.few;
  count = length-set streams l s ∙ are.count;
  each = λ k h d. ⊎_elim
      (λ (same : k ≡ l). subst (λ (q : ℕ × Untaken). IsUntakenOf plan.base epoch (stream plan.loggers q.0 new) q.1)
      (λ i. (
        sym same i,
        (sym (get_or-set_same streams l s d (subst (λ n. l < n) (sym are.count) within)) ∙ ap
            (λ n. slice_index_or (slice_set streams l s) n d) (sym same)) i,
      )) is)
      (λ (other : k ≢ l). subst (λ (q : List Entry × Untaken). IsUntakenOf plan.base epoch q.0 q.1)
      (λ i. (sym (others k other) i, sym (get_or-set_other streams l k s d other) i)) (are.each k h d))
      (cases_eq k l);
}

-- an entry is at the end of its own stream
stream_here : (loggers l : ℕ) (history : List Entry) (e : Entry) → e.terminal % loggers ≡ l → stream loggers l (history ++ e ∷ [])
    ≡ stream loggers l history ++ e ∷ []
stream_here loggers l history e same = filter-append (λ (d : Entry). d.terminal % loggers == l) history (e ∷ [])
    ∙ ap (λ b. stream loggers l history ++ cond b (e ∷ []) []) (⊎_elim (λ yes. yes.0) (λ no. absurd (no.1 same)) (eqb_tells (e.terminal % loggers) l))

-- and in no other
stream_there : (loggers l : ℕ) (history : List Entry) (e : Entry) → e.terminal % loggers ≢ l
    → stream loggers l (history ++ e ∷ []) ≡ stream loggers l history
stream_there loggers l history e other = filter-append (λ (d : Entry). d.terminal % loggers == l) history (e ∷ [])
    ∙ ap (λ b. stream loggers l history ++ cond b (e ∷ []) []) (⊎_elim (λ yes. absurd (other yes.1)) (λ no. no.0) (eqb_tells (e.terminal % loggers) l))
    ∙ append-nil (stream loggers l history)

-- an entry of this epoch comes to its stream
pub stream_added : (base epoch : ℕ) (entries : List Entry) (e : Entry) (s t : Untaken) → epoch_of e.tid ≡ epoch → IsUntakenOf base epoch entries s
    → t.taken ≡ s.taken → t.last_taken ≡ s.last_taken → t.mark ≡ s.mark → map arc_value t.waiting.items ≡ map arc_value s.waiting.items ++ e ∷ []
    → IsUntakenOf base epoch (entries ++ e ∷ []) t
stream_added base epoch entries e s t in_epoch is taken number mark waiting = record {
  taken = omega (arith, taken, is.taken, length-append entries (e ∷ []));
  last_taken = number ∙ is.last_taken ∙ ap (last_number 0) (sym (take-append-le s.taken entries (e ∷ []) is.taken)
      ∙ ap (λ n. take n (entries ++ e ∷ [])) (sym taken));
  waiting = waiting ∙ (λ i. is.waiting i ++ e ∷ []) ∙ left;
  least = subst (λ n. base ≤ n) (sym mark) is.least;
  mark = subst (λ n. n < epoch) (sym mark) is.mark;
  above = subst (λ (q : ℕ × List Entry). All (λ (d : Entry). q.0 < epoch_of d.tid) q.1) (λ i. (sym mark i, left i))
      (All-push (λ (d : Entry). s.mark < epoch_of d.tid) (drop s.taken entries) e is.above (subst (λ n. s.mark < n) (sym in_epoch) is.mark));
}
  where
    left : drop s.taken entries ++ e ∷ [] ≡ drop t.taken (entries ++ e ∷ [])
    left = sym (drop-append-le s.taken entries (e ∷ []) is.taken) ∙ ap (λ n. drop n (entries ++ e ∷ [])) (sym taken)

last_behind : (n : ℕ) (xs ys : List Entry) → last_number n (xs ++ ys) ≡ last_number (last_number n xs) ys
last_behind n [] ys = refl
last_behind n (x ∷ xs) ys = last_behind x.number xs ys

-- what was taken and what waits are all
pub all_of : (base epoch : ℕ) (entries : List Entry) (s : Untaken) → IsUntakenOf base epoch entries s → s.taken + length s.waiting.items ≡ length entries
all_of base epoch entries s is = omega (arith, is.taken, sym (length-map s.waiting.items arc_value) ∙ ap length is.waiting ∙ length-drop s.taken entries)

-- all of a stream is taken
pub stream_taken : (base old new mark : ℕ) (entries : List Entry) (s t : Untaken) → IsUntakenOf base old entries s → base ≤ mark → mark < new
    → t.taken ≡ s.taken + length s.waiting.items → t.last_taken ≡ last_number s.last_taken (map arc_value s.waiting.items) → t.mark ≡ mark → t.waiting.items
    ≡ []
    → IsUntakenOf base new entries t
stream_taken base old new mark entries s t is more below taken number mark_is waiting = record {
  taken = omega (arith, all);
  last_taken = number ∙ (λ i. last_number (is.last_taken i) (is.waiting i)) ∙ sym (last_behind 0 (take s.taken entries) (drop s.taken entries))
      ∙ ap (last_number 0) (take-append-drop s.taken entries ∙ sym (take_all t.taken entries (omega (arith, all))));
  waiting = ap (map arc_value) waiting ∙ sym none;
  least = subst (λ n. base ≤ n) (sym mark_is) more;
  mark = subst (λ n. n < new) (sym mark_is) below;
  above = subst (All (λ (d : Entry). t.mark < epoch_of d.tid)) (sym none) (All-nil (λ (d : Entry). t.mark < epoch_of d.tid));
}
  where
    all : t.taken ≡ length entries
    all = taken ∙ all_of base old entries s is

    none : drop t.taken entries ≡ []
    none = drop_all t.taken entries (omega (arith, all))

-- the streams with which a run opens, at a board's base
pub first_streams : (plan : Plan) (streams : List Untaken) → 0 < plan.loggers → plan.loggers ≤ MAX_LOGGERS
    → AreEmpty plan.loggers plan.base streams → AreStreams plan (plan.base + 1) [] streams
first_streams plan streams some few are = record {
  some = some;
  few = few;
  count = are.count;
  each = λ l h d.
      let empty = All-get_or (λ (s : Untaken). (s.taken ≡ 0) × (s.last_taken ≡ 0) × (s.waiting.items ≡ []) × (s.mark ≡ plan.base)) streams l d
      (subst (λ n. l < n) (sym are.count) h) are.empty in
      first (slice_index_or streams l d) empty.0 empty.1 empty.2 empty.3;
}
  where
    first : (s : Untaken) → s.taken ≡ 0 → s.last_taken ≡ 0 → s.waiting.items ≡ [] → s.mark ≡ plan.base → IsUntakenOf plan.base (plan.base + 1) [] s
    first s taken number waiting mark = record {
      taken = omega (arith, taken);
      last_taken = number ∙ (λ i. last_number 0 (take (sym taken i) []));
      waiting = ap (map arc_value) waiting ∙ (λ i. drop (sym taken i) []);
      least = omega (arith, mark);
      mark = omega (arith, mark);
      above = subst (λ n. All (λ (e : Entry). s.mark < epoch_of e.tid) (drop n [])) (sym taken) (All-nil (λ (e : Entry). s.mark < epoch_of e.tid));
    }

last_from : (n : ℕ) (e d : Entry) (es : List Entry) → (slice_index_or (e ∷ es) (length es) d).number ≡ last_number n (e ∷ es)
last_from n e d [] = refl
last_from n e d (f ∷ es) = last_from e.number f d es

-- the last of entries, where there is one
pub last_at : (n : ℕ) (es : List Entry) (d : Entry) → 0 < length es → (slice_index_or es (length es - 1) d).number ≡ last_number n es
last_at n [] d h = absurd (none h)
  where
    none : 0 < 0 → ⊥
    none h = omega (arith, h)
last_at n (e ∷ es) d h = ap (λ k. (slice_index_or (e ∷ es) k d).number) less ∙ last_from n e d es
  where
    less : length (e ∷ es) - 1 ≡ length es
    less = omega arith

short : (b : Bool) (e : Entry) (us : List Entry) (n : ℕ) → length us ≤ n → length (cond b (e ∷ us) us) ≤ suc n
short true e us n h = omega (arith, h)
short false e us n h = omega (arith, h)

-- a stream is no longer than the history
pub stream_within : (loggers l : ℕ) (history : List Entry) → length (stream loggers l history) ≤ length history
stream_within loggers l [] = omega arith
stream_within loggers l (e ∷ es) = short (e.terminal % loggers == l) e (stream loggers l es) (length es) (stream_within loggers l es)

-- a stream as it is found
pub found : (plan : Plan) (epoch l : ℕ) (history : List Entry) (streams : List Untaken) (s : Untaken) → AreStreams plan epoch history streams → l < plan.loggers
    → s ≡ slice_index_or streams l s → IsUntakenOf plan.base epoch (stream plan.loggers l history) s
found plan epoch l history streams s are within is = subst (IsUntakenOf plan.base epoch (stream plan.loggers l history)) (sym is) (are.each l within s)

-- what stays of one stays of all
pub same_parts : (f : Untaken → ℕ) (streams : List Untaken) (l : ℕ) (s t : Untaken) → s ≡ slice_index_or streams l s → f t ≡ f s
    → map f (slice_set streams l t) ≡ map f streams
same_parts f streams l s t is same = map-set f streams l t ∙ ap (slice_set (map f streams) l) (same ∙ ap f is) ∙ sym
    (map-set f streams l (slice_index_or streams l s))
    ∙ ap (map f) (set-get_or streams l s)

module _ (plan : Plan) (old new n terminal : ℕ) (history : List Entry) (streams : List Untaken) (s : Untaken) (later : old ≤ new) (count : n ≡ plan.loggers)
    (are : AreStreams plan old history streams) (is : s ≡ slice_index_or streams (terminal % n) s) where
  abbrev own : ℕ
  own = terminal % n

  within : own < plan.loggers
  within = subst (λ k. own < k) count (mod-lt terminal (subst (λ k. 0 < k) (sym count) are.some))

  after : AreStreams plan new history streams
  after = streams_later plan old new history streams later are

  here : IsUntakenOf plan.base new (stream plan.loggers own history) s
  here = found plan new own history streams s after within is

  -- room is made in a terminal's stream
  pub streams_reserved : (t : Untaken) → IsSameUntaken s t → AreStreams plan new history (slice_set streams own t)
  streams_reserved t same = stream_set plan new history history streams own t after within (λ k _. refl)
      (same_stream plan.base new (stream plan.loggers own history) s t same here)

  -- an entry of it comes
  pub streams_added : (t : Untaken) (e : Entry) → e.terminal ≡ terminal → epoch_of e.tid ≡ new → t.taken ≡ s.taken → t.last_taken ≡ s.last_taken
      → t.mark ≡ s.mark → map arc_value t.waiting.items ≡ map arc_value s.waiting.items ++ e ∷ []
      → AreStreams plan new (history ++ e ∷ []) (slice_set streams own t)
  streams_added t e its in_epoch taken number mark waiting = stream_set plan new history (history ++ e ∷ []) streams own t after within
      (λ k other. stream_there plan.loggers k history e (λ same. other (sym same ∙ same_stream_of)))
      (subst (λ (es : List Entry). IsUntakenOf plan.base new es t) (sym (stream_here plan.loggers own history e same_stream_of))
      (stream_added plan.base new (stream plan.loggers own history) e s t in_epoch here taken number mark waiting))
    where
      same_stream_of : e.terminal % plan.loggers ≡ own
      same_stream_of = λ i. its i % sym count i
