-- A batch may follow where its file stands.
use Rattle.std.proofs.Common.{◌≡◌, ℕ, ◌+◌, ◌%◌, ◌<◌, ◌≤◌, Bool, true, ◌&&◌, Option, Some, None, List, ◌++◌, [], ◌∷◌, map, length, get_or, refl, sym, ap, ◌∙◌, subst, arith}
use Rattle.std.specs.Prelude.{nat_le, if◌then◌else◌}
use Rattle.std.specs.List.{All}
use Rattle.std.specs.Option.{option_and_then}
use Rattle.std.proofs.lemmas.Bool.{and_from, lt-ltb, le-leb, eq-eqb}
use Rattle.std.proofs.lemmas.List.Elements.{All-head, All-tail, All-weaker}
use Rattle.std.specs.Arc.{arc_value}
use Rattle.std.specs.declared.sync.Arc.{Arc}
use Rattle.std.proofs.Common.{Global}
use Rattle.std.proofs.lemmas.List.{get_or-map, length-map}
use Rattle.std.specs.Option.{unwrap_or}
use Rattle.std.specs.Coded.{Coded-set, coded_bool}
use Rattle.std.proofs.Math.Logic.{∥∥₁_elim}
use Rattle.tables.specs.Sizes.{Sizes, IsScale}
use Rattle.tables.specs.Database.{Database}
use Rattle.tables.specs.Apply.{after}
use Rattle.tables.specs.Records.{record_count, key_of}
use Rattle.tables.specs.Rows.{rows}
use Rattle.tables.specs.WellFormed.{IsHistoryRow}
use Rattle.tables.specs.declared.keys.OrderKey.{OrderKey}
use Rattle.tables.specs.declared.records.RecordKey.TheVariants as key
use Rattle.tables.specs.declared.rows.History.{History}
use Rattle.tables_laws.proofs.Kept.{after-IsOf}
use Rattle.tables_laws.proofs.NamesKept.{IsOf-itself}
use Rattle.readset.specs.Writes.{value_for, added}
use Rattle.tidword.specs.TidWord.{epoch_of}
use Rattle.log_header.specs.Header.{HeaderView}
use Rattle.log_header.specs.declared.header.TheConstants.{VERSION}
use Rattle.log_text.specs.declared.write.Write.{Write}
use Rattle.log_text.specs.Writes.{are_of_version, are_writes}
use Rattle.log_text.specs.Bodies.{is_entry, entries_after, behind, marked, body_after}
use Rattle.log_text.specs.declared.last.Last.{Last}
use Rattle.tables.specs.declared.limits.TheConstants.{MAX_MARK, MAX_TERMINALS}
use Rattle.book.specs.Batches.{BatchView, IsBatch}
use Rattle.book.specs.Loggable.{IsDoneAtTables, IsLoggable, NumbersRise}
use Rattle.book.specs.Stamps.{AreStamped, Follows}
use Rattle.book.specs.Streams.{last_number}
use Rattle.book.specs.declared.entry.Entry.{Entry}
use Rattle.log_entries.specs.Logged.{writes_of, logged_entry}
use Rattle.log_entries.proofs.Lawful.{are_lawful}
use Rattle.log_entries.specs.Following.{IsOfVersion, body_of_batch, last_epoch_of, behind_batch, Continues}

-- what is asked of an entry, but for its turn
pub record IsFit (h : HeaderView) (least mark : ℕ) (e : Entry) : Type 0 where
  pub cap : e.number ≤ h.scale.commits
  pub above : least < epoch_of e.tid
  pub near : epoch_of e.tid ≤ mark + 1
  pub terminal : e.terminal < MAX_TERMINALS
  pub asked : e.terminal % h.loggers ≡ h.logger
  pub writes : are_writes h.scale (writes_of h.scale e.writes) ≡ true
  pub of_version : IsOfVersion h.version h.scale e

module _ (h : HeaderView) (mark : ℕ) where
  fits : (number : ℕ) (last : Last) (e : Entry) → number < e.number → last.epoch ≤ epoch_of e.tid → e.tid % 8 ≡ 0 → IsFit h last.mark mark e
      → is_entry h mark number last (logged_entry h.scale e) ≡ true
  fits number last e rise epoch bits fit =
      and_from _ _
      (and_from _ _
      (and_from _ _ (lt-ltb number e.number rise) (le-leb e.number h.scale.commits fit.cap))
      (and_from _ _ (eq-eqb (e.tid % 8) 0 bits)
      (and_from _ _ (le-leb last.epoch (epoch_of e.tid) epoch)
      (and_from _ _ (lt-ltb last.mark (epoch_of e.tid) fit.above) (le-leb (epoch_of e.tid) (mark + 1) fit.near)))))
      (and_from _ _
      (and_from _ _ (lt-ltb e.terminal MAX_TERMINALS fit.terminal) (eq-eqb (e.terminal % h.loggers) h.logger fit.asked))
      (and_from _ _ fit.writes fit.of_version))

  entries_follow : (number : ℕ) (last : Last) (es : List Entry) → NumbersRise number es → AreStamped es → All (λ (e : Entry). last.epoch ≤ epoch_of e.tid) es
      → All (IsFit h last.mark mark) es
      → entries_after h mark number last (map (logged_entry h.scale) es) ≡ Some (record { mark = last.mark; epoch = last_epoch_of last.epoch es })
  entries_follow number last [] rise stamped epochs fit = refl
  entries_follow number last (e ∷ es) rise stamped epochs fit =
      let this = fits number last e rise.0 (All-head (λ (d : Entry). last.epoch ≤ epoch_of d.tid) e es epochs) stamped.0 (All-head (IsFit h last.mark mark) e es fit) in
      let later = All-weaker (Follows e) (λ (d : Entry). epoch_of e.tid ≤ epoch_of d.tid) (λ d f. f.epochs) es stamped.1 in
      ap (λ (b : Bool). if b then entries_after h mark e.number (behind last (logged_entry h.scale e)) (map (logged_entry h.scale) es) else None) this
      ∙ entries_follow e.number (behind last (logged_entry h.scale e)) es rise.1 stamped.2 later (All-tail (IsFit h last.mark mark) e es fit)

-- what holds of all holds of the last ones
all_behind : {X : Type 0} (P : X → Type 0) (xs ys : List X) → All P (xs ++ ys) → All P ys
all_behind P [] ys h = h
all_behind P (x ∷ xs) ys h = all_behind P xs ys (All-tail P x (xs ++ ys) h)

-- an entry that is done at some tables has writes that an entry of a log file may have
done_writes : (s : Sizes) → IsScale s → (e : Entry) → IsLoggable s e → IsDoneAtTables s e → are_writes s (writes_of s e.writes) ≡ true
done_writes s scale e h d =
    let t : Database = after d.tables e.input in
    let same : t.scale ≡ s = (after-IsOf d.tables d.tables e.input (IsOf-itself d.tables)).scale ∙ d.scale in
    let commit = d.commits.commit in
    let stands : (n : ℕ) (value : Option (List ℕ)) → value_for e.writes n ≡ Some value → rows t n ≡ value
    = (λ n value found. commit.rows n (subst (λ (z : Sizes). n < record_count z) (sym d.scale) (h.records n value found))
    ∙ ap (λ (v : Option (Option (List ℕ))). unwrap_or v (rows d.tables n)) found) in
    let row : All (IsHistoryRow s) (added e.writes.history_row)
    = all_behind (IsHistoryRow s) d.tables.history (added e.writes.history_row)
    (subst (λ (z : Sizes). All (IsHistoryRow z) (d.tables.history ++ added e.writes.history_row)) same
    (subst (λ (l : List History). All (IsHistoryRow t.scale) l) commit.history d.well_formed.history_rows)) in
    let absent : (n : ℕ) → n < record_count s → value_for e.writes n ≡ Some None → (k : OrderKey) × (key_of s n ≡ key.NewOrder k)
    = subst (λ (z : Sizes). (n : ℕ) → n < record_count z → value_for e.writes n ≡ Some None → (k : OrderKey) × (key_of z n ≡ key.NewOrder k)) d.scale
    (λ n below. commit.absent n below) in
    are_lawful s scale e.writes t same d.well_formed h.ordered h.limit h.records h.texts stands row absent

pub writes_lawful : (s : Sizes) → IsScale s → (e : Entry) → IsLoggable s e → are_writes s (writes_of s e.writes) ≡ true
writes_lawful s scale e h = ∥∥₁_elim h.done (Coded-set coded_bool _ _) (λ d. done_writes s scale e h d)

-- numbers that rise from above one rise from above 0
rise_from_zero : (before : ℕ) (es : List Entry) → NumbersRise before es → NumbersRise 0 es
rise_from_zero before [] rise = tt
rise_from_zero before (e ∷ es) rise = (omega (arith, rise.0), rise.1)

-- in a file that is written today any writes may stand
of_today : (version : ℕ) (ws : List Write) → version ≡ VERSION → are_of_version version ws ≡ true
of_today version ws same = ap (λ (n : ℕ). are_of_version n ws) same

pub all_of_today : (h : HeaderView) (b : BatchView) → h.version ≡ VERSION → All (IsOfVersion h.version h.scale) b.entries
all_of_today h b same = λ k d lt. of_today h.version (writes_of h.scale (get_or b.entries k d).writes) same

-- a batch that continues a file, of entries that may stand in one of its version, may follow where the file stands
pub batch_follows : (h : HeaderView) (count number : ℕ) (last : Last) (b : BatchView) → All (IsOfVersion h.version h.scale) b.entries → IsBatch b
    → Continues h count number last b → last.epoch ≤ last.mark + 1
    → IsScale b.scale → body_after h last (body_of_batch b) ≡ Some (behind_batch last b)
batch_follows h count number last b versions is at epoch scale =
    let marks : (nat_le last.mark b.mark && nat_le b.mark MAX_MARK) ≡ true
    = and_from _ _ (le-leb last.mark b.mark (omega (arith, at.mark_before, is.marks_rise))) (le-leb b.mark MAX_MARK (omega (arith, is.last_mark))) in
    let rise : NumbersRise 0 b.entries = rise_from_zero b.number_before b.entries is.rise in
    let fit : All (IsFit h last.mark b.mark) b.entries = (λ k d lt. record {
      cap = subst (λ (s : Sizes). (get_or b.entries k d).number ≤ s.commits) at.scale (is.cap k d lt);
      above = omega (arith, (is.epochs k d lt).0, at.mark_before);
      near = (is.epochs k d lt).1;
      terminal = (is.asked k d lt).0;
      asked = subst (λ (n : ℕ). (get_or b.entries k d).terminal % n ≡ h.logger) at.loggers ((is.asked k d lt).1 ∙ at.logger);
      writes = subst (λ (s : Sizes). are_writes s (writes_of s (get_or b.entries k d).writes) ≡ true) at.scale (writes_lawful b.scale scale (get_or b.entries k d) (is.each k d lt));
      of_version = versions k d lt;
    }) in
    let epochs : All (λ (e : Entry). last.epoch ≤ epoch_of e.tid) b.entries
    = (λ k d lt. omega (arith, epoch, (is.epochs k d lt).0, at.mark_before)) in
    let entries = entries_follow h b.mark 0 last b.entries rise is.stamped epochs fit in
    ap (λ (t : Bool). if t then option_and_then (λ (l : Last). Some (marked b.mark l)) (entries_after h b.mark 0 last (map (logged_entry b.scale) b.entries)) else None) marks
    ∙ ap (λ (s : Sizes). option_and_then (λ (l : Last). Some (marked b.mark l)) (entries_after h b.mark 0 last (map (logged_entry s) b.entries))) at.scale
    ∙ ap (option_and_then (λ (l : Last). Some (marked b.mark l))) entries

-- behind it the epoch is at most one above the mark
epoch_near : (mark : ℕ) (before : ℕ) (es : List Entry) → before ≤ mark + 1 → All (λ (e : Entry). epoch_of e.tid ≤ mark + 1) es → last_epoch_of before es ≤ mark + 1
epoch_near mark before [] small near = small
epoch_near mark before (e ∷ es) small near =
    epoch_near mark (epoch_of e.tid) es (All-head (λ (d : Entry). epoch_of d.tid ≤ mark + 1) e es near) (All-tail (λ (d : Entry). epoch_of d.tid ≤ mark + 1) e es near)

pub batch_near : (last : Last) (b : BatchView) → IsBatch b → b.mark_before ≡ last.mark → last.epoch ≤ last.mark + 1
    → (behind_batch last b).epoch ≤ (behind_batch last b).mark + 1
batch_near last b is same epoch =
    epoch_near b.mark last.epoch b.entries (omega (arith, epoch, same, is.marks_rise)) (λ k d lt. (is.epochs k d lt).1)

-- the numbers of so many entries rise by no less
pub number_rises : (before : ℕ) (es : List Entry) → NumbersRise before es → before + length es ≤ last_number before es
number_rises before [] rise = omega arith
number_rises before (e ∷ es) rise = omega (arith, rise.0, number_rises e.number es rise.1)

-- an entry of a batch, found in memory by its place
pub loggable_at : (s : Sizes) (xs : List (Arc Entry Global)) → All (IsLoggable s) (map arc_value xs) → (i : ℕ) (x : Arc Entry Global) (e : Entry)
    → i < length xs → x ≡ get_or xs i x → e ≡ arc_value x → IsLoggable s e
loggable_at s xs all i x e lt is same =
    subst (IsLoggable s) (get_or-map arc_value xs i x e lt ∙ ap arc_value (sym is) ∙ sym same)
    (all i e (subst (λ (n : ℕ). i < n) (sym (length-map xs arc_value)) lt))
