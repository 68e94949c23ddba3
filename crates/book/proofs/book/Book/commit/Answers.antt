use Rattle.std.proofs.Common.{◌≡◌, ◌≢◌, ℕ, ◌+◌, ◌-◌, ◌<◌, ◌%◌, ◌^◌, Option, Some, List, [], ◌∷◌, ◌++◌, map, refl, sym, ap, ◌∙◌, subst, length, rules}
use Rattle.std.specs.Prelude.{slice_set}
use Rattle.std.specs.Arc.{arc_value}
use Rattle.std.proofs.lemmas.List.{length-map, map-append}
use Rattle.money.specs.declared.refusal.Refusal.TheVariants.{Conflict, EpochFull}
use Rattle.population.specs.Initial.{initial}
use Rattle.population.specs.declared.population.Population.{Population}
use Rattle.cells.specs.Versions.{last_tid}
use Rattle.cells.specs.Records.{CellsView, PenView, at, cell_count}
use Rattle.cells.proofs.Grown.{grown_twice}
use Rattle.readset.specs.Writes.{WriteSetView, AreWrittenOfKind, value_for}
use Rattle.board.specs.Steps.{counted_epochs}
use Rattle.board.specs.Seats.{SeatView, noted}
use Rattle.board.specs.declared.rule.WordStep.TheVariants.{LoadEpoch, CountCommit}
use Rattle.totals.specs.Counts.{MayFollow}
use Rattle.book.specs.Book.{BookView, IsAsBefore, HasSeen, entry_of}
use Rattle.book.specs.Committing.{CommitsWork, IsDeclined, IsHindered}
use Rattle.book.specs.Done.{Done}
use Rattle.book.specs.Epochs.{found_epoch}
use Rattle.book.specs.History.{replay, new_versions}
use Rattle.book.specs.Share.{ShareView}
use Rattle.book.specs.Shows.{Mirrors, IsCommitRun, reads_of}
use Rattle.book.specs.Stamps.{tid_for}
use Rattle.book.specs.declared.entry.Entry.{Entry}
use Rattle.book.specs.declared.untaken.Untaken.{Untaken}
use Rattle.book.proofs.Found.{view_here, kept_loaded, cap_of, count_of, never_full, no_conflict, none_taken, declined_by, found_of, is_due, same_tid}
use Rattle.book.proofs.Found.{has_tid, follows, kept_reserved, larger, kept_committed, may_count_one}
use Rattle.book.proofs.Kept.{annals_loaded, annals_below, annals_kept}
use Rattle.book.proofs.Loaded.{ready_loaded}
use Rattle.book.proofs.NextCommit.{is_next}
use Rattle.book.proofs.RefusedThere.{refused_there}
use Rattle.book.proofs.Runs.{stale_run, full_run, run}
use Rattle.book.proofs.Stores.{written_within}
use Rattle.book.proofs.Streams.{same_parts}
use Rattle.book.proofs.book.Book.commit.Goals as goal

conflict_not_full : Conflict ≢ EpochFull
conflict_not_full h = cc

pub invariant_of-self : goal.invariant_of-self
invariant_of-self g c = (
  kept_loaded c.self.invariant.0 c.requires.board c.epoch-epoch.ensures.later c.validate.ensures.pen c.epoch-epoch.ensures.step,
  annals_loaded c.self.invariant.1 c.requires.board c.self.invariant.0.board c.epoch-epoch.ensures.later c.epoch-epoch.ensures.step refl,
)

pub invariant_of-self-in-Err : goal.invariant_of-self-in-Err
invariant_of-self-in-Err g c =
    let found = found_of c.self.invariant.0 c.requires.board c.epoch-epoch.ensures.later c.requires.work c.in_order.ensures c.in-Some.ensures.latest
    c.share.invariant.1 c.index.ensures in (
      kept_reserved found (search rules) c.index_mut-stream.result.now c.prepare.new.stream c.index_mut-stream.ensures.value c.prepare.ensures.stream
          c.validate.ensures.pen (ap (map arc_value) c.prepare.ensures.history) c.epoch-epoch.ensures.step,
      annals_loaded c.self.invariant.1 c.requires.board c.self.invariant.0.board c.epoch-epoch.ensures.later c.epoch-epoch.ensures.step
          (ap (map arc_value) c.prepare.ensures.history),
    )

pub keep-requires-clause-mark : goal.keep-requires-clause-mark
keep-requires-clause-mark g c = annals_below c.self.invariant.1 c.requires.board c.self.invariant.0.board c.epoch-epoch.ensures.later

pub returns-in-Err-clause-declined : goal.returns-in-Err-clause-declined
returns-in-Err-clause-declined g c =
    let found = found_of c.self.invariant.0 c.requires.board c.epoch-epoch.ensures.later c.requires.work c.in_order.ensures c.in-Some.ensures.latest
    c.share.invariant.1 c.index.ensures in
    let view = c.self.view_is in
    let cap = cap_of c.self.invariant.0 c.commits.ensures.value (c.scale.ensures ∙ ap (λ (p : Population). (initial p).scale) c.deref.ensures) in
    let count = count_of c.self.invariant.0 (sym (length-map c.self.inside.history.items arc_value)) in
    let streams = c.self.inside.streams.items in
    let place = c.share.inside.terminal % c.len.result in
    record {
      cause = subst (λ (q : BookView × ShareView × ℕ). IsDeclined g.K.Run.run.first q.0 (g.K.Run.run.past + length q.0.history)
          (tid_for q.0.history q.1.terminal q.2 c.args.work.reads) c.args.work c.in-Err.refusal)
          (λ i. (view i, c.share.view_is i, sym (ap found_epoch c.epoch-epoch.ensures.step) i))
          (declined_by _ _ c.in-Err.refusal (is_due found) (subst (λ (q : ℕ × ℕ × Option ℕ). IsHindered q.0 q.1 q.2 c.in-Err.refusal)
          (λ i. (count i, cap i, same_tid found i)) c.in-Err.ensures.refused));
      book = subst (λ (k : BookView). IsAsBefore k (record {
        written = c.validate.new.pen;
        history = map arc_value c.prepare.new.history.items;
        seat = c.epoch-epoch.new.seat;
        taken = map (λ (s : Untaken). s.taken) (slice_set streams place c.prepare.new.stream);
        marks = map (λ (s : Untaken). s.mark) (slice_set streams place c.prepare.new.stream);
      })) view (record {
        written = c.validate.ensures.pen;
        history = ap (map arc_value) c.prepare.ensures.history;
        taken = same_parts (λ s. s.taken) streams place c.index_mut-stream.result.now c.prepare.new.stream c.index_mut-stream.ensures.value
            c.prepare.ensures.stream.taken;
        marks = same_parts (λ s. s.mark) streams place c.index_mut-stream.result.now c.prepare.new.stream c.index_mut-stream.ensures.value
            c.prepare.ensures.stream.mark;
      });
      share = refl;
    }

pub returns-in-Err-clause-cap_first : goal.returns-in-Err-clause-cap_first
returns-in-Err-clause-cap_first g c =
    let found = found_of c.self.invariant.0 c.requires.board c.epoch-epoch.ensures.later c.requires.work c.in_order.ensures c.in-Some.ensures.latest
    c.share.invariant.1 c.index.ensures in
    let cap = cap_of c.self.invariant.0 c.commits.ensures.value (c.scale.ensures ∙ ap (λ (p : Population). (initial p).scale) c.deref.ensures) in
    let count = count_of c.self.invariant.0 (sym (length-map c.self.inside.history.items arc_value)) in
    never_full c.in-Err.refusal c.in-Err.ensures.refused
    (λ below. has_tid found (subst (λ (q : ℕ × ℕ). q.0 < q.1) (λ i. (count i, cap i)) below))

pub returns-in-Err-clause-refused : goal.returns-in-Err-clause-refused
returns-in-Err-clause-refused g c =
    refused_there g.K.Run.run.past g.K.Run.run.first c.args.self.now _ c.args.work c.in-Err.refusal
    (returns-in-Err-clause-cap_first g c) (returns-in-Err-clause-declined g c).cause

pub store_counted-requires-clause-counted : goal.store_counted-requires-clause-counted
store_counted-requires-clause-counted g c =
    let found = found_of c.self.invariant.0 c.requires.board c.epoch-epoch.ensures.later c.requires.work c.in_order.ensures c.in-Some.ensures.latest
    c.share.invariant.1 c.index.ensures in
    let cap = cap_of c.self.invariant.0 c.commits.ensures.value (c.scale.ensures ∙ ap (λ (p : Population). (initial p).scale) c.deref.ensures) in
    let count = count_of c.self.invariant.0 (sym (length-map c.self.inside.history.items arc_value)) in
    let below = subst (λ (q : ℕ × ℕ). q.0 < q.1) (λ i. (count i, cap i)) c.in-Ok.ensures.prepared.below in
    let stored : c.deref-2.result.now ≡ entry_of _ c.in-Ok.prepared.tid c.share.inside.terminal c.args.work = c.deref-2.ensures ∙ c.in-Ok.ensures.prepared.entry in
    let t = replay g.K.Run.run.first (map arc_value c.self.inside.history.items) in (
      t,
      c.args.work.input,
      c.args.work.reply,
      subst (λ (q : PenView × WriteSetView). MayFollow t c.args.work.input c.args.work.reply c.self.inside.totals q.0 q.1)
          (λ i. (sym c.validate.ensures.pen i, (sym stored i).writes)) (follows found below),
    )

pub store_counted-requires-clause-may : goal.store_counted-requires-clause-may
store_counted-requires-clause-may g c =
    let found = found_of c.self.invariant.0 c.requires.board c.epoch-epoch.ensures.later c.requires.work c.in_order.ensures c.in-Some.ensures.latest
    c.share.invariant.1 c.index.ensures in
    let stored : c.deref-2.result.now ≡ entry_of _ c.in-Ok.prepared.tid c.share.inside.terminal c.args.work =
    c.deref-2.ensures ∙ c.in-Ok.ensures.prepared.entry in
    record {
      own = search rules;
      within = subst (λ (q : CellsView × Entry). (n : ℕ) (value : Option (List ℕ)) → value_for q.1.writes n ≡ Some value → n < cell_count q.0)
          (λ i. (sym c.requires.cells i, sym stored i))
          (written_within g.K.Run.run.cells c.args.reader.now c.args.work.reads c.args.work.writes c.requires.work.read
          c.requires.work.limits.writes_read);
      kinds = subst (λ (q : CellsView × Entry). AreWrittenOfKind q.0 q.1.writes) (λ i. (sym c.requires.cells i, sym stored i))
          c.requires.work.limits.writes_kinds;
      no_bits = search rules;
      larger = subst (λ (q : PenView × Entry). (n : ℕ) (value : Option (List ℕ)) → value_for q.1.writes n ≡ Some value
          → last_tid (at q.0.all n) < q.1.tid) (λ i. (sym c.validate.ensures.pen i, sym stored i))
          (larger found c.in-Ok.ensures.prepared.lawful c.in-Ok.ensures.prepared.tid);
    }

pub commit_step-requires-clause-room : goal.commit_step-requires-clause-room
commit_step-requires-clause-room g c =
    let cap = cap_of c.self.invariant.0 c.commits.ensures.value (c.scale.ensures ∙ ap (λ (p : Population). (initial p).scale) c.deref.ensures) in
    let count = count_of c.self.invariant.0 (sym (length-map c.self.inside.history.items arc_value)) in
    let below = subst (λ (q : ℕ × ℕ). q.0 < q.1) (λ i. (count i, cap i)) c.in-Ok.ensures.prepared.below in
    subst (λ (s : SeatView). length (counted_epochs s.steps) < 2 ^ 64 - 1) (sym c.epoch-epoch.ensures.step) (may_count_one c.self.invariant.0 below)

pub returns-clause-reader : goal.returns-clause-reader
returns-clause-reader g c = grown_twice c.args.reader.now c.validate.new.reader c.store_counted.new.reader c.validate.ensures.reader c.store_counted.ensures.stores.reader

pub invariant_of-self-2 : goal.invariant_of-self-2
invariant_of-self-2 g c =
    let items : List Entry = map arc_value c.self.inside.history.items in
    let found = found_of c.self.invariant.0 c.requires.board c.epoch-epoch.ensures.later c.requires.work c.in_order.ensures c.in-Some.ensures.latest
    c.share.invariant.1 c.index.ensures in
    let cap = cap_of c.self.invariant.0 c.commits.ensures.value (c.scale.ensures ∙ ap (λ (p : Population). (initial p).scale) c.deref.ensures) in
    let count = count_of c.self.invariant.0 (sym (length-map c.self.inside.history.items arc_value)) in
    let below = subst (λ (q : ℕ × ℕ). q.0 < q.1) (λ i. (count i, cap i)) c.in-Ok.ensures.prepared.below in
    let here : Entry = entry_of (g.K.Run.run.past + length items + 1) c.in-Ok.prepared.tid c.share.inside.terminal c.args.work in
    let entry : arc_value c.in-Ok.prepared.entry ≡ here =
    c.in-Ok.ensures.prepared.entry ∙ (λ i. entry_of (count i + 1) c.in-Ok.prepared.tid c.share.inside.terminal c.args.work) in
    let stored : c.deref-2.result.now ≡ here = c.deref-2.ensures ∙ entry in
    let cells = c.store_counted.ensures.stores.cells ∙ ap (λ (w : PenView). w.cells) c.validate.ensures.pen in
    let t = replay g.K.Run.run.first items in
    let longer : map arc_value c.push_reserved.new.self.items ≡ items ++ here ∷ [] =
    ap (map arc_value) c.push_reserved.ensures.items ∙ map-append arc_value c.prepare.new.history.items (c.in-Ok.prepared.entry ∷ [])
    ∙ (λ i. map arc_value (c.prepare.ensures.history i) ++ entry i ∷ []) in
    let step = c.commit_step.ensures ∙ ap (λ (s : SeatView). noted s (CountCommit c.epoch-epoch.result)) c.epoch-epoch.ensures.step in (
      kept_committed found c.in-Ok.ensures.prepared.lawful c.in-Ok.ensures.prepared.tid below c.store_counted.new.pen cells
          (λ n. c.store_counted.ensures.stores.versions n
          ∙ (λ i. at (c.validate.ensures.pen i).all n ++ new_versions (stored i).tid (stored i).writes.values n))
          c.store_counted.new.totals
          (c.store_counted.ensures.totals t c.args.work.input c.args.work.reply
          (subst (λ (q : PenView × WriteSetView). MayFollow t c.args.work.input c.args.work.reply c.self.inside.totals q.0 q.1)
          (λ i. (sym c.validate.ensures.pen i, (sym stored i).writes)) (follows found below)))
          (search rules) c.index_mut-stream.result.now c.add.new.self c.index_mut-stream.ensures.value
          (c.add.ensures.same.0 ∙ c.prepare.ensures.stream.taken) (c.add.ensures.same.1 ∙ c.prepare.ensures.stream.last_taken)
          (c.add.ensures.same.2 ∙ c.prepare.ensures.stream.mark)
          (ap (map arc_value) c.add.ensures.waiting ∙ map-append arc_value c.prepare.new.stream.waiting.items (c.in-Ok.prepared.waiting ∷ [])
          ∙ (λ i. map arc_value (c.prepare.ensures.stream.waiting i) ++ (c.in-Ok.ensures.prepared.waiting ∙ entry) i ∷ []))
          longer
          c.add-2.ensures.total
          step,
      annals_kept c.self.invariant.1 (annals_below c.self.invariant.1 c.requires.board c.self.invariant.0.board c.epoch-epoch.ensures.later)
          (ap found_epoch step) here
          (c.keep.ensures ∙ ap (λ (e : Entry). record {
            annals = c.self.inside.annalist.annals;
            history = c.self.inside.annalist.history ++ e ∷ [];
            mark = c.epoch-epoch.result - 1;
          }) (c.deref-4.ensures ∙ entry))
          longer,
    )

pub returns-clause-committed : goal.returns-clause-committed
returns-clause-committed g c =
    let items : List Entry = map arc_value c.self.inside.history.items in
    let found = found_of c.self.invariant.0 c.requires.board c.epoch-epoch.ensures.later c.requires.work c.in_order.ensures c.in-Some.ensures.latest
    c.share.invariant.1 c.index.ensures in
    let cap = cap_of c.self.invariant.0 c.commits.ensures.value (c.scale.ensures ∙ ap (λ (p : Population). (initial p).scale) c.deref.ensures) in
    let count = count_of c.self.invariant.0 (sym (length-map c.self.inside.history.items arc_value)) in
    let here : Entry = entry_of (g.K.Run.run.past + length items + 1) c.in-Ok.prepared.tid c.share.inside.terminal c.args.work in
    let entry : arc_value c.in-Ok.prepared.entry ≡ here =
    c.in-Ok.ensures.prepared.entry ∙ (λ i. entry_of (count i + 1) c.in-Ok.prepared.tid c.share.inside.terminal c.args.work) in
    let stored : c.deref-2.result.now ≡ here = c.deref-2.ensures ∙ entry in
    let of : c.in-Ok.prepared.done ≡ record { number = g.K.Run.run.past + length items + 1; tid = c.in-Ok.prepared.tid; reply = c.args.work.reply } =
    c.in-Ok.ensures.prepared.done ∙ (λ i. record { number = count i + 1; tid = c.in-Ok.prepared.tid; reply = c.args.work.reply }) in
    let seat : c.commit_step.new.seat ≡ noted (noted c.self.inside.seat (LoadEpoch c.epoch-epoch.result)) (CountCommit c.epoch-epoch.result) =
    c.commit_step.ensures ∙ ap (λ (s : SeatView). noted s (CountCommit c.epoch-epoch.result)) c.epoch-epoch.ensures.step in
    let streams = c.self.inside.streams.items in
    let place = c.share.inside.terminal % c.len.result in
    subst (λ (q : BookView × ShareView × Done × SeatView). CommitsWork g.K.Run.run.past g.K.Run.run.first q.0 (record {
      written = c.store_counted.new.pen;
      history = map arc_value c.push_reserved.new.self.items;
      seat = q.3;
      taken = map (λ (s : Untaken). s.taken) (slice_set streams place c.add.new.self);
      marks = map (λ (s : Untaken). s.mark) (slice_set streams place c.add.new.self);
    }) q.1 (record { terminal = c.share.inside.terminal; parts = c.add-2.new.share.parts; commits = c.add-2.new.share.amount })
    c.store_counted.new.reader c.args.work q.2)
    (λ i. (c.self.view_is i, c.share.view_is i, sym of i, sym seat i)) (record {
      due = is_due found;
      below = subst (λ (q : ℕ × ℕ). q.0 < q.1) (λ i. (count i, cap i)) c.in-Ok.ensures.prepared.below;
      tid = sym (same_tid found) ∙ c.in-Ok.ensures.prepared.tid;
      commits = record {
        history = ap (map arc_value) c.push_reserved.ensures.items ∙ map-append arc_value c.prepare.new.history.items (c.in-Ok.prepared.entry ∷ [])
            ∙ (λ i. map arc_value (c.prepare.ensures.history i) ++ entry i ∷ []);
        taken = same_parts (λ s. s.taken) streams place c.index_mut-stream.result.now c.add.new.self c.index_mut-stream.ensures.value
            (c.add.ensures.same.0 ∙ c.prepare.ensures.stream.taken);
        marks = same_parts (λ s. s.mark) streams place c.index_mut-stream.result.now c.add.new.self c.index_mut-stream.ensures.value
            (c.add.ensures.same.2 ∙ c.prepare.ensures.stream.mark);
        cells = c.store_counted.ensures.stores.cells ∙ ap (λ (w : PenView). w.cells) c.validate.ensures.pen;
        versions = λ n _. c.store_counted.ensures.stores.versions n
            ∙ (λ i. at (c.validate.ensures.pen i).all n ++ new_versions (stored i).tid (stored i).writes.values n);
      };
      number = refl;
      reply = refl;
      share = λ i. record { terminal = c.share.inside.terminal; parts = c.add-2.ensures.parts i; commits = c.add-2.ensures.amount i };
      seen = subst (λ (e : Entry). HasSeen c.store_counted.new.reader c.store_counted.new.pen e.writes) stored c.store_counted.ensures.stores.seen;
    })

pub returns-clause-next : goal.returns-clause-next
returns-clause-next g c = is_next (returns-clause-committed g c)

pub returns-in_default-clause-section : goal.returns-in_default-clause-section
returns-in_default-clause-section g c m w shows =
    record {
      conflict = λ _. stale_run (view_here c.self.invariant.0) c.self.invariant.0.sound
          (ready_loaded c.self.inside.seat c.self.invariant.0.board c.requires.board c.epoch-epoch.ensures.later c.self.invariant.0.ready)
          c.requires.work c.in_order.ensures c.args.share.now.terminal w m
          (subst (λ (q : BookView × ℕ). Mirrors q.0 c.args.share.now.terminal q.1 c.args.work.reads m w)
          (λ i. (sym c.self.view_is i, ap found_epoch c.epoch-epoch.ensures.step i)) shows)
          c.in_default.ensures.latest;
      epoch_full = λ e. absurd (conflict_not_full e);
    }

pub returns-in-Err-clause-section : goal.returns-in-Err-clause-section
returns-in-Err-clause-section g c m w shows =
    let found = found_of c.self.invariant.0 c.requires.board c.epoch-epoch.ensures.later c.requires.work c.in_order.ensures c.in-Some.ensures.latest
    c.share.invariant.1 c.index.ensures in
    record {
      conflict = λ e. absurd (no_conflict _ _ _ c.in-Err.refusal c.in-Err.ensures.refused e);
      epoch_full = λ e. full_run (view_here c.self.invariant.0) c.self.invariant.0.sound found.ready c.requires.work c.in_order.ensures
          c.share.inside.terminal w m
          (subst (λ (q : BookView × ShareView × ℕ). Mirrors q.0 q.1.terminal q.2 c.args.work.reads m w)
          (λ i. (sym c.self.view_is i, sym c.share.view_is i, ap found_epoch c.epoch-epoch.ensures.step i)) shows) found.latest
          (sym (same_tid found) ∙ none_taken _ _ _ c.in-Err.refusal c.in-Err.ensures.refused e);
    }

pub returns-clause-section : goal.returns-clause-section
returns-clause-section g c m w shows =
    let found = found_of c.self.invariant.0 c.requires.board c.epoch-epoch.ensures.later c.requires.work c.in_order.ensures c.in-Some.ensures.latest
    c.share.invariant.1 c.index.ensures in
    let seat : c.commit_step.new.seat ≡ noted (noted c.self.inside.seat (LoadEpoch c.epoch-epoch.result)) (CountCommit c.epoch-epoch.result) =
    c.commit_step.ensures ∙ ap (λ (s : SeatView). noted s (CountCommit c.epoch-epoch.result)) c.epoch-epoch.ensures.step in
    let stored : c.deref-2.result.now ≡ entry_of _ c.in-Ok.prepared.tid c.share.inside.terminal c.args.work = c.deref-2.ensures ∙ c.in-Ok.ensures.prepared.entry in
    subst (λ (n : ℕ). IsCommitRun m w (reads_of c.args.work.reads) c.args.work.writes.values n c.store_counted.new.pen)
    (sym (ap (λ (done : Done). done.tid) c.in-Ok.ensures.prepared.done))
    (run (view_here c.self.invariant.0) c.self.invariant.0.sound found.ready c.requires.work c.in_order.ensures c.share.inside.terminal w m
    (subst (λ (q : BookView × ShareView × ℕ). Mirrors q.0 q.1.terminal q.2 c.args.work.reads m w)
    (λ i. (sym c.self.view_is i, sym c.share.view_is i, ap found_epoch seat i)) shows)
    found.latest c.in-Ok.prepared.tid c.store_counted.new.pen (sym (same_tid found) ∙ c.in-Ok.ensures.prepared.tid) c.in-Ok.ensures.prepared.lawful.bits
    (c.store_counted.ensures.stores.cells ∙ ap (λ (w : PenView). w.cells) c.validate.ensures.pen)
    (λ n. c.store_counted.ensures.stores.versions n
    ∙ (λ i. at (c.validate.ensures.pen i).all n ++ new_versions (stored i).tid (stored i).writes.values n)))
