-- What others do between a worker's events changes nothing that the worker sees.
use Rattle.std.proofs.Common.{◌≡◌, ◌≢◌, ℕ, ◌<◌, max, Option, Some, None, IsSome, is_none, false, true≢false, List, [], ◌∷◌, ◌++◌, length, slice_set}
use Rattle.std.proofs.Common.{slice_index_or, All, refl, sym, ap, ◌∙◌, subst, unwrap_or}
use Rattle.std.proofs.lemmas.List.{get_or-set_same, get_or-set_other, length-set}
use Rattle.std.proofs.lemmas.List.Elements.{All-head, All-tail}
use Rattle.tidword.specs.TidWord.{tid_of, is_locked}
use Rattle.tidword.specs.Lawful.{next}
use Rattle.commit.specs.Machine.{Machine, Worker, IsIdle, idle_worker, no_cell, note_at, without, worker, version_of}
use Rattle.commit.specs.Events.{IsEnabled, AreEnabled, after_event, after_all, validated_by, after_choice, greatest_read, greatest_locked, seen_by, locked_cell}
use Rattle.commit.specs.Events.{unlocked_cell, written_cell}
use Rattle.commit.specs.Weaving.{actor, AreOwn, IsOfOthers, ReadsEpoch, LooksSame, IsWoven, over, mine, between, MayBeWoven}
use Rattle.commit.specs.declared.worker.Phase.TheVariants.{Begun, Entered, Chosen, Failed}
use Rattle.commit.specs.declared.worker.Cell.{Cell}
use Rattle.commit.specs.declared.event.Event.{Event}
use Rattle.commit.specs.declared.event.Event.TheVariants.{Begin, Read, Lock, ReadEpoch, Validate, ChooseTid, Install, Unlock, AdvanceEpoch}

same_number : (k w : ℕ) → Some k ≡ Some w → k ≡ w
same_number k w e = ap (λ o. unwrap_or o k) e

no_number : (w : ℕ) → None ≡ Some w → ⊥
no_number w e = true≢false (ap is_none e)

abbrev at : List Cell → ℕ → Cell
at records r = slice_index_or records r no_cell

-- how many workers there are, one of them, and the records
abbrev Sight : Type 0
Sight = ℕ × Worker × List Cell

-- where an event may happen, by what its worker sees
abbrev Ready : Event → ℕ → Sight → Type 0
Ready (Begin k) w s = (w < s.0) × IsIdle s.1
Ready (Read k r) w s = (w < s.0) × (r < length s.2) × (s.1.phase ≡ Begun) × (s.1.locks ≡ []) × (note_at s.1.reads r ≡ None)
Ready (Lock k r value) w s = (w < s.0) × (r < length s.2) × (s.1.phase ≡ Begun) × All (λ lock. lock.0 < r) s.1.locks × (is_locked (at s.2 r).word ≡ false)
Ready (ReadEpoch k) w s = (w < s.0) × (s.1.phase ≡ Begun)
Ready (Validate k r) w s = (w < s.0) × (s.1.phase ≡ Entered) × IsSome (note_at s.1.reads r)
Ready (ChooseTid k) w s = (w < s.0) × (s.1.phase ≡ Entered) × (s.1.reads ≡ [])
Ready (Install k r) w s = (w < s.0) × (s.1.phase ≡ Chosen) × IsSome (note_at s.1.locks r)
Ready (Unlock k r) w s = (w < s.0) × (s.1.phase ≡ Failed) × IsSome (note_at s.1.locks r)
Ready AdvanceEpoch w s = Unit {0}

module _ (w : ℕ) (a b : Machine) (same : LooksSame w a b) where
  ready_too : (e : Event) → Ready e w (length a.workers, worker a w, a.records) → Ready e w (length b.workers, worker b w, b.records)
  ready_too e h = subst (Ready e w) (λ i. (sym same.workers i, sym same.own i, sym same.records i)) h

  same_locked : (notes : List (ℕ × Option (List ℕ))) → greatest_locked b notes ≡ greatest_locked a notes
  same_locked [] = refl
  same_locked (note ∷ notes) = λ i. max (tid_of (at (same.records i) note.0).word) (same_locked notes i)

  same_seen : seen_by b (worker b w) ≡ seen_by a (worker a w)
  same_seen = ap (seen_by b) same.own ∙ ap (max (greatest_read (worker a w).validated)) (same_locked (worker a w).locks)

  -- the worker changes to the same in both, and the records do
  moves : (x y : Worker) (c d : Machine) → w < length a.workers → c.workers ≡ slice_set a.workers w x → d.workers ≡ slice_set b.workers w y → y ≡ x
      → d.records ≡ c.records → LooksSame w c d
  moves x y c d present is_c is_d is records = record {
    records = records;
    own = ap (λ (l : List Worker). slice_index_or l w idle_worker) is_d
        ∙ get_or-set_same b.workers w y idle_worker (subst (λ n. w < n) (sym same.workers) present)
        ∙ is
        ∙ sym (get_or-set_same a.workers w x idle_worker present)
        ∙ sym (ap (λ (l : List Worker). slice_index_or l w idle_worker) is_c);
    workers = ap (λ (l : List Worker). length l) is_d ∙ length-set b.workers w y ∙ same.workers ∙ sym (length-set a.workers w x)
        ∙ sym (ap (λ (l : List Worker). length l) is_c);
  }

-- an event of the worker's own may happen in the second machine too, and leaves the two the same to it
abbrev Steps : ℕ → Machine → Machine → Event → Type 0
Steps w a b e = IsEnabled b e × LooksSame w (after_event a e) (after_event b e)

follow : (k w : ℕ) (a b : Machine) (e : Event) → Some k ≡ Some w → LooksSame w a b → (LooksSame k a b → Steps k a b e) → Steps w a b e
follow k w a b e is same go = subst (λ q. Steps q a b e) (same_number k w is) (go (subst (λ q. LooksSame q a b) (sym (same_number k w is)) same))

step : (e : Event) (w : ℕ) (a b : Machine) → actor e ≡ Some w → LooksSame w a b → IsEnabled a e → ReadsEpoch a.epoch b e → Steps w a b e
step (Begin k) w a b is same h r = follow k w a b (Begin k) is same (λ s. (
  ready_too k a b s (Begin k) h,
  moves k a b s _ _ (after_event a (Begin k)) (after_event b (Begin k)) h.0 refl refl (ap (λ (x : Worker). record x { phase = Begun; reads = [] }) s.own)
      s.records,
))
step (Read k r) w a b is same h e = follow k w a b (Read k r) is same (λ s. (
  ready_too k a b s (Read k r) h,
  moves k a b s _ _ (after_event a (Read k r)) (after_event b (Read k r)) h.0 refl refl
      (λ i. record (s.own i) { reads = (s.own i).reads ++ (r, version_of (at (s.records i) r)) ∷ [] }) s.records,
))
step (Lock k r value) w a b is same h e = follow k w a b (Lock k r value) is same (λ s. (
  ready_too k a b s (Lock k r value) h,
  moves k a b s _ _ (after_event a (Lock k r value)) (after_event b (Lock k r value)) h.0 refl refl
      (ap (λ (x : Worker). record x { locks = x.locks ++ (r, value) ∷ [] }) s.own)
      (ap (λ (l : List Cell). slice_set l r (locked_cell (at l r))) s.records),
))
step (ReadEpoch k) w a b is same h e = follow k w a b (ReadEpoch k) is same (λ s. (
  ready_too k a b s (ReadEpoch k) h,
  moves k a b s _ _ (after_event a (ReadEpoch k)) (after_event b (ReadEpoch k)) h.0 refl refl
      (λ i. record (s.own i) { phase = Entered; epoch = e i; validated = [] }) s.records,
))
step (Validate k r) w a b is same h e = follow k w a b (Validate k r) is same (λ s. (
  ready_too k a b s (Validate k r) h,
  moves k a b s _ _ (after_event a (Validate k r)) (after_event b (Validate k r)) h.0 refl refl
      (λ i. validated_by (s.own i) r (at (s.records i) r) (note_at (s.own i).reads r)) s.records,
))
step (ChooseTid k) w a b is same h e = follow k w a b (ChooseTid k) is same (λ s. (
  ready_too k a b s (ChooseTid k) h,
  moves k a b s _ _ (after_event a (ChooseTid k)) (after_event b (ChooseTid k)) h.0 refl refl
      (λ i. after_choice (s.own i) (next (tid_of (same_seen k a b s i)) (tid_of (s.own i).last) (s.own i).epoch)) s.records,
))
step (Install k r) w a b is same h e = follow k w a b (Install k r) is same (λ s. (
  ready_too k a b s (Install k r) h,
  moves k a b s _ _ (after_event a (Install k r)) (after_event b (Install k r)) h.0 refl refl
      (ap (λ (x : Worker). record x { locks = without x.locks r }) s.own)
      (λ i. slice_set (s.records i) r (written_cell (at (s.records i) r) (s.own i).last (note_at (s.own i).locks r))),
))
step (Unlock k r) w a b is same h e = follow k w a b (Unlock k r) is same (λ s. (
  ready_too k a b s (Unlock k r) h,
  moves k a b s _ _ (after_event a (Unlock k r)) (after_event b (Unlock k r)) h.0 refl refl
      (ap (λ (x : Worker). record x { locks = without x.locks r }) s.own)
      (ap (λ (l : List Cell). slice_set l r (unlocked_cell (at l r))) s.records),
))
step AdvanceEpoch w a b is same h e = absurd (no_number w is)

-- the worker's own events leave the epoch
same_epoch : (e : Event) (w : ℕ) (a : Machine) → actor e ≡ Some w → (after_event a e).epoch ≡ a.epoch
same_epoch (Begin k) w a is = refl
same_epoch (Read k r) w a is = refl
same_epoch (Lock k r value) w a is = refl
same_epoch (ReadEpoch k) w a is = refl
same_epoch (Validate k r) w a is = refl
same_epoch (ChooseTid k) w a is = refl
same_epoch (Install k r) w a is = refl
same_epoch (Unlock k r) w a is = refl
same_epoch AdvanceEpoch w a is = absurd (no_number w is)

-- what another does leaves the two machines the same to the worker
untouched : (w k : ℕ) (a b c : Machine) (x : Worker) → LooksSame w a b → k ≢ w → c.workers ≡ slice_set b.workers k x → c.records ≡ b.records → LooksSame w a c
untouched w k a b c x same other is records = record {
  records = records ∙ same.records;
  own = ap (λ (l : List Worker). slice_index_or l w idle_worker) is ∙ get_or-set_other b.workers k w x idle_worker (λ q. other (sym q)) ∙ same.own;
  workers = ap (λ (l : List Worker). length l) is ∙ length-set b.workers k x ∙ same.workers;
}

pass : (e : Event) (w : ℕ) (a b : Machine) → IsOfOthers w e → LooksSame w a b → LooksSame w a (after_event b e)
pass (Begin k) w a b other same = untouched w k a b (after_event b (Begin k)) _ same other refl refl
pass (Read k r) w a b other same = untouched w k a b (after_event b (Read k r)) _ same other refl refl
pass (Lock k r value) w a b other same = absurd other
pass (ReadEpoch k) w a b other same = absurd other
pass (Validate k r) w a b other same = absurd other
pass (ChooseTid k) w a b other same = absurd other
pass (Install k r) w a b other same = absurd other
pass (Unlock k r) w a b other same = absurd other
pass AdvanceEpoch w a b other same = record { records = same.records; own = same.own; workers = same.workers }

reads_same : (e : Event) (epoch now : ℕ) (b : Machine) → now ≡ epoch → ReadsEpoch epoch b e → ReadsEpoch now b e
reads_same e epoch now b is h = subst (λ q. ReadsEpoch q b e) (sym is) h

go : {w epoch : ℕ} {b : Machine} {own events : List Event} → IsWoven w epoch b own events → (a : Machine) → AreOwn w own → a.epoch ≡ epoch → AreEnabled a own
    → LooksSame w a b
    → AreEnabled b events × LooksSame w (after_all a own) (after_all b events)
go over a are_own is enabled same = (tt, same)
go {w} {epoch} {b} (mine {event = e} {own = own} reads rest) a are_own is enabled same =
    let own_first : actor e ≡ Some w = All-head (λ event. actor event ≡ Some w) e own are_own in
    let first : Steps w a b e = step e w a b own_first same enabled.0 (reads_same e epoch a.epoch b is reads) in
    let later : AreEnabled (after_event b e) _ × LooksSame w (after_all (after_event a e) own) _ =
    go rest (after_event a e) (All-tail (λ event. actor event ≡ Some w) e own are_own) (same_epoch e w a own_first ∙ is) enabled.1 first.1 in
    ((first.0, later.0), later.1)
go {w} {epoch} {b} {own} (between {event = e} other may rest) a are_own is enabled same =
    let later : AreEnabled (after_event b e) _ × LooksSame w (after_all a own) _ = go rest a are_own is enabled (pass e w a b other same) in
    ((may, later.0), later.1)

pub woven : (m : Machine) (w : ℕ) (own : List Event) → AreOwn w own → AreEnabled m own → MayBeWoven m w own
woven m w own are_own enabled b events same weaving = go weaving m are_own refl enabled same
