-- Each event keeps the machine sound.
use Rattle.std.proofs.Common.{◌≡◌, ℕ, ◌+◌, ◌<◌, ◌≤◌, max, Bool, true, false, true≢false, cond, not, ◌&&◌, ◌||◌, ◌==◌, Option, Some, None, IsSome, is_some, List}
use Rattle.std.proofs.Common.{[], ◌∷◌, ◌++◌, length, refl, sym, ap, ◌∙◌, subst, ⊎_elim, arith, eqb-true, le_refl}
use Rattle.std.proofs.lemmas.Bool.{cases_lt}
use Rattle.std.proofs.lemmas.List.{get_or-set_same, get_or-set_other, get_or_past}
use Rattle.tidword.specs.TidWord.{tid_of, is_locked, is_latest}
use Rattle.tidword.specs.Lawful.{IsLawful, next}
use Rattle.tidword.proofs.Taken.{next-lawful}
use Rattle.commit.specs.Machine.{Machine, Worker, IsIdle, idle_worker, no_cell, note_at, without, cell, worker, version_of}
use Rattle.commit.specs.Events.{IsEnabled, with_worker, with_cell, still_holds, checked, validated_by, greatest_read, greatest_locked, seen_by, after_choice}
use Rattle.commit.specs.Events.{locked_cell, unlocked_cell, written_cell, after_event}
use Rattle.commit.specs.Turns.{Place, decided, settle, turns_after}
use Rattle.commit.specs.Turns.Place.{Waiting}
use Rattle.commit.specs.Serial.{now, pending, to_install}
use Rattle.commit.specs.declared.worker.Phase.TheVariants.{Begun, Entered, Chosen, Failed}
use Rattle.commit.specs.declared.worker.Cell.{Cell}
use Rattle.commit.specs.declared.worker.Version.{Version}
use Rattle.commit.specs.declared.event.Event.{Event}
use Rattle.commit.specs.declared.event.Event.TheVariants.{Begin, Read, Lock, ReadEpoch, Validate, ChooseTid, Install, Unlock, AdvanceEpoch}
use Rattle.commit.proofs.Held.{same_value, by_test, never_both, none_of, held_more, held_left}
use Rattle.commit.proofs.Words.{above_first, above_second, lock_keeps_tid, unlock_keeps_tid}
use Rattle.commit.proofs.Invariant.{IsFresh, unchecked, to_check, AreOrdered, AreStored, IsSound, Changes}
use Rattle.commit.proofs.Turns.{falling_more, same_transactions}
use Rattle.commit.proofs.Stores.{pending_held, pending_none, nothing_entered, unchecked_held, versions_kept, locks_kept, locks_taken, quiet, choice, install}
use Rattle.commit.proofs.Stores.{fresh_installed, left}
use Rattle.commit.proofs.Order.{begun, chose, failed, idle, order_aside, order_given_up, order_entered, order_checked, order_decided}

-- the machine is sound, with these turns
abbrev pub Holds : (ℕ → Version) → Machine → List Place → Type 0
Holds first m turns = IsSound first (worker m) (cell m) m.epoch turns

pub change_worker : (m : Machine) (w : ℕ) (x : Worker) → w < length m.workers → Changes (worker m) (worker (with_worker m w x)) w x
change_worker m w x h = record {
  here = get_or-set_same m.workers w x idle_worker h;
  there = λ k apart. get_or-set_other m.workers w k x idle_worker apart;
}

pub change_cell : (m : Machine) (r : ℕ) (c : Cell) → r < length m.records → Changes (cell m) (cell (with_cell m r c)) r c
change_cell m r c h = record {
  here = get_or-set_same m.records r c no_cell h;
  there = λ k apart. get_or-set_other m.records r k c no_cell apart;
}

-- a record that is locked is there
pub in_range : (m : Machine) (r : ℕ) → is_locked (cell m r).word ≡ true → r < length m.records
in_range m r h = ⊎_elim
    (λ (q : r < length m.records). q)
    (λ (q : length m.records ≤ r). absurd (true≢false (sym h ∙ ap (λ (c : Cell). is_locked c.word) (get_or_past m.records r no_cell q))))
    (cases_lt r (length m.records))

is_there : {X : Type 0} (o : Option X) → IsSome o → (v : X) × (o ≡ Some v)
is_there None h = absurd (true≢false (sym h))
is_there (Some v) h = (v, refl)

both : (a b : Bool) → (a && b) ≡ true → (a ≡ true) × (b ≡ true)
both true b h = (refl, h)
both false b h = absurd (true≢false (sym h))

-- a record that is unlocked, or that a worker has locked itself, is its own where it is locked
owned : (a b : Bool) → (not a || b) ≡ true → a ≡ true → b ≡ true
owned true b h e = h
owned false b h e = absurd (true≢false (sym e))

-- a TID that was read is among those seen, and so is a locked record's
seen_read : (notes : List (ℕ × Version)) (r : ℕ) (v : Version) → note_at notes r ≡ Some v → v.tid ≤ greatest_read notes
seen_read [] r v h = absurd (never_both refl h)
seen_read (note ∷ notes) r v h = by_test (λ b. cond b (Some note.1) (note_at notes r) ≡ Some v → v.tid ≤ max note.1.tid (greatest_read notes)) note.0 r
    (λ e q. let same : note.1.tid ≡ v.tid = ap (λ (u : Version). u.tid) (same_value q) in omega arith)
    (λ e q. let less : v.tid ≤ greatest_read notes = seen_read notes r v q in omega arith)
    h

seen_locked : (m : Machine) (locks : List (ℕ × Option (List ℕ))) (r : ℕ) (value : Option (List ℕ)) → note_at locks r ≡ Some value
    → tid_of (cell m r).word ≤ greatest_locked m locks
seen_locked m [] r value h = absurd (never_both refl h)
seen_locked m (lock ∷ locks) r value h =
    by_test (λ b. cond b (Some lock.1) (note_at locks r) ≡ Some value → tid_of (cell m r).word ≤ max (tid_of (cell m lock.0).word) (greatest_locked m locks))
    lock.0 r
    (λ e _. let same : tid_of (cell m lock.0).word ≡ tid_of (cell m r).word = ap (λ j. tid_of (cell m j).word) e in omega arith)
    (λ e q. let less : tid_of (cell m r).word ≤ greatest_locked m locks = seen_locked m locks r value q in omega arith)
    h

-- worker w does something
module _ (first : ℕ → Version) (m : Machine) (turns : List Place) (h : Holds first m turns) (w : ℕ) (there : w < length m.workers) where
  -- it begins
  pub begin : IsIdle (worker m w) → Holds first (after_event m (Begin w)) turns
  begin is_idle = record {
    locks = locks_kept (worker m) ws' (cell m) (cell m) w x change h.locks (λ r value e. e) (λ k r value e q. q) (λ r v e. absurd (never_both refl e))
        (λ r v q. q);
    order = order_aside first (worker m) ws' w x change (le_refl (tid_of (worker m w).last)) m.epoch turns h.order (idle (worker m w) is_idle)
        (begun Begun refl);
    stores = quiet first (worker m) ws' (cell m) (cell m) w x change (decided turns) h.stores
        (λ r. pending_none (worker m w).phase (note_at (worker m w).locks r) (ap (λ l. note_at l r) is_idle.0)) (λ r. refl) (λ r. refl);
  }
    where
      x : Worker
      x = record (worker m w) { phase = Begun; reads = [] }

      ws' : ℕ → Worker
      ws' = worker (with_worker m w x)

      change : Changes (worker m) ws' w x
      change = change_worker m w x there

  -- it reads a record
  pub read : (r : ℕ) → (worker m w).phase ≡ Begun → Holds first (after_event m (Read w r)) turns
  read r phase = record {
    locks = locks_kept (worker m) ws' (cell m) (cell m) w x change h.locks (λ k value e. e) (λ k j value e q. q) fresh (λ k v q. q);
    order = order_aside first (worker m) ws' w x change (le_refl (tid_of (worker m w).last)) m.epoch turns h.order (begun (worker m w).phase phase)
        (begun (worker m w).phase phase);
    stores = quiet first (worker m) ws' (cell m) (cell m) w x change (decided turns) h.stores none none (λ k. refl);
  }
    where
      x : Worker
      x = record (worker m w) { reads = (worker m w).reads ++ (r, version_of (cell m r)) ∷ [] }

      ws' : ℕ → Worker
      ws' = worker (with_worker m w x)

      change : Changes (worker m) ws' w x
      change = change_worker m w x there

      none : (k : ℕ) → to_install (worker m w) k ≡ None
      none k = ap (λ p. pending p (note_at (worker m w).locks k)) phase

      itself : IsFresh (version_of (cell m r)) (version_of (cell m r))
      itself = (le_refl (version_of (cell m r)).tid, λ _. refl)

      fresh : (k : ℕ) (v : Version) → to_check x k ≡ Some v → IsFresh v (version_of (cell m k))
      fresh k v e = ⊎_elim
          (λ (q : note_at (worker m w).reads k ≡ Some v). h.locks.fresh w k v (ap (λ p. unchecked p (note_at (worker m w).reads k)) phase ∙ q))
          (λ (q : (r ≡ k) × (version_of (cell m r) ≡ v)). subst (λ j. IsFresh v (version_of (cell m j))) q.0
          (subst (λ u. IsFresh u (version_of (cell m r))) q.1 itself))
          (held_more (worker m w).reads r (version_of (cell m r)) k v (unchecked_held (worker m w).phase (note_at x.reads k) v e))

  -- it locks one
  pub lock : (r : ℕ) (value : Option (List ℕ)) → r < length m.records → (worker m w).phase ≡ Begun → is_locked (cell m r).word ≡ false
      → Holds first (after_event m (Lock w r value)) turns
  lock r value within phase unlocked = record {
    locks = locks_taken (worker m) ws' (cell m) cs' w r value change changed h.locks unlocked;
    order = order_aside first (worker m) ws' w x change (le_refl (tid_of (worker m w).last)) m.epoch turns h.order (begun (worker m w).phase phase)
        (begun (worker m w).phase phase);
    stores = quiet first (worker m) ws' (cell m) cs' w x change (decided turns) h.stores
        (λ k. ap (λ p. pending p (note_at (worker m w).locks k)) phase)
        (λ k. ap (λ p. pending p (note_at x.locks k)) phase)
        (versions_kept changed (ap (λ t. record { tid = t; value = (cell m r).value }) (lock_keeps_tid (cell m r).word unlocked)));
  }
    where
      x : Worker
      x = record (worker m w) { locks = (worker m w).locks ++ (r, value) ∷ [] }

      ws' : ℕ → Worker
      ws' = worker (with_worker m w x)

      change : Changes (worker m) ws' w x
      change = change_worker m w x there

      cs' : ℕ → Cell
      cs' = cell (with_cell m r (locked_cell (cell m r)))

      changed : Changes (cell m) cs' r (locked_cell (cell m r))
      changed = change_cell m r (locked_cell (cell m r)) within

  -- it reads the epoch
  pub read_epoch : (worker m w).phase ≡ Begun → Holds first (after_event m (ReadEpoch w)) (Waiting w m.epoch ∷ turns)
  read_epoch phase = record {
    locks = locks_kept (worker m) ws' (cell m) (cell m) w x change h.locks (λ r value e. e) (λ k r value e q. q)
        (λ r v e. h.locks.fresh w r v (ap (λ p. unchecked p (note_at (worker m w).reads r)) phase ∙ e)) (λ r v q. q);
    order = order_entered first (worker m) ws' w x change (le_refl (tid_of (worker m w).last)) m.epoch turns h.order (begun (worker m w).phase phase) refl refl
        refl;
    stores = quiet first (worker m) ws' (cell m) (cell m) w x change (decided turns) h.stores (λ r. ap (λ p. pending p (note_at (worker m w).locks r)) phase)
        (λ r. refl) (λ r. refl);
  }
    where
      x : Worker
      x = record (worker m w) { phase = Entered; epoch = m.epoch; validated = [] }

      ws' : ℕ → Worker
      ws' = worker (with_worker m w x)

      change : Changes (worker m) ws' w x
      change = change_worker m w x there

  -- worker w as it stands now, and the turns that follow from that
  abbrev SettlesAs : Worker → Type 0
  SettlesAs x = IsSound first (worker (with_worker m w x)) (cell m) m.epoch (settle x.phase w x turns)

  as_after : (x : Worker) → SettlesAs x
      → IsSound first (worker (with_worker m w x)) (cell m) m.epoch (settle (worker (with_worker m w x) w).phase w (worker (with_worker m w x) w) turns)
  as_after x = subst (λ (y : Worker). IsSound first (worker (with_worker m w x)) (cell m) m.epoch (settle y.phase w y turns))
      (sym (change_worker m w x there).here)

  -- a worker that has read its epoch fails
  fails : (worker m w).phase ≡ Entered → SettlesAs (record (worker m w) { phase = Failed })
  fails phase = record {
    locks = locks_kept (worker m) ws' (cell m) (cell m) w x change h.locks (λ r value e. e) (λ k r value e q. q) (λ r v e. absurd (never_both refl e))
        (λ r v q. q);
    order = order_given_up first (worker m) ws' w x change (le_refl (tid_of (worker m w).last)) m.epoch turns h.order (failed Failed refl);
    stores = subst (AreStored first ws' (cell m)) (sym (same_transactions w turns))
        (quiet first (worker m) ws' (cell m) (cell m) w x change (decided turns) h.stores (λ r. nothing_entered (worker m w) r phase) (λ r. refl) (λ r. refl));
  }
    where
      x : Worker
      x = record (worker m w) { phase = Failed }

      ws' : ℕ → Worker
      ws' = worker (with_worker m w x)

      change : Changes (worker m) ws' w x
      change = change_worker m w x there

  module _ (phase : (worker m w).phase ≡ Entered) where
    -- what it has read it may still validate
    may_check : (r : ℕ) (v : Version) → note_at (worker m w).reads r ≡ Some v → to_check (worker m w) r ≡ Some v
    may_check r v e = ap (λ p. unchecked p (note_at (worker m w).reads r)) phase ∙ e

    -- a record that nobody but w has locked has its last version
    settled_here : (r : ℕ) → ((k : ℕ) (value : Option (List ℕ)) → note_at (worker m k).locks r ≡ Some value → k ≡ w)
        → now first (decided turns) r ≡ version_of (cell m r)
    settled_here r mine = h.stores.settled r (λ k. none_of (to_install (worker m k) r) (λ value e.
        let same : k ≡ w = mine k value (pending_held (worker m k).phase (note_at (worker m k).locks r) value e) in
        never_both (subst (λ j. to_install (worker m j) r ≡ None) (sym same) (nothing_entered (worker m w) r phase)) e))

    -- a read stands
    passes : (r : ℕ) (v : Version) → note_at (worker m w).reads r ≡ Some v → still_holds (cell m r) (worker m w) r v ≡ true
        → SettlesAs (checked (worker m w) r v true)
    passes r v was_read holds = record {
      locks = locks_kept (worker m) ws' (cell m) (cell m) w x change h.locks (λ k value e. e) (λ k j value e q. q)
          (λ k u e. h.locks.fresh w k u (may_check k u (held_left (worker m w).reads r k u (unchecked_held (worker m w).phase (note_at x.reads k) u e)).1))
          (λ k u q. q);
      order = subst (AreOrdered first ws' m.epoch) (sym stays)
          (order_checked first (worker m) ws' w r v change m.epoch turns h.order was_read
          (λ k apart. none_of (note_at (worker m k).locks r) (λ value e. apart (mine k value e))) (settled_here r mine ∙ sym same));
      stores = subst (λ (l : List Place). AreStored first ws' (cell m) (decided l)) (sym stays)
          (quiet first (worker m) ws' (cell m) (cell m) w x change (decided turns) h.stores (λ k. nothing_entered (worker m w) k phase)
          (λ k. nothing_entered x k phase) (λ k. refl));
    }
      where
        x : Worker
        x = checked (worker m w) r v true

        ws' : ℕ → Worker
        ws' = worker (with_worker m w x)

        change : Changes (worker m) ws' w x
        change = change_worker m w x there

        stays : settle (worker m w).phase w x turns ≡ turns
        stays = ap (λ p. settle p w x turns) phase

        parts : ((tid_of (cell m r).word == v.tid) ≡ true)
            × ((is_latest (cell m r).word && (not (is_locked (cell m r).word) || is_some (note_at (worker m w).locks r))) ≡ true)
        parts = both (tid_of (cell m r).word == v.tid)
            (is_latest (cell m r).word && (not (is_locked (cell m r).word) || is_some (note_at (worker m w).locks r))) holds

        same : v ≡ version_of (cell m r)
        same = (h.locks.fresh w r v (may_check r v was_read)).1 (sym (eqb-true (tid_of (cell m r).word) v.tid parts.0))

        mine : (k : ℕ) (value : Option (List ℕ)) → note_at (worker m k).locks r ≡ Some value → k ≡ w
        mine k value e =
            let own = is_there (note_at (worker m w).locks r) (owned (is_locked (cell m r).word) (is_some (note_at (worker m w).locks r))
            (both (is_latest (cell m r).word) (not (is_locked (cell m r).word) || is_some (note_at (worker m w).locks r)) parts.1).1
            (h.locks.locked k r value e)) in
            h.locks.single k w r value own.0 e own.1

    pub validate : (r : ℕ) → IsSome (note_at (worker m w).reads r) → Holds first (after_event m (Validate w r)) (turns_after m (Validate w r) turns)
    validate r was_read = as_after (validated_by (worker m w) r (cell m r) (note_at (worker m w).reads r)) (by_read (note_at (worker m w).reads r) refl)
      where
        by_answer : (v : Version) → note_at (worker m w).reads r ≡ Some v → (b : Bool) → still_holds (cell m r) (worker m w) r v ≡ b
            → SettlesAs (checked (worker m w) r v b)
        by_answer v e true holds = passes r v e holds
        by_answer v e false _ = fails phase

        by_read : (o : Option Version) → note_at (worker m w).reads r ≡ o → SettlesAs (validated_by (worker m w) r (cell m r) o)
        by_read None e = absurd (true≢false (sym was_read ∙ ap is_some e))
        by_read (Some v) e = by_answer v e (still_holds (cell m r) (worker m w) r v) refl

    -- it takes a TID
    takes : (tid : ℕ) → next (tid_of (seen_by m (worker m w))) (tid_of (worker m w).last) (worker m w).epoch ≡ Some tid
        → SettlesAs (after_choice (worker m w) (Some tid))
    takes tid e = record {
      locks = locks_kept (worker m) ws' (cell m) (cell m) w x change h.locks (λ r value e. e) (λ k r value e q. q) (λ r v e. absurd (never_both refl e))
          (λ r v q. q);
      order = order_decided first (worker m) ws' w tid change m.epoch turns h.order (λ k r value other e f. h.locks.single w k r value other e f)
          above_fresh above_read is_taken.in_epoch is_taken.bits is_taken.above_last
          (λ r value lock. subst (λ (v : Version). v.tid < tid) (sym (settled_here r (λ k u f. sym (h.locks.single w k r value u lock f))))
          (above r value lock));
      stores = choice first (worker m) ws' (cell m) w tid change turns h.stores h.locks h.order.good (h.order.places w phase) phase is_taken.bits above;
    }
      where
        x : Worker
        x = after_choice (worker m w) (Some tid)

        ws' : ℕ → Worker
        ws' = worker (with_worker m w x)

        change : Changes (worker m) ws' w x
        change = change_worker m w x there

        is_taken : IsLawful (seen_by m (worker m w)) (worker m w).last (worker m w).epoch tid
        is_taken = next-lawful (seen_by m (worker m w)) (worker m w).last (worker m w).epoch tid e

        above : (r : ℕ) (value : Option (List ℕ)) → note_at (worker m w).locks r ≡ Some value → (version_of (cell m r)).tid < tid
        above r value lock =
            let seen : tid_of (cell m r).word ≤ greatest_locked m (worker m w).locks = seen_locked m (worker m w).locks r value lock in
            above_second (tid_of (cell m r).word) (greatest_read (worker m w).validated) (greatest_locked m (worker m w).locks) tid seen is_taken.above_seen
            is_taken.bits

        above_fresh : (k r : ℕ) (value : Option (List ℕ)) (v : Version) → (worker m k).phase ≡ Entered → note_at (worker m w).locks r ≡ Some value
            → note_at (worker m k).reads r ≡ Some v → v.tid < tid
        above_fresh k r value v entered lock was_read =
            let old : v.tid ≤ (version_of (cell m r)).tid = (h.locks.fresh k r v (ap (λ p. unchecked p (note_at (worker m k).reads r)) entered ∙ was_read)).0 in
            let less : (version_of (cell m r)).tid < tid = above r value lock in
            omega arith

        above_read : (r : ℕ) (v : Version) → note_at (worker m w).validated r ≡ Some v → v.tid < tid
        above_read r v note = above_first v.tid (greatest_read (worker m w).validated) (greatest_locked m (worker m w).locks) tid
            (seen_read (worker m w).validated r v note) is_taken.above_seen is_taken.bits

    pub choose_tid : Holds first (after_event m (ChooseTid w)) (turns_after m (ChooseTid w) turns)
    choose_tid = as_after (after_choice (worker m w) tid) (by_answer tid refl)
      where
        tid : Option ℕ
        tid = next (tid_of (seen_by m (worker m w))) (tid_of (worker m w).last) (worker m w).epoch

        by_answer : (o : Option ℕ) → tid ≡ o → SettlesAs (after_choice (worker m w) o)
        by_answer None e = fails phase
        by_answer (Some n) e = takes n e

  -- it installs a record
  pub install_as : (r : ℕ) (value : Option (List ℕ)) → (worker m w).phase ≡ Chosen → note_at (worker m w).locks r ≡ Some value
      → Holds first (after_event m (Install w r)) turns
  install_as r value phase mine = record {
    locks = locks_kept (worker m) ws' (cell m) cs' w x change h.locks (λ k u e. (held_left (worker m w).locks r k u e).1)
        (λ k j u e q. ap (λ (c : Cell). is_locked c.word) (changed.there j (left (worker m) ws' (cell m) w r value change h.locks mine k j u e)) ∙ q)
        (h.locks.fresh w)
        (fresh_installed first (worker m) ws' (cell m) cs' w r value change changed (decided turns) h.stores h.locks phase mine);
    order = order_aside first (worker m) ws' w x change (le_refl (tid_of (worker m w).last)) m.epoch turns h.order (chose (worker m w).phase phase)
        (chose (worker m w).phase phase);
    stores = install first (worker m) ws' (cell m) cs' w r value change changed (decided turns) h.stores h.locks phase mine;
  }
    where
      x : Worker
      x = record (worker m w) { locks = without (worker m w).locks r }

      ws' : ℕ → Worker
      ws' = worker (with_worker m w x)

      change : Changes (worker m) ws' w x
      change = change_worker m w x there

      cs' : ℕ → Cell
      cs' = cell (with_cell m r (written_cell (cell m r) (worker m w).last (note_at (worker m w).locks r)))

      changed : Changes (cell m) cs' r (written_cell (cell m r) (worker m w).last (Some value))
      changed = subst (λ (o : Option (Option (List ℕ))). Changes (cell m) cs' r (written_cell (cell m r) (worker m w).last o)) mine
          (change_cell m r (written_cell (cell m r) (worker m w).last (note_at (worker m w).locks r)) (in_range m r (h.locks.locked w r value mine)))

  -- it unlocks one
  pub unlock_as : (r : ℕ) (value : Option (List ℕ)) → (worker m w).phase ≡ Failed → note_at (worker m w).locks r ≡ Some value
      → Holds first (after_event m (Unlock w r)) turns
  unlock_as r value phase mine = record {
    locks = locks_kept (worker m) ws' (cell m) cs' w x change h.locks (λ k u e. (held_left (worker m w).locks r k u e).1)
        (λ k j u e q. ap (λ (c : Cell). is_locked c.word) (changed.there j (left (worker m) ws' (cell m) w r value change h.locks mine k j u e)) ∙ q)
        (h.locks.fresh w)
        (λ k v. subst (IsFresh v) (sym (same k)));
    order = order_aside first (worker m) ws' w x change (le_refl (tid_of (worker m w).last)) m.epoch turns h.order (failed (worker m w).phase phase)
        (failed (worker m w).phase phase);
    stores = quiet first (worker m) ws' (cell m) cs' w x change (decided turns) h.stores
        (λ k. ap (λ p. pending p (note_at (worker m w).locks k)) phase)
        (λ k. ap (λ p. pending p (note_at x.locks k)) phase)
        same;
  }
    where
      x : Worker
      x = record (worker m w) { locks = without (worker m w).locks r }

      ws' : ℕ → Worker
      ws' = worker (with_worker m w x)

      change : Changes (worker m) ws' w x
      change = change_worker m w x there

      is_locked_now : is_locked (cell m r).word ≡ true
      is_locked_now = h.locks.locked w r value mine

      cs' : ℕ → Cell
      cs' = cell (with_cell m r (unlocked_cell (cell m r)))

      changed : Changes (cell m) cs' r (unlocked_cell (cell m r))
      changed = change_cell m r (unlocked_cell (cell m r)) (in_range m r is_locked_now)

      same : (k : ℕ) → version_of (cs' k) ≡ version_of (cell m k)
      same = versions_kept changed (ap (λ t. record { tid = t; value = (cell m r).value }) (unlock_keeps_tid (cell m r).word is_locked_now))

-- whatever happens
pub step : (first : ℕ → Version) (m : Machine) (turns : List Place) (event : Event) → IsEnabled m event → Holds first m turns
    → Holds first (after_event m event) (turns_after m event turns)
step first m turns (Begin w) e h = begin first m turns h w e.0 e.1
step first m turns (Read w r) e h = read first m turns h w e.0 r e.2
step first m turns (Lock w r value) e h = lock first m turns h w e.0 r value e.1 e.2 e.4
step first m turns (ReadEpoch w) e h = read_epoch first m turns h w e.0 e.1
step first m turns (Validate w r) e h = validate first m turns h w e.0 e.1 r e.2
step first m turns (ChooseTid w) e h = choose_tid first m turns h w e.0 e.1
step first m turns (Install w r) e h = let mine = is_there (note_at (worker m w).locks r) e.2 in install_as first m turns h w e.0 r mine.0 e.1 mine.1
step first m turns (Unlock w r) e h = let mine = is_there (note_at (worker m w).locks r) e.2 in unlock_as first m turns h w e.0 r mine.0 e.1 mine.1
step first m turns AdvanceEpoch e h = record {
  locks = h.locks;
  order = record { places = h.order.places; good = h.order.good; epochs = falling_more turns m.epoch (m.epoch + 1) (omega arith) h.order.epochs };
  stores = h.stores;
}
