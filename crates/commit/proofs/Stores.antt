-- What a worker's step does to the locks, and to what is to be installed.
use Rattle.std.proofs.Common.{◌≡◌, ◌≢◌, ℕ, ◌%◌, ◌<◌, ◌≤◌, ◌⊎◌, true, false, true≢false, Option, Some, None, List, [], ◌∷◌, ◌++◌, refl, sym, ap, ◌∙◌, subst, inl}
use Rattle.std.proofs.Common.{inr, ⊎_elim, arith}
use Rattle.std.proofs.lemmas.Bool.{cases_eq}
use Rattle.tidword.specs.TidWord.{is_locked}
use Rattle.tidword.proofs.Words.{installed-tid}
use Rattle.commit.specs.Machine.{Worker, IsIdle, note_at, without, version_of}
use Rattle.commit.specs.Events.{after_choice, locked_cell, written_cell}
use Rattle.commit.specs.Turns.{IsWaiting, Transaction, Place, transaction_of, decided, decide}
use Rattle.commit.specs.Serial.{now, pending, to_install}
use Rattle.commit.specs.declared.worker.Phase.{Phase}
use Rattle.commit.specs.declared.worker.Phase.TheVariants.{Idle, Begun, Entered, Chosen, Failed}
use Rattle.commit.specs.declared.worker.Cell.{Cell}
use Rattle.commit.specs.declared.worker.Version.{Version}
use Rattle.commit.proofs.Held.{never_both, none_of, held_more, held_without, held_elsewhere, held_left}
use Rattle.commit.proofs.Words.{locked_word, lock_keeps_tid}
use Rattle.commit.proofs.Invariant.{AreGood, IsFresh, unchecked, to_check, HaveLocks, AreStored, Changes}
use Rattle.commit.proofs.Turns.{spread, now_same, now_written}

-- what is pending is note_at
pub pending_held : (p : Phase) (o : Option (Option (List ℕ))) (value : Option (List ℕ)) → pending p o ≡ Some value → o ≡ Some value
pending_held Chosen o value h = h
pending_held _ o value h = absurd (never_both refl h)

pub pending_none : (p : Phase) (o : Option (Option (List ℕ))) → o ≡ None → pending p o ≡ None
pending_none p o e = none_of (pending p o) (λ value h. never_both e (pending_held p o value h))

pub nothing_entered : (x : Worker) (r : ℕ) → x.phase ≡ Entered → to_install x r ≡ None
nothing_entered x r e = ap (λ p. pending p (note_at x.locks r)) e

-- what may be validated was read
pub unchecked_held : (p : Phase) (o : Option Version) (v : Version) → unchecked p o ≡ Some v → o ≡ Some v
unchecked_held Begun o v h = h
unchecked_held Entered o v h = h
unchecked_held _ o v h = absurd (never_both refl h)

-- who is idle may validate nothing
pub nothing_idle : (x : Worker) (r : ℕ) → IsIdle x → to_check x r ≡ None
nothing_idle x r h = ⊎_elim
    (λ (e : x.phase ≡ Idle). ap over e)
    (λ (q : (x.phase ≡ Chosen) ⊎ (x.phase ≡ Failed)). ⊎_elim (λ (e : x.phase ≡ Chosen). ap over e) (λ (e : x.phase ≡ Failed). ap over e) q)
    h.1
  where
    over : Phase → Option Version
    over p = unchecked p (note_at x.reads r)

-- a record that changes to another with the same version
pub versions_kept : {cs cs' : ℕ → Cell} {n : ℕ} {c : Cell} → Changes cs cs' n c → version_of c ≡ version_of (cs n) → (r : ℕ)
    → version_of (cs' r) ≡ version_of (cs r)
versions_kept {cs} {cs'} {n} {c} change same = spread (λ r (d : Cell). version_of d ≡ version_of (cs r)) change same (λ k e. refl)

module _ (ws ws' : ℕ → Worker) (cs cs' : ℕ → Cell) (w : ℕ) (x : Worker) (change : Changes ws ws' w x) where
  -- no lock more
  pub locks_kept : HaveLocks ws cs → ((r : ℕ) (value : Option (List ℕ)) → note_at x.locks r ≡ Some value → note_at (ws w).locks r ≡ Some value)
      → ((k r : ℕ) (value : Option (List ℕ)) → note_at (ws' k).locks r ≡ Some value → is_locked (cs r).word ≡ true → is_locked (cs' r).word ≡ true)
      → ((r : ℕ) (v : Version) → to_check x r ≡ Some v → IsFresh v (version_of (cs r)))
      → ((r : ℕ) (v : Version) → IsFresh v (version_of (cs r)) → IsFresh v (version_of (cs' r)))
      → HaveLocks ws' cs'
  locks_kept h fewer still reads grown = record {
    locked = λ k r value e. still k r value e (h.locked k r value (had k r value e));
    single = λ k j r value other e f. h.single k j r value other (had k r value e) (had j r other f);
    fresh = λ k r v. spread (λ k (x : Worker). to_check x r ≡ Some v → IsFresh v (version_of (cs' r))) change (λ e. grown r v (reads r v e))
        (λ k apart e. grown r v (h.fresh k r v e)) k;
  }
    where
      had : (k r : ℕ) (value : Option (List ℕ)) → note_at (ws' k).locks r ≡ Some value → note_at (ws k).locks r ≡ Some value
      had k r value = spread (λ k (x : Worker). note_at x.locks r ≡ Some value → note_at (ws k).locks r ≡ Some value) change (fewer r value) (λ k apart e. e) k

-- worker w locks record n, which isn't locked
module _ (ws ws' : ℕ → Worker) (cs cs' : ℕ → Cell) (w n : ℕ) (locked_with : Option (List ℕ))
    (change : Changes ws ws' w (record (ws w) { locks = (ws w).locks ++ (n, locked_with) ∷ [] })) (changed : Changes cs cs' n (locked_cell (cs n))) where
  pub locks_taken : HaveLocks ws cs → is_locked (cs n).word ≡ false → HaveLocks ws' cs'
  locks_taken h unlocked = record {
    locked = λ k r value e. ⊎_elim
        (λ (q : (r ≢ n) × (note_at (ws k).locks r ≡ Some value)). ap (λ (c : Cell). is_locked c.word) (changed.there r q.0) ∙ h.locked k r value q.1)
        (λ (q : (r ≡ n) × (k ≡ w)). ap (λ j. is_locked (cs' j).word) q.0 ∙ ap (λ (c : Cell). is_locked c.word) changed.here ∙ locked_word (cs n).word unlocked)
        (had k r value e);
    single = λ k j r value other e f. ⊎_elim
        (λ (q : (r ≢ n) × (note_at (ws k).locks r ≡ Some value)). ⊎_elim
        (λ (p : (r ≢ n) × (note_at (ws j).locks r ≡ Some other)). h.single k j r value other q.1 p.1)
        (λ (p : (r ≡ n) × (j ≡ w)). absurd (q.0 p.0))
        (had j r other f))
        (λ (q : (r ≡ n) × (k ≡ w)). ⊎_elim
        (λ (p : (r ≢ n) × (note_at (ws j).locks r ≡ Some other)). absurd (p.0 q.0))
        (λ (p : (r ≡ n) × (j ≡ w)). q.1 ∙ sym p.1)
        (had j r other f))
        (had k r value e);
    fresh = λ k r v e. subst (IsFresh v) (sym (versions_kept changed same r))
        (spread (λ k (x : Worker). to_check x r ≡ Some v → IsFresh v (version_of (cs r))) change (h.fresh w r v) (λ k apart. h.fresh k r v) k e);
  }
    where
      same : version_of (locked_cell (cs n)) ≡ version_of (cs n)
      same = ap (λ t. record { tid = t; value = (cs n).value }) (lock_keeps_tid (cs n).word unlocked)

      elsewhere : (k r : ℕ) (value : Option (List ℕ)) → note_at (ws k).locks r ≡ Some value → r ≢ n
      elsewhere k r value e q = true≢false (sym (h.locked k r value e) ∙ ap (λ j. is_locked (cs j).word) q ∙ unlocked)

      had : (k r : ℕ) (value : Option (List ℕ)) → note_at (ws' k).locks r ≡ Some value → ((r ≢ n) × (note_at (ws k).locks r ≡ Some value)) ⊎ ((r ≡ n) × (k ≡ w))
      had k r value = spread (λ k (x : Worker). note_at x.locks r ≡ Some value → ((r ≢ n) × (note_at (ws k).locks r ≡ Some value)) ⊎ ((r ≡ n) × (k ≡ w))) change
          (λ e. ⊎_elim
          (λ (q : note_at (ws w).locks r ≡ Some value). inl (elsewhere w r value q, q))
          (λ (q : (n ≡ r) × (locked_with ≡ value)). inr (sym q.0, refl))
          (held_more (ws w).locks n locked_with r value e))
          (λ k apart e. inl (elsewhere k r value e, e))
          k

-- versions, and what is to be installed, stay
module _ (first : ℕ → Version) (ws ws' : ℕ → Worker) (cs cs' : ℕ → Cell) (w : ℕ) (x : Worker) (change : Changes ws ws' w x) where
  -- who has nothing to install but w has nothing to install after the step had nothing before it
  pub nothing_before : (r : ℕ) → to_install (ws w) r ≡ None → ((k : ℕ) → to_install (ws' k) r ≡ None) → (k : ℕ) → to_install (ws k) r ≡ None
  nothing_before r none all k = ⊎_elim
      (λ (e : k ≡ w). ap (λ j. to_install (ws j) r) e ∙ none)
      (λ (e : k ≢ w). sym (ap (λ (x : Worker). to_install x r) (change.there k e)) ∙ all k)
      (cases_eq k w)

  pub quiet : (transactions : List Transaction) → AreStored first ws cs transactions → ((r : ℕ) → to_install (ws w) r ≡ None)
      → ((r : ℕ) → to_install x r ≡ None)
      → ((r : ℕ) → version_of (cs' r) ≡ version_of (cs r)) → AreStored first ws' cs' transactions
  quiet transactions h before later same = record {
    to_come = λ k r value. spread
        (λ k (x : Worker). to_install x r ≡ Some value → (now first transactions r ≡ record { tid = x.last; value = value })
        × ((version_of (cs' r)).tid < x.last) × (x.last % 8 ≡ 0))
        change
        (λ e. absurd (never_both (later r) e))
        (λ k apart e.
        let old : (now first transactions r ≡ record { tid = (ws k).last; value = value }) × ((version_of (cs r)).tid < (ws k).last) × ((ws k).last % 8 ≡ 0) =
        h.to_come k r value e in
        (old.0, subst (λ (v : Version). v.tid < (ws k).last) (sym (same r)) old.1, old.2))
        k;
    settled = λ r all. h.settled r (nothing_before r (before r) all) ∙ sym (same r);
  }

-- worker w has taken a TID
module _ (first : ℕ → Version) (ws ws' : ℕ → Worker) (cs : ℕ → Cell) (w tid : ℕ) (change : Changes ws ws' w (after_choice (ws w) (Some tid))) where
  pub choice : (turns : List Place) → AreStored first ws cs (decided turns) → HaveLocks ws cs → AreGood first ws turns → IsWaiting w turns
      → (ws w).phase ≡ Entered → tid % 8 ≡ 0
      → ((r : ℕ) (value : Option (List ℕ)) → note_at (ws w).locks r ≡ Some value → (version_of (cs r)).tid < tid)
      → AreStored first ws' cs (decided (decide w (transaction_of w (after_choice (ws w) (Some tid))) turns))
  choice turns h locks good waits entered bits above = record {
    to_come = λ k r value. spread
        (λ k (x : Worker). to_install x r ≡ Some value → (now first later r ≡ record { tid = x.last; value = value }) × ((version_of (cs r)).tid < x.last)
        × (x.last % 8 ≡ 0))
        change
        (λ e. (now_written first ws ws' w tid change turns r value good waits e, above r value e, bits))
        (λ k apart e.
        let old : (now first (decided turns) r ≡ record { tid = (ws k).last; value = value }) × ((version_of (cs r)).tid < (ws k).last)
        × ((ws k).last % 8 ≡ 0) = h.to_come k r value e in
        let lock : note_at (ws k).locks r ≡ Some value = pending_held (ws k).phase (note_at (ws k).locks r) value e in
        let none : note_at (ws w).locks r ≡ None = none_of (note_at (ws w).locks r) (λ u f. apart (locks.single k w r value u lock f)) in
        (now_same first ws ws' w tid change turns r (λ _. none) ∙ old.0, old.1, old.2))
        k;
    settled = λ r all. now_same first ws ws' w tid change turns r (λ _. sym (ap (λ (x : Worker). to_install x r) change.here) ∙ all w)
        ∙ h.settled r (nothing_before first ws ws' cs cs w (after_choice (ws w) (Some tid)) change r (nothing_entered (ws w) r entered) all);
  }
    where
      later : List Transaction
      later = decided (decide w (transaction_of w (after_choice (ws w) (Some tid))) turns)

-- worker w installs record n
module _ (first : ℕ → Version) (ws ws' : ℕ → Worker) (cs cs' : ℕ → Cell) (w n : ℕ) (installed : Option (List ℕ))
    (change : Changes ws ws' w (record (ws w) { locks = without (ws w).locks n }))
    (changed : Changes cs cs' n (written_cell (cs n) (ws w).last (Some installed)))
    (transactions : List Transaction) (h : AreStored first ws cs transactions) (locks : HaveLocks ws cs) (is_chosen : (ws w).phase ≡ Chosen)
    (lock : note_at (ws w).locks n ≡ Some installed) where
  its : (now first transactions n ≡ record { tid = (ws w).last; value = installed }) × ((version_of (cs n)).tid < (ws w).last) × ((ws w).last % 8 ≡ 0)
  its = h.to_come w n installed (ap (λ p. pending p (note_at (ws w).locks n)) is_chosen ∙ lock)

  pub new_version : version_of (cs' n) ≡ record { tid = (ws w).last; value = installed }
  new_version = ap version_of changed.here ∙ ap (λ t. record { tid = t; value = installed }) (installed-tid (ws w).last installed its.2)

  -- nobody is to install it any more
  none_here : (k : ℕ) → to_install (ws' k) n ≡ None
  none_here = spread (λ k (x : Worker). to_install x n ≡ None) change
      (pending_none (ws w).phase (note_at (without (ws w).locks n) n) (held_without (ws w).locks n))
      (λ k apart. pending_none (ws k).phase (note_at (ws k).locks n) (none_of (note_at (ws k).locks n) (λ u e. apart (locks.single k w n u installed e lock))))

  as_before : (k r : ℕ) → r ≢ n → to_install (ws' k) r ≡ to_install (ws k) r
  as_before k r e = spread (λ k (x : Worker). to_install x r ≡ to_install (ws k) r) change (ap (pending (ws w).phase) (held_elsewhere (ws w).locks n r e))
      (λ k apart. refl) k

  same_last : (k : ℕ) → (ws' k).last ≡ (ws k).last
  same_last k = spread (λ k (x : Worker). x.last ≡ (ws k).last) change refl (λ k apart. refl) k

  pub install : AreStored first ws' cs' transactions
  install = record {
    to_come = λ k r value e. ⊎_elim
        (λ (q : r ≡ n). absurd (never_both (ap (to_install (ws' k)) q ∙ none_here k) e))
        (λ (q : r ≢ n).
        let old : (now first transactions r ≡ record { tid = (ws k).last; value = value }) × ((version_of (cs r)).tid < (ws k).last) × ((ws k).last % 8 ≡ 0) =
        h.to_come k r value (sym (as_before k r q) ∙ e) in
        subst (λ t. (now first transactions r ≡ record { tid = t; value = value }) × ((version_of (cs' r)).tid < t) × (t % 8 ≡ 0)) (sym (same_last k))
        (old.0, subst (λ (c : Cell). (version_of c).tid < (ws k).last) (sym (changed.there r q)) old.1, old.2))
        (cases_eq r n);
    settled = λ r all. ⊎_elim
        (λ (q : r ≡ n). subst (λ j. now first transactions j ≡ version_of (cs' j)) (sym q) (its.0 ∙ sym new_version))
        (λ (q : r ≢ n). h.settled r (λ k. sym (as_before k r q) ∙ all k) ∙ sym (ap version_of (changed.there r q)))
        (cases_eq r n);
  }

  -- and what was read of it before is of a smaller TID
  pub fresh_installed : (r : ℕ) (v : Version) → IsFresh v (version_of (cs r)) → IsFresh v (version_of (cs' r))
  fresh_installed r v f = ⊎_elim
      (λ (q : r ≡ n).
      let old : v.tid ≤ (version_of (cs n)).tid = subst (λ j. v.tid ≤ (version_of (cs j)).tid) q f.0 in
      let less : (version_of (cs n)).tid < (ws w).last = its.1 in
      let now_fresh : IsFresh v (record { tid = (ws w).last; value = installed }) = (omega arith, λ e. absurd (omega arith)) in
      subst (λ j. IsFresh v (version_of (cs' j))) (sym q) (subst (IsFresh v) (sym new_version) now_fresh))
      (λ (q : r ≢ n). subst (λ (c : Cell). IsFresh v (version_of c)) (sym (changed.there r q)) f)
      (cases_eq r n)

-- worker w's lock of record n is gone, and nobody has another
pub left : (ws ws' : ℕ → Worker) (cs : ℕ → Cell) (w n : ℕ) (mine : Option (List ℕ)) → Changes ws ws' w (record (ws w) { locks = without (ws w).locks n })
    → HaveLocks ws cs → note_at (ws w).locks n ≡ Some mine
    → (k r : ℕ) (value : Option (List ℕ)) → note_at (ws' k).locks r ≡ Some value → r ≢ n
left ws ws' cs w n mine change h lock k r value = spread (λ k (x : Worker). note_at x.locks r ≡ Some value → r ≢ n) change
    (λ e. (held_left (ws w).locks n r value e).0)
    (λ k apart e q. apart (h.single k w n value mine (subst (λ j. note_at (ws k).locks j ≡ Some value) q e) lock))
    k
