-- What a worker's step does to the turns: it gives up its turn or never had one, validates a read, or decides.
use Rattle.std.proofs.Common.{◌≡◌, ◌≢◌, ℕ, ◌/◌, ◌%◌, ◌^◌, ◌<◌, ◌≤◌, ◌⊎◌, true, cond, Option, Some, None, List, [], ◌∷◌, ◌++◌, refl, sym, ap, ◌∙◌, subst, inl}
use Rattle.std.proofs.Common.{inr, ⊎_elim, arith, le_trans, le_refl}
use Rattle.std.proofs.lemmas.Bool.{cases_eq}
use Rattle.std.proofs.lemmas.List.Elements.{All-nil, All-cons, All-head, All-tail, All-same}
use Rattle.std.specs.List.{All}
use Rattle.tidword.specs.TidWord.{tid_of}
use Rattle.commit.specs.Machine.{Worker, note_at}
use Rattle.commit.specs.Events.{checked, after_choice}
use Rattle.commit.specs.Turns.{IsWaiting, Transaction, Place, transaction_of, decided, decide, give_up}
use Rattle.commit.specs.Turns.Place.{Waiting, Decided}
use Rattle.commit.specs.Serial.{now, overwritten}
use Rattle.commit.specs.declared.worker.Phase.TheVariants.{Entered}
use Rattle.commit.specs.declared.worker.Version.{Version}
use Rattle.commit.proofs.Held.{by_test, never_both, none_of, cases_held, held_more, held_left}
use Rattle.commit.proofs.Invariant.{AreFound, Waits, Fits, AreGood, Falling, Changes}

-- a property of all, from it at the number that changed and elsewhere
pub spread : {X : Type 0} {f g : ℕ → X} {n : ℕ} {x : X} (P : ℕ → X → Type 0) → Changes f g n x → P n x → ((k : ℕ) → k ≢ n → P k (f k)) → (k : ℕ) → P k (g k)
spread {X} {f} {g} {n} {x} P change here there k = ⊎_elim
    (λ (e : k ≡ n). subst (λ q. P q (g q)) (sym e) (subst (P n) (sym change.here) here))
    (λ (e : k ≢ n). subst (P k) (sym (change.there k e)) (there k e))
    (cases_eq k n)

-- who waits has read its epoch
pub has_entered : (first : ℕ → Version) (ws : ℕ → Worker) (w : ℕ) (turns : List Place) → AreGood first ws turns → IsWaiting w turns → (ws w).phase ≡ Entered
has_entered first ws w [] h q = absurd q
has_entered first ws w (Waiting k e ∷ turns) h q = ⊎_elim
    (λ (p : k ≡ w). subst (λ j. (ws j).phase ≡ Entered) p h.0.phase)
    (λ (p : IsWaiting w turns). has_entered first ws w turns h.1 p)
    q
has_entered first ws w (Decided t ∷ turns) h q = has_entered first ws w turns h.1 q

-- how the workers and the turns go on, where worker w's locks may have become writes among the turns
pub record Goes (first : ℕ → Version) (ws ws' : ℕ → Worker) (w : ℕ) (turns turns' : List Place) : Type 0 where
  pub waiting : (k : ℕ) → IsWaiting k turns' → IsWaiting k turns
  pub locks : (k r : ℕ) → IsWaiting k turns' → note_at (ws k).locks r ≡ None → note_at (ws' k).locks r ≡ None
  pub reads : (k r : ℕ) (v : Version) → IsWaiting k turns' → note_at (ws' k).reads r ≡ Some v → note_at (ws k).reads r ≡ Some v
  pub same : (r : ℕ) → (IsWaiting w turns → note_at (ws w).locks r ≡ None) → now first (decided turns') r ≡ now first (decided turns) r
  pub lasts : (k : ℕ) → tid_of (ws k).last ≤ tid_of (ws' k).last
  pub rising : (t : Transaction) → (IsWaiting w turns → w ≢ t.worker) → All (λ u. u.worker ≡ t.worker → u.tid < t.tid) (decided turns)
      → All (λ u. u.worker ≡ t.worker → u.tid < t.tid) (decided turns')

module _ (first : ℕ → Version) (ws ws' : ℕ → Worker) (w : ℕ) (turns turns' : List Place) (goes : Goes first ws ws' w turns turns') where
  pub found_goes : (reads : List (ℕ × Version)) → AreFound first ws reads turns → AreFound first ws' reads turns'
  found_goes reads h = record {
    found = λ r v e. goes.same r (λ q. h.free r v w e q) ∙ h.found r v e;
    free = λ r v k e q. goes.locks k r q (h.free r v k e (goes.waiting k q));
  }

  pub fits_goes : (t : Transaction) → Fits first ws t turns → Fits first ws' t turns'
  fits_goes t h = record {
    reads = found_goes t.reads h.reads;
    stamp = record {
      in_epoch = h.stamp.in_epoch;
      bits = h.stamp.bits;
      above_read = h.stamp.above_read;
      above_replaced = λ r value e. subst (λ (v : Version). v.tid < t.tid) (sym (goes.same r (λ q. h.apart w r value q e))) (h.stamp.above_replaced r value e);
      above_own = goes.rising t (h.over w) h.stamp.above_own;
    };
    apart = λ k r value q e. goes.locks k r q (h.apart k r value (goes.waiting k q) e);
    later = λ k r value v q e read. h.later k r value v (goes.waiting k q) e (goes.reads k r v q read);
    over = λ k q. h.over k (goes.waiting k q);
    reached = le_trans h.reached (goes.lasts t.worker);
  }

  pub waits_goes : (k e : ℕ) → ws' k ≡ ws k → Waits first ws k e turns → Waits first ws' k e turns'
  waits_goes k e same h = record {
    phase = ap (λ (x : Worker). x.phase) same ∙ h.phase;
    epoch = ap (λ (x : Worker). x.epoch) same ∙ h.epoch;
    once = λ q. h.once (goes.waiting k q);
    validated = subst (λ (x : Worker). AreFound first ws' x.validated turns') (sym same) (found_goes (ws k).validated h.validated);
  }

-- who waits once worker w has given up
pub given_up : (w k : ℕ) (turns : List Place) → IsWaiting k (give_up w turns) → (k ≢ w) × IsWaiting k turns
given_up w k [] h = absurd h
given_up w k (Waiting j e ∷ turns) h =
    by_test (λ b. IsWaiting k (cond b (give_up w turns) (Waiting j e ∷ give_up w turns)) → (k ≢ w) × ((j ≡ k) ⊎ IsWaiting k turns)) j w
    (λ same h. let q : (k ≢ w) × IsWaiting k turns = given_up w k turns h in (q.0, inr q.1))
    (λ other h. ⊎_elim
    (λ (e : j ≡ k). (λ q. other (e ∙ q), inl e))
    (λ (h : IsWaiting k (give_up w turns)). let q : (k ≢ w) × IsWaiting k turns = given_up w k turns h in (q.0, inr q.1))
    h)
    h
given_up w k (Decided t ∷ turns) h = given_up w k turns h

pub still_waits : (w k : ℕ) (turns : List Place) → k ≢ w → IsWaiting k turns → IsWaiting k (give_up w turns)
still_waits w k [] apart h = absurd h
still_waits w k (Waiting j e ∷ turns) apart h =
    by_test (λ b. (j ≡ k) ⊎ IsWaiting k turns → IsWaiting k (cond b (give_up w turns) (Waiting j e ∷ give_up w turns))) j w
    (λ same h. ⊎_elim (λ (e : j ≡ k). absurd (apart (sym e ∙ same))) (λ (q : IsWaiting k turns). still_waits w k turns apart q) h)
    (λ other h. ⊎_elim (λ (e : j ≡ k). inl e) (λ (q : IsWaiting k turns). inr (still_waits w k turns apart q)) h)
    h
still_waits w k (Decided t ∷ turns) apart h = still_waits w k turns apart h

pub same_transactions : (w : ℕ) (turns : List Place) → decided (give_up w turns) ≡ decided turns
same_transactions w [] = refl
same_transactions w (Waiting j e ∷ turns) = by_test (λ b. decided (cond b (give_up w turns) (Waiting j e ∷ give_up w turns)) ≡ decided turns) j w
    (λ same. same_transactions w turns)
    (λ other. same_transactions w turns)
same_transactions w (Decided t ∷ turns) = ap (λ (l : List Transaction). t ∷ l) (same_transactions w turns)

-- one that doesn't wait has nothing to give up
pub nothing_given_up : (w : ℕ) (turns : List Place) → (IsWaiting w turns → ⊥) → give_up w turns ≡ turns
nothing_given_up w [] never = refl
nothing_given_up w (Waiting j e ∷ turns) never =
    by_test (λ b. cond b (give_up w turns) (Waiting j e ∷ give_up w turns) ≡ Waiting j e ∷ turns) j w
    (λ same. absurd (never (inl same)))
    (λ other. ap (λ (l : List Place). Waiting j e ∷ l) (nothing_given_up w turns (λ q. never (inr q))))
nothing_given_up w (Decided t ∷ turns) never = ap (λ (l : List Place). Decided t ∷ l) (nothing_given_up w turns never)

pub falling_more : (turns : List Place) (e f : ℕ) → e ≤ f → Falling e turns → Falling f turns
falling_more [] e f le h = tt
falling_more (Waiting k g ∷ turns) e f le h = (le_trans h.0 le, h.1)
falling_more (Decided t ∷ turns) e f le h = (le_trans h.0 le, h.1)

pub falling_given_up : (w : ℕ) (turns : List Place) (f : ℕ) → Falling f turns → Falling f (give_up w turns)
falling_given_up w [] f h = tt
falling_given_up w (Waiting j e ∷ turns) f h = by_test (λ b. Falling f (cond b (give_up w turns) (Waiting j e ∷ give_up w turns))) j w
    (λ same. falling_more (give_up w turns) e f h.0 (falling_given_up w turns e h.1))
    (λ other. (h.0, falling_given_up w turns e h.1))
falling_given_up w (Decided t ∷ turns) f h = (h.0, falling_given_up w turns t.epoch h.1)

-- worker w changes to x, whose last TID is no smaller
module _ (first : ℕ → Version) (ws ws' : ℕ → Worker) (w : ℕ) (x : Worker) (change : Changes ws ws' w x) (no_smaller : tid_of (ws w).last ≤ tid_of x.last) where
  goes_given_up : (turns : List Place) → Goes first ws ws' w turns (give_up w turns)
  goes_given_up turns = record {
    waiting = λ k q. (given_up w k turns q).1;
    locks = λ k r q h. ap (λ (x : Worker). note_at x.locks r) (change.there k (given_up w k turns q).0) ∙ h;
    reads = λ k r v q h. sym (ap (λ (x : Worker). note_at x.reads r) (change.there k (given_up w k turns q).0)) ∙ h;
    same = λ r _. ap (λ (l : List Transaction). now first l r) (same_transactions w turns);
    lasts = spread (λ k (x : Worker). tid_of (ws k).last ≤ tid_of x.last) change no_smaller (λ k apart. le_refl (tid_of (ws k).last));
    rising = λ t _. All-same (λ u. u.worker ≡ t.worker → u.tid < t.tid) (decided (give_up w turns)) (decided turns) (same_transactions w turns);
  }

  -- it gives up, or never waited
  pub good_given_up : (turns : List Place) → AreGood first ws turns → AreGood first ws' (give_up w turns)
  good_given_up [] h = tt
  good_given_up (Waiting k e ∷ turns) h = by_test (λ b. AreGood first ws' (cond b (give_up w turns) (Waiting k e ∷ give_up w turns))) k w
      (λ same. good_given_up turns h.1)
      (λ other. (waits_goes first ws ws' w turns (give_up w turns) (goes_given_up turns) k e (change.there k other) h.0, good_given_up turns h.1))
  good_given_up (Decided t ∷ turns) h = (fits_goes first ws ws' w turns (give_up w turns) (goes_given_up turns) t h.0, good_given_up turns h.1)

  pub good_aside : (turns : List Place) → (IsWaiting w turns → ⊥) → AreGood first ws turns → AreGood first ws' turns
  good_aside turns never h = subst (AreGood first ws') (nothing_given_up w turns never) (good_given_up turns h)

-- worker w has validated version v of record n
module _ (first : ℕ → Version) (ws ws' : ℕ → Worker) (w n : ℕ) (v : Version) (change : Changes ws ws' w (checked (ws w) n v true)) where
  goes_checked : (turns : List Place) → Goes first ws ws' w turns turns
  goes_checked turns = record {
    waiting = λ k q. q;
    locks = λ k r q. spread (λ k (x : Worker). note_at (ws k).locks r ≡ None → note_at x.locks r ≡ None) change (λ h. h) (λ k e h. h) k;
    reads = λ k r u q. spread (λ k (x : Worker). note_at x.reads r ≡ Some u → note_at (ws k).reads r ≡ Some u) change (λ h. (held_left (ws w).reads n r u h).1)
        (λ k e h. h) k;
    same = λ r _. refl;
    lasts = spread (λ k (x : Worker). tid_of (ws k).last ≤ tid_of x.last) change (le_refl (tid_of (ws w).last)) (λ k apart. le_refl (tid_of (ws k).last));
    rising = λ t _ h. h;
  }

  -- the version goes to those validated, where w waits
  found_checked : (turns : List Place) → AreFound first ws (ws w).validated turns → (IsWaiting w turns → ⊥) → ((k : ℕ) → k ≢ w → note_at (ws k).locks n ≡ None)
      → now first (decided turns) n ≡ v → AreFound first ws' ((ws w).validated ++ (n, v) ∷ []) turns
  found_checked turns h once unlocked current =
      let old : AreFound first ws' (ws w).validated turns = found_goes first ws ws' w turns turns (goes_checked turns) (ws w).validated h in
      record {
        found = λ r u e. ⊎_elim
            (λ (e : note_at (ws w).validated r ≡ Some u). old.found r u e)
            (λ (e : (n ≡ r) × (v ≡ u)). ap (now first (decided turns)) (sym e.0) ∙ current ∙ e.1)
            (held_more (ws w).validated n v r u e);
        free = λ r u k e q. ⊎_elim
            (λ (e : note_at (ws w).validated r ≡ Some u). old.free r u k e q)
            (λ (e : (n ≡ r) × (v ≡ u)).
            let other : k ≢ w = λ p. once (subst (λ j. IsWaiting j turns) p q) in
            ap (λ (x : Worker). note_at x.locks r) (change.there k other) ∙ ap (note_at (ws k).locks) (sym e.0) ∙ unlocked k other)
            (held_more (ws w).validated n v r u e);
      }

  pub good_checked : (turns : List Place) → AreGood first ws turns → note_at (ws w).reads n ≡ Some v → ((k : ℕ) → k ≢ w → note_at (ws k).locks n ≡ None)
      → (IsWaiting w turns → now first (decided turns) n ≡ v) → AreGood first ws' turns
  good_checked [] h read unlocked current = tt
  good_checked (Waiting k e ∷ turns) h read unlocked current = ⊎_elim
      (λ (same : k ≡ w).
      let waits : Waits first ws w e turns = subst (λ j. Waits first ws j e turns) same h.0 in (
        subst (λ j. Waits first ws' j e turns) (sym same) (record {
          phase = ap (λ (x : Worker). x.phase) change.here ∙ waits.phase;
          epoch = ap (λ (x : Worker). x.epoch) change.here ∙ waits.epoch;
          once = waits.once;
          validated = subst (λ (x : Worker). AreFound first ws' x.validated turns) (sym change.here)
              (found_checked turns waits.validated waits.once unlocked (current (inl same)));
        }),
        good_checked turns h.1 read unlocked (λ q. absurd (waits.once q)),
      ))
      (λ (other : k ≢ w). (
        waits_goes first ws ws' w turns turns (goes_checked turns) k e (change.there k other) h.0,
        good_checked turns h.1 read unlocked (λ q. current (inr q)),
      ))
      (cases_eq k w)
  good_checked (Decided t ∷ turns) h read unlocked current =
      (fits_goes first ws ws' w turns turns (goes_checked turns) t h.0, good_checked turns h.1 read unlocked earlier)
    where
      -- an earlier transaction left the version: one that w has read too late has a larger TID
      earlier : IsWaiting w turns → now first (decided turns) n ≡ v
      earlier q = ⊎_elim
          (λ (none : note_at t.writes n ≡ None). sym (ap (overwritten (now first (decided turns) n) t.tid) none) ∙ current q)
          (λ (some : (value : Option (List ℕ)) × (note_at t.writes n ≡ Some value)).
          let same : t.tid ≡ v.tid = ap (λ (u : Version). u.tid) (sym (ap (overwritten (now first (decided turns) n) t.tid) some.1) ∙ current q) in
          let less : v.tid < t.tid = h.0.later w n some.0 v q some.1 read in
          absurd (omega arith))
          (cases_held (note_at t.writes n))

-- worker w has taken a TID
module _ (first : ℕ → Version) (ws ws' : ℕ → Worker) (w tid : ℕ) (change : Changes ws ws' w (after_choice (ws w) (Some tid))) where
  -- its transaction
  abbrev own : Transaction
  own = transaction_of w (after_choice (ws w) (Some tid))

  pub waited : (k : ℕ) (turns : List Place) → IsWaiting k (decide w own turns) → IsWaiting k turns
  waited k [] h = absurd h
  waited k (Waiting j e ∷ turns) h = by_test (λ b. IsWaiting k (cond b (Decided own ∷ turns) (Waiting j e ∷ decide w own turns)) → (j ≡ k) ⊎ IsWaiting k turns)
      j w
      (λ same h. inr h)
      (λ other h. ⊎_elim (λ (e : j ≡ k). inl e) (λ (q : IsWaiting k (decide w own turns)). inr (waited k turns q)) h)
      h
  waited k (Decided t ∷ turns) h = waited k turns h

  pub waits_on : (k : ℕ) (turns : List Place) → k ≢ w → IsWaiting k turns → IsWaiting k (decide w own turns)
  waits_on k [] apart h = absurd h
  waits_on k (Waiting j e ∷ turns) apart h =
      by_test (λ b. (j ≡ k) ⊎ IsWaiting k turns → IsWaiting k (cond b (Decided own ∷ turns) (Waiting j e ∷ decide w own turns))) j w
      (λ same h. ⊎_elim (λ (e : j ≡ k). absurd (apart (sym e ∙ same))) (λ (q : IsWaiting k turns). q) h)
      (λ other h. ⊎_elim (λ (e : j ≡ k). inl e) (λ (q : IsWaiting k turns). inr (waits_on k turns apart q)) h)
      h
  waits_on k (Decided t ∷ turns) apart h = waits_on k turns apart h

  -- a record that it doesn't write is as before, and one that it writes has its version
  pub now_same : (turns : List Place) (r : ℕ) → (IsWaiting w turns → note_at (ws w).locks r ≡ None)
      → now first (decided (decide w own turns)) r ≡ now first (decided turns) r
  now_same [] r free = refl
  now_same (Waiting j e ∷ turns) r free =
      by_test (λ b. now first (decided (cond b (Decided own ∷ turns) (Waiting j e ∷ decide w own turns))) r ≡ now first (decided turns) r) j w
      (λ same. ap (overwritten (now first (decided turns) r) tid) (free (inl same)))
      (λ other. now_same turns r (λ q. free (inr q)))
  now_same (Decided t ∷ turns) r free = ap (λ (v : Version). overwritten v t.tid (note_at t.writes r)) (now_same turns r free)

  pub now_written : (turns : List Place) (r : ℕ) (value : Option (List ℕ)) → AreGood first ws turns → IsWaiting w turns → note_at (ws w).locks r ≡ Some value
      → now first (decided (decide w own turns)) r ≡ record { tid = tid; value = value }
  now_written [] r value h q lock = absurd q
  now_written (Waiting j e ∷ turns) r value h q lock =
      by_test (λ b. now first (decided (cond b (Decided own ∷ turns) (Waiting j e ∷ decide w own turns))) r ≡ record { tid = tid; value = value }) j w
      (λ same. ap (overwritten (now first (decided turns) r) tid) lock)
      (λ other. ⊎_elim (λ (e : j ≡ w). absurd (other e)) (λ (q : IsWaiting w turns). now_written turns r value h.1 q lock) q)
  now_written (Decided t ∷ turns) r value h q lock =
      let none : note_at t.writes r ≡ None = none_of (note_at t.writes r) (λ u e. never_both (h.0.apart w r u q e) lock) in
      ap (overwritten (now first (decided (decide w own turns)) r) t.tid) none ∙ now_written turns r value h.1 q lock

  -- the epochs fall as before
  pub falling_decided : (turns : List Place) (f : ℕ) → AreGood first ws turns → Falling f turns → Falling f (decide w own turns)
  falling_decided [] f h falls = tt
  falling_decided (Waiting j e ∷ turns) f h falls = by_test (λ b. Falling f (cond b (Decided own ∷ turns) (Waiting j e ∷ decide w own turns))) j w
      (λ same.
      let here : e ≡ (ws w).epoch = sym h.0.epoch ∙ ap (λ k. (ws k).epoch) same in
      (subst (λ n. n ≤ f) here falls.0, subst (λ n. Falling n turns) here falls.1))
      (λ other. (falls.0, falling_decided turns e h.1 falls.1))
  falling_decided (Decided t ∷ turns) f h falls = (falls.0, falling_decided turns t.epoch h.1 falls.1)

  -- its locks are its own, and its TID is of its epoch and above what was read of the records that it has locked
  module _ (single : (k r : ℕ) (value other : Option (List ℕ)) → note_at (ws w).locks r ≡ Some value → note_at (ws k).locks r ≡ Some other → w ≡ k)
      (above : (k r : ℕ) (value : Option (List ℕ)) (v : Version) → (ws k).phase ≡ Entered → note_at (ws w).locks r ≡ Some value
      → note_at (ws k).reads r ≡ Some v → v.tid < tid)
      (above_read : (r : ℕ) (v : Version) → note_at (ws w).validated r ≡ Some v → v.tid < tid)
      (in_epoch : tid / 2 ^ 32 ≡ (ws w).epoch) (bits : tid % 8 ≡ 0) (above_last : tid_of (ws w).last < tid) where
    no_smaller : tid_of (ws w).last ≤ tid_of tid
    no_smaller = omega arith

    whole : tid ≤ tid_of tid
    whole = omega arith

    -- a transaction of another worker than w's rises over w's too
    rising_decided : (t : Transaction) (turns : List Place) → (IsWaiting w turns → w ≢ t.worker)
        → All (λ u. u.worker ≡ t.worker → u.tid < t.tid) (decided turns)
        → All (λ u. u.worker ≡ t.worker → u.tid < t.tid) (decided (decide w own turns))
    rising_decided t [] other h = h
    rising_decided t (Waiting j e ∷ turns) other h =
        by_test (λ b. All (λ u. u.worker ≡ t.worker → u.tid < t.tid) (decided (cond b (Decided own ∷ turns) (Waiting j e ∷ decide w own turns)))) j w
        (λ same. All-cons (λ u. u.worker ≡ t.worker → u.tid < t.tid) own (decided turns) (λ q. absurd (other (inl same) q)) h)
        (λ _. rising_decided t turns (λ q. other (inr q)) h)
    rising_decided t (Decided u ∷ turns) other h =
        All-cons (λ u. u.worker ≡ t.worker → u.tid < t.tid) u (decided (decide w own turns))
        (All-head (λ u. u.worker ≡ t.worker → u.tid < t.tid) u (decided turns) h)
        (rising_decided t turns other (All-tail (λ u. u.worker ≡ t.worker → u.tid < t.tid) u (decided turns) h))

    -- w's own TID is above those that it took before
    rises : (turns : List Place) → AreGood first ws turns → All (λ u. u.worker ≡ w → u.tid < tid) (decided turns)
    rises [] h = All-nil (λ u. u.worker ≡ w → u.tid < tid)
    rises (Waiting j e ∷ turns) h = rises turns h.1
    rises (Decided t ∷ turns) h = All-cons (λ u. u.worker ≡ w → u.tid < tid) t (decided turns)
        (λ e. let least : t.tid ≤ tid_of (ws w).last = subst (λ k. t.tid ≤ tid_of (ws k).last) e h.0.reached in omega arith)
        (rises turns h.1)

    goes_decided : (turns : List Place) → Goes first ws ws' w turns (decide w own turns)
    goes_decided turns = record {
      waiting = λ k q. waited k turns q;
      locks = λ k r q. spread (λ k (x : Worker). note_at (ws k).locks r ≡ None → note_at x.locks r ≡ None) change (λ h. h) (λ k e h. h) k;
      reads = λ k r u q. spread (λ k (x : Worker). note_at x.reads r ≡ Some u → note_at (ws k).reads r ≡ Some u) change (λ h. h) (λ k e h. h) k;
      same = now_same turns;
      lasts = spread (λ k (x : Worker). tid_of (ws k).last ≤ tid_of x.last) change no_smaller (λ k apart. le_refl (tid_of (ws k).last));
      rising = λ t other h. rising_decided t turns other h;
    }

    fits_own : (e : ℕ) (turns : List Place) → Waits first ws w e turns → AreGood first ws turns
        → ((r : ℕ) (value : Option (List ℕ)) → note_at (ws w).locks r ≡ Some value → (now first (decided turns) r).tid < tid) → Fits first ws' own turns
    fits_own e turns waits good larger = record {
      reads = subst (λ (l : List Place). AreFound first ws' (ws w).validated l) (nothing_given_up w turns waits.once)
          (found_goes first ws ws' w turns (give_up w turns) (goes_given_up first ws ws' w (after_choice (ws w) (Some tid)) change no_smaller turns) (ws w).validated
          waits.validated);
      stamp = record { bits = bits; in_epoch = in_epoch; above_read = above_read; above_replaced = larger; above_own = rises turns good };
      apart = λ k r value q lock.
          let other : k ≢ w = λ p. waits.once (subst (λ j. IsWaiting j turns) p q) in
          ap (λ (x : Worker). note_at x.locks r) (change.there k other) ∙ none_of (note_at (ws k).locks r) (λ u e. other (sym (single k r value u lock e)));
      later = λ k r value v q lock read.
          let other : k ≢ w = λ p. waits.once (subst (λ j. IsWaiting j turns) p q) in
          above k r value v (has_entered first ws k turns good q) lock (sym (ap (λ (x : Worker). note_at x.reads r) (change.there k other)) ∙ read);
      over = λ k q p. waits.once (subst (λ j. IsWaiting j turns) p q);
      reached = subst (λ (x : Worker). tid ≤ tid_of x.last) (sym change.here) whole;
    }

    pub good_decided : (turns : List Place) → AreGood first ws turns
        → ((r : ℕ) (value : Option (List ℕ)) → note_at (ws w).locks r ≡ Some value → IsWaiting w turns → (now first (decided turns) r).tid < tid)
        → AreGood first ws' (decide w own turns)
    good_decided [] h larger = tt
    good_decided (Waiting j e ∷ turns) h larger = by_test (λ b. AreGood first ws' (cond b (Decided own ∷ turns) (Waiting j e ∷ decide w own turns))) j w
        (λ same.
        let waits : Waits first ws w e turns = subst (λ k. Waits first ws k e turns) same h.0 in (
          fits_own e turns waits h.1 (λ r value lock. larger r value lock (inl same)),
          good_aside first ws ws' w (after_choice (ws w) (Some tid)) change no_smaller
              turns waits.once h.1,
        ))
        (λ other. (
          waits_goes first ws ws' w turns (decide w own turns) (goes_decided turns) j e (change.there j other) h.0,
          good_decided turns h.1 (λ r value lock q. larger r value lock (inr q)),
        ))
    good_decided (Decided t ∷ turns) h larger = (fits_goes first ws ws' w turns (decide w own turns) (goes_decided turns) t h.0, good_decided turns h.1 earlier)
      where
        earlier : (r : ℕ) (value : Option (List ℕ)) → note_at (ws w).locks r ≡ Some value → IsWaiting w turns → (now first (decided turns) r).tid < tid
        earlier r value lock q =
            let none : note_at t.writes r ≡ None = none_of (note_at t.writes r) (λ u e. never_both (h.0.apart w r u q e) lock) in
            subst (λ (v : Version). v.tid < tid) (ap (overwritten (now first (decided turns) r) t.tid) none) (larger r value lock q)
