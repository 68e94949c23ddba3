-- A worker's step keeps the order of the turns.
use Rattle.std.proofs.Common.{◌≤◌, ◌≡◌, ◌≢◌, ℕ, ◌/◌, ◌%◌, ◌^◌, ◌<◌, ◌⊎◌, Bool, true, false, true≢false, Option, Some, None, List, [], ◌∷◌, refl, sym, ap, ◌∙◌}
use Rattle.std.proofs.Common.{subst, inl, inr, ⊎_elim, le_refl}
use Rattle.tidword.specs.TidWord.{tid_of}
use Rattle.commit.specs.Machine.{Worker, IsIdle, note_at}
use Rattle.commit.specs.Events.{checked, after_choice}
use Rattle.commit.specs.Turns.{IsWaiting, Place, transaction_of, decided, decide, give_up}
use Rattle.commit.specs.Turns.Place.{Waiting}
use Rattle.commit.specs.Serial.{now}
use Rattle.commit.specs.declared.worker.Phase.{Phase}
use Rattle.commit.specs.declared.worker.Phase.TheVariants.{Idle, Begun, Entered, Chosen, Failed}
use Rattle.commit.specs.declared.worker.Version.{Version}
use Rattle.commit.proofs.Held.{never_both}
use Rattle.commit.proofs.Invariant.{AreFound, AreOrdered, Changes}
use Rattle.commit.proofs.Turns.{spread, still_waits, falling_given_up, good_given_up, good_aside, good_checked, waits_on, falling_decided, good_decided}
use Rattle.commit.proofs.Turns.{has_entered}

abbrev is_entered : Phase → Bool
is_entered Entered = true
is_entered _ = false

apart_from : (p q : Phase) → is_entered q ≡ false → p ≡ q → p ≡ Entered → ⊥
apart_from p q other e h = true≢false (ap is_entered (sym h ∙ e) ∙ other)

pub begun : (p : Phase) → p ≡ Begun → p ≡ Entered → ⊥
begun p = apart_from p Begun refl

pub chose : (p : Phase) → p ≡ Chosen → p ≡ Entered → ⊥
chose p = apart_from p Chosen refl

pub failed : (p : Phase) → p ≡ Failed → p ≡ Entered → ⊥
failed p = apart_from p Failed refl

pub idle : (x : Worker) → IsIdle x → x.phase ≡ Entered → ⊥
idle x h = ⊎_elim (apart_from x.phase Idle refl) (λ (q : (x.phase ≡ Chosen) ⊎ (x.phase ≡ Failed)). ⊎_elim (chose x.phase) (failed x.phase) q) h.1

module _ (first : ℕ → Version) (ws ws' : ℕ → Worker) (w : ℕ) (x : Worker) (change : Changes ws ws' w x) (no_smaller : tid_of (ws w).last ≤ tid_of x.last)
    (epoch : ℕ) (turns : List Place) (h : AreOrdered first ws epoch turns) where
  -- it has no turn
  pub order_aside : ((ws w).phase ≡ Entered → ⊥) → (x.phase ≡ Entered → ⊥) → AreOrdered first ws' epoch turns
  order_aside before later = record {
    places = spread (λ k (x : Worker). x.phase ≡ Entered → IsWaiting k turns) change (λ e. absurd (later e)) (λ k apart. h.places k);
    good = good_aside first ws ws' w x change no_smaller turns (λ q. before (has_entered first ws w turns h.good q)) h.good;
    epochs = h.epochs;
  }

  -- it gives up its turn
  pub order_given_up : (x.phase ≡ Entered → ⊥) → AreOrdered first ws' epoch (give_up w turns)
  order_given_up later = record {
    places = spread (λ k (x : Worker). x.phase ≡ Entered → IsWaiting k (give_up w turns)) change (λ e. absurd (later e))
        (λ k apart e. still_waits w k turns apart (h.places k e));
    good = good_given_up first ws ws' w x change no_smaller turns h.good;
    epochs = falling_given_up w turns epoch h.epochs;
  }

  -- it takes a turn, the newest
  pub order_entered : ((ws w).phase ≡ Entered → ⊥) → x.phase ≡ Entered → x.epoch ≡ epoch → x.validated ≡ []
      → AreOrdered first ws' epoch (Waiting w epoch ∷ turns)
  order_entered before phase here none = record {
    places = spread (λ k (x : Worker). x.phase ≡ Entered → (w ≡ k) ⊎ IsWaiting k turns) change (λ e. inl refl) (λ k apart e. inr (h.places k e));
    good = (
      record {
        phase = ap (λ (x : Worker). x.phase) change.here ∙ phase;
        epoch = ap (λ (x : Worker). x.epoch) change.here ∙ here;
        once = λ q. before (has_entered first ws w turns h.good q);
        validated = subst (λ l. AreFound first ws' l turns) (sym (ap (λ (x : Worker). x.validated) change.here ∙ none))
            (record { found = λ r v e. absurd (never_both refl e); free = λ r v k e q. absurd (never_both refl e) });
      },
      good_aside first ws ws' w x change no_smaller turns (λ q. before (has_entered first ws w turns h.good q)) h.good,
    );
    epochs = (le_refl epoch, h.epochs);
  }

-- worker w has validated a read
module _ (first : ℕ → Version) (ws ws' : ℕ → Worker) (w n : ℕ) (v : Version) (change : Changes ws ws' w (checked (ws w) n v true)) (epoch : ℕ)
    (turns : List Place) (h : AreOrdered first ws epoch turns) where
  pub order_checked : note_at (ws w).reads n ≡ Some v → ((k : ℕ) → k ≢ w → note_at (ws k).locks n ≡ None) → now first (decided turns) n ≡ v
      → AreOrdered first ws' epoch turns
  order_checked read unlocked current = record {
    places = spread (λ k (x : Worker). x.phase ≡ Entered → IsWaiting k turns) change (h.places w) (λ k apart. h.places k);
    good = good_checked first ws ws' w n v change turns h.good read unlocked (λ _. current);
    epochs = h.epochs;
  }

-- worker w has taken a TID
module _ (first : ℕ → Version) (ws ws' : ℕ → Worker) (w tid : ℕ) (change : Changes ws ws' w (after_choice (ws w) (Some tid))) (epoch : ℕ) (turns : List Place)
    (h : AreOrdered first ws epoch turns) where
  pub order_decided : ((k r : ℕ) (value other : Option (List ℕ)) → note_at (ws w).locks r ≡ Some value → note_at (ws k).locks r ≡ Some other → w ≡ k)
      → ((k r : ℕ) (value : Option (List ℕ)) (v : Version) → (ws k).phase ≡ Entered → note_at (ws w).locks r ≡ Some value → note_at (ws k).reads r ≡ Some v
      → v.tid < tid)
      → ((r : ℕ) (v : Version) → note_at (ws w).validated r ≡ Some v → v.tid < tid)
      → tid / 2 ^ 32 ≡ (ws w).epoch → tid % 8 ≡ 0 → tid_of (ws w).last < tid
      → ((r : ℕ) (value : Option (List ℕ)) → note_at (ws w).locks r ≡ Some value → (now first (decided turns) r).tid < tid)
      → AreOrdered first ws' epoch (decide w (transaction_of w (after_choice (ws w) (Some tid))) turns)
  order_decided single above above_read in_epoch bits above_last larger = record {
    places = spread (λ k (x : Worker). x.phase ≡ Entered → IsWaiting k (decide w (transaction_of w (after_choice (ws w) (Some tid))) turns)) change
        (λ e. absurd (chose Chosen refl e))
        (λ k apart e. waits_on first ws ws' w tid change k turns apart (h.places k e));
    good = good_decided first ws ws' w tid change single above above_read in_epoch bits above_last turns h.good (λ r value lock _. larger r value lock);
    epochs = falling_decided first ws ws' w tid change turns epoch h.good h.epochs;
  }
