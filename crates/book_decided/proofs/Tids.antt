-- The TIDs of a history that a run of the commit machine makes.
use Rattle.std.proofs.Common.{◌≡◌, ℕ, ◌/◌, ◌^◌, ◌<◌, ◌≤◌, Option, Some, None, IsSome, true≢false, List, [], ◌∷◌, refl, sym, subst, arith, le_trans}
use Rattle.std.specs.List.{All}
use Rattle.std.proofs.lemmas.List.Elements.{All-head, All-tail, All-nil, All-push}
use Rattle.tables.specs.Database.{Database}
use Rattle.readset.specs.Writes.{value_for}
use Rattle.readset.specs.declared.work.Work.{Work}
use Rattle.commit.specs.Machine.{note_at}
use Rattle.commit.specs.Turns.{Transaction}
use Rattle.commit.specs.Serial.{overwritten, now, HaveLawfulTids, NeverFall}
use Rattle.commit.specs.declared.worker.Version.{Version}
use Rattle.book.specs.Stamps as stamps
use Rattle.book_decided.specs.Decided.{IsTransactionOf, AreTransactionsOf, entry_after, history_of}
use Rattle.book.specs.declared.entry.Entry.{Entry}
use Rattle.book.proofs.Stamped.{stamped_push}

-- the TID of a version that a write leaves is the writer's, and larger than the one before
tid_written : (v : Version) (tid : ℕ) (write : Option (Option (List ℕ))) → IsSome write → (overwritten v tid write).tid ≡ tid
tid_written v tid (Some value) some = refl
tid_written v tid None some = absurd (true≢false (sym some))

tid_replaced : (v : Version) (tid : ℕ) (write : Option (Option (List ℕ))) → ((value : Option (List ℕ)) → write ≡ Some value → v.tid < tid) → IsSome write
    → v.tid < tid
tid_replaced v tid (Some value) larger some = larger value refl
tid_replaced v tid None larger some = absurd (true≢false (sym some))

tid_grows : (v : Version) (tid : ℕ) (write : Option (Option (List ℕ))) → ((value : Option (List ℕ)) → write ≡ Some value → v.tid < tid)
    → v.tid ≤ (overwritten v tid write).tid
tid_grows v tid (Some value) larger = less v.tid tid (larger value refl)
  where
    less : (n m : ℕ) → n < m → n ≤ m
    less n m h = omega (arith, h)
tid_grows v tid None larger = same v.tid
  where
    same : (n : ℕ) → n ≤ n
    same n = omega arith

-- an entry that comes after these transactions: of no earlier epoch, and of a larger TID than the versions of what it writes and than its terminal's
-- transactions
module _ (t0 : Database) (first : ℕ → Version) (last : Entry) where
  record IsBehind (transactions : List Transaction) : Type 0 where
    stamped : HaveLawfulTids first transactions
    epochs : NeverFall (last.tid / 2 ^ 32) transactions
    larger : (n : ℕ) → IsSome (value_for last.writes n) → (now first transactions n).tid < last.tid
    rising : All (λ u. u.worker ≡ last.terminal → u.tid < last.tid) transactions

  never_later : (transactions : List Transaction) (low high : ℕ) → low ≤ high → NeverFall low transactions → NeverFall high transactions
  never_later [] low high le fall = tt
  never_later (t ∷ earlier) low high le fall = (le_trans fall.0 le, fall.1)

  behind_earlier : (t : Transaction) (earlier : List Transaction) → IsBehind (t ∷ earlier) → IsBehind earlier
  behind_earlier t earlier b = record {
    stamped = b.stamped.1;
    epochs = never_later earlier t.epoch (last.tid / 2 ^ 32) b.epochs.0 b.epochs.1;
    larger = λ n writes. less (now first earlier n).tid (now first (t ∷ earlier) n).tid
        (tid_grows (now first earlier n) t.tid (note_at t.writes n) (b.stamped.0.above_replaced n)) (b.larger n writes);
    rising = All-tail (λ u. u.worker ≡ last.terminal → u.tid < last.tid) t earlier b.rising;
  }
    where
      less : (n m : ℕ) → n ≤ m → m < last.tid → n < last.tid
      less n m p q = omega (arith, p, q)

  follows_one : (works : List Work) (work : Work) (t : Transaction) (earlier : List Transaction) → IsTransactionOf t0 work t → IsBehind (t ∷ earlier)
      → stamps.Follows (entry_after works work t) last
  follows_one works work t earlier is b = record {
    epochs = subst (λ n. n ≤ last.tid / 2 ^ 32) (sym b.stamped.0.in_epoch) b.epochs.0;
    records = λ n wrote writes. subst (λ m. m < last.tid)
        (tid_written (now first earlier n) t.tid (note_at t.writes n) (subst IsSome (sym (is.writes n)) wrote)) (b.larger n writes);
    terminals = All-head (λ u. u.worker ≡ last.terminal → u.tid < last.tid) t earlier b.rising;
  }

  follows : (works : List Work) (transactions : List Transaction) → AreTransactionsOf t0 works transactions → IsBehind transactions
      → All (λ e. stamps.Follows e last) (history_of works transactions)
  follows [] [] are b = All-nil (λ e. stamps.Follows e last)
  follows (work ∷ works) (t ∷ earlier) are b =
      All-push (λ e. stamps.Follows e last) (history_of works earlier) (entry_after works work t)
      (follows works earlier are.1 (behind_earlier t earlier b)) (follows_one works work t earlier are.0 b)
  follows [] (t ∷ earlier) are b = elim are [ ]
  follows (work ∷ works) [] are b = elim are [ ]

behind : (t0 : Database) (first : ℕ → Version) (works : List Work) (work : Work) (t : Transaction) (earlier : List Transaction) → IsTransactionOf t0 work t
    → HaveLawfulTids first (t ∷ earlier) → NeverFall t.epoch earlier
    → IsBehind t0 first (entry_after works work t) earlier
behind t0 first works work t earlier is stamped fall = record {
  stamped = stamped.1;
  epochs = subst (λ n. NeverFall n earlier) (sym stamped.0.in_epoch) fall;
  larger = λ n writes. tid_replaced (now first earlier n) t.tid (note_at t.writes n) (stamped.0.above_replaced n) (subst IsSome (sym (is.writes n)) writes);
  rising = stamped.0.above_own;
}

pub all_stamped : (t0 : Database) (first : ℕ → Version) (epoch : ℕ) (works : List Work) (transactions : List Transaction)
    → AreTransactionsOf t0 works transactions → HaveLawfulTids first transactions → NeverFall epoch transactions
    → stamps.AreStamped (history_of works transactions)
all_stamped t0 first epoch [] [] are stamped fall = tt
all_stamped t0 first epoch (work ∷ works) (t ∷ earlier) are stamped fall =
    stamped_push (history_of works earlier) (entry_after works work t) stamped.0.bits (all_stamped t0 first t.epoch works earlier are.1 stamped.1 fall.1)
    (follows t0 first (entry_after works work t) works earlier are.1 (behind t0 first works work t earlier are.0 stamped fall.1))
all_stamped t0 first epoch [] (t ∷ earlier) are stamped fall = elim are [ ]
all_stamped t0 first epoch (work ∷ works) [] are stamped fall = elim are [ ]
