-- A run of the commit machine whose transactions are explained by what they read has a legal history.
use Rattle.std.proofs.Common.{◌≡◌, ℕ, suc, zero-add, ◌+◌, ◌-◌, ◌<◌, ◌≤◌, Option, Some, None, List, [], ◌∷◌, length, refl, sym, ap, ◌∙◌, subst, arith}
use Rattle.std.proofs.Common.{length-append}
use Rattle.std.specs.Option.{unwrap_or}
use Rattle.tables.specs.Sizes.{Sizes}
use Rattle.tables.specs.Database.{Database}
use Rattle.tables.specs.Constant.{IsOf}
use Rattle.tables.specs.Inputs.{IsInput}
use Rattle.tables.specs.Apply.{after}
use Rattle.tables.specs.Conditions.{IsConsistent}
use Rattle.tables.specs.declared.limits.TheConstants.{MAX_COMMITS}
use Rattle.tables.specs.Records.{record_count}
use Rattle.tables.specs.Rows.{rows}
use Rattle.tables.specs.WellFormed.{IsWellFormed, HasRoom}
use Rattle.tables_laws.proofs.Kept.{after-IsWellFormed, after-HasRoom, after-IsConsistent, after-IsOf}
use Rattle.tables_laws.proofs.NamesKept.{IsOf-itself}
use Rattle.readset.specs.Explains.{Agrees}
use Rattle.readset.specs.declared.work.Work.{Work}
use Rattle.commit.specs.Machine as machine
use Rattle.commit.specs.Turns.{Transaction}
use Rattle.commit.specs.Serial.{overwritten, now, IsSerial, HaveLawfulTids, NeverFall, opening_versions}
use Rattle.commit.specs.declared.worker.Version as noted
use Rattle.book.specs.History.{replay, CommitsAt, Replays}
use Rattle.book_decided.specs.Decided.{HoldsRows, IsTransactionOf, AreTransactionsOf, LeadsTo, entry_after, history_of}
use Rattle.book.specs.declared.entry.Entry.{Entry}
use Rattle.book.proofs.Replaying.{replay_push, replays_push}
use Rattle.book_decided.proofs.Tids.{all_stamped}

-- the tables t where a run stands that has left these versions, with room for so many commits more
record Stands (t0 t : Database) (versions : ℕ → noted.Version) (left : ℕ) : Type 0 where
  of_population : IsOf t0 t
  well_formed : IsWellFormed t
  consistent : IsConsistent t
  room : HasRoom left t
  values : (n : ℕ) → n < record_count t0.scale → rows t n ≡ (versions n).value

-- a write's value, or else the one that was there
value_left : (v : noted.Version) (tid : ℕ) (write : Option (Option (List ℕ))) → unwrap_or write v.value ≡ (overwritten v tid write).value
value_left v tid (Some value) = refl
value_left v tid None = refl

-- one transaction more, which read the versions that the earlier ones leave
module _ (t0 t : Database) (versions : ℕ → noted.Version) (left : ℕ) (stands : Stands t0 t versions (left + 1))
    (work : Work) (transaction : Transaction) (is : IsTransactionOf t0 work transaction)
    (serial : (r : ℕ) (v : noted.Version) → machine.note_at transaction.reads r ≡ Some v → versions r ≡ v) where
  agrees : Agrees t work.reads
  agrees n v e =
      sym (is.reads n v e).2 ∙ ap (λ (x : noted.Version). x.value) (sym (serial n (is.reads n v e).0 (is.reads n v e).1))
      ∙ sym (stands.values n (is.within n v e))

  input_of : IsInput t.scale work.input
  input_of = subst (λ s. IsInput s work.input) (sym stands.of_population.scale) is.input

  done_there : CommitsAt t work.input work.writes work.reply
  done_there = record { input = input_of; commit = is.explained t stands.of_population stands.well_formed stands.consistent agrees }

  value_next : (n : ℕ) → n < record_count t0.scale
      → rows (after t work.input) n ≡ (overwritten (versions n) transaction.tid (machine.note_at transaction.writes n)).value
  value_next n small =
      done_there.commit.rows n (subst (λ (s : Sizes). n < record_count s) (sym stands.of_population.scale) small)
      ∙ ap (λ w. unwrap_or w (rows t n)) (sym (is.writes n))
      ∙ ap (λ row. unwrap_or (machine.note_at transaction.writes n) row) (stands.values n small)
      ∙ value_left (versions n) transaction.tid (machine.note_at transaction.writes n)

  stands_next : Stands t0 (after t work.input) (λ n. overwritten (versions n) transaction.tid (machine.note_at transaction.writes n)) left
  stands_next = record {
    of_population = after-IsOf t0 t work.input stands.of_population;
    well_formed = after-IsWellFormed t work.input left input_of done_there.commit.numbered stands.well_formed stands.consistent stands.room;
    consistent = after-IsConsistent t work.input input_of stands.well_formed stands.consistent;
    room = after-HasRoom t work.input left input_of stands.well_formed stands.room;
    values = value_next;
  }

-- an entry of each transaction
entries_of : (t0 : Database) (works : List Work) (transactions : List Transaction) → AreTransactionsOf t0 works transactions
    → length (history_of works transactions) ≡ length works
entries_of t0 [] [] are = refl
entries_of t0 (work ∷ works) (transaction ∷ earlier) are =
    length-append (history_of works earlier) (entry_after works work transaction ∷ [])
    ∙ more (length (history_of works earlier)) (length works) (entries_of t0 works earlier are.1)
  where
    more : (n m : ℕ) → n ≡ m → n + 1 ≡ suc m
    more n m e = omega (arith, e)
entries_of t0 [] (transaction ∷ earlier) are = elim are [ ]
entries_of t0 (work ∷ works) [] are = elim are [ ]

-- a history each of whose entries is done in its turn, and the versions that it has left
record Comes (t0 : Database) (history : List Entry) (versions : ℕ → noted.Version) (left : ℕ) : Type 0 where
  replays : Replays 1 t0 history
  stands : Stands t0 (replay t0 history) versions left

-- one entry more
module _ (t0 : Database) (works : List Work) (earlier : List Transaction) (versions : ℕ → noted.Version) (left : ℕ) (are : AreTransactionsOf t0 works earlier)
    (before : Comes t0 (history_of works earlier) versions (left + 1))
    (work : Work) (transaction : Transaction) (is : IsTransactionOf t0 work transaction)
    (serial : (r : ℕ) (v : noted.Version) → machine.note_at transaction.reads r ≡ Some v → versions r ≡ v) where
  numbered : (n m : ℕ) → m ≡ n → n + 1 ≡ 1 + m
  numbered n m e = omega (arith, e)

  comes_next : Comes t0 (history_of (work ∷ works) (transaction ∷ earlier))
      (λ n. overwritten (versions n) transaction.tid (machine.note_at transaction.writes n)) left
  comes_next = record {
    replays = replays_push 1 t0 (history_of works earlier) (entry_after works work transaction) before.replays
        (numbered (length works) (length (history_of works earlier)) (entries_of t0 works earlier are))
        (done_there t0 (replay t0 (history_of works earlier)) versions left before.stands work transaction is serial);
    stands = subst (λ t. Stands t0 t (λ n. overwritten (versions n) transaction.tid (machine.note_at transaction.writes n)) left)
        (sym (replay_push t0 (history_of works earlier) (entry_after works work transaction)))
        (stands_next t0 (replay t0 (history_of works earlier)) versions left before.stands work transaction is serial);
  }

comes : (t0 : Database) (first : ℕ → noted.Version) (works : List Work) (transactions : List Transaction) (left : ℕ)
    → Stands t0 t0 first (length works + left) → AreTransactionsOf t0 works transactions → IsSerial first transactions
    → Comes t0 (history_of works transactions) (now first transactions) left
comes t0 first [] [] left opens are serial = record { replays = tt; stands = subst (Stands t0 t0 first) (zero-add left) opens }
comes t0 first (work ∷ works) (transaction ∷ earlier) left opens are serial =
    comes_next t0 works earlier (now first earlier) left are.1
    (comes t0 first works earlier (left + 1) (subst (Stands t0 t0 first) (shifted (length works)) opens) are.1 serial.1)
    work transaction are.0 serial.0
  where
    shifted : (n : ℕ) → suc n + left ≡ n + (left + 1)
    shifted n = omega arith
comes t0 first [] (transaction ∷ earlier) left opens are serial = elim are [ ]
comes t0 first (work ∷ works) [] left opens are serial = elim are [ ]

pub leads_to : (t0 : Database) (opening : machine.Machine) (epoch : ℕ) (works : List Work) (transactions : List Transaction)
    → IsWellFormed t0 → IsConsistent t0 → HasRoom MAX_COMMITS t0 → HoldsRows t0 opening
    → AreTransactionsOf t0 works transactions → length works ≤ MAX_COMMITS
    → IsSerial (opening_versions opening) transactions → HaveLawfulTids (opening_versions opening) transactions → NeverFall epoch transactions
    → LeadsTo t0 (history_of works transactions) (now (opening_versions opening) transactions)
leads_to t0 opening epoch works transactions well_formed consistent room holds are few serial stamped fall = record {
  legal = record { replays = led.replays; end = refl };
  stamped = all_stamped t0 (opening_versions opening) epoch works transactions are stamped fall;
  well_formed = led.stands.well_formed;
  consistent = led.stands.consistent;
  values = led.stands.values;
}
  where
    all_left : (n : ℕ) → n ≤ MAX_COMMITS → MAX_COMMITS ≡ n + (MAX_COMMITS - n)
    all_left n h = omega (arith, h)

    opens : Stands t0 t0 (opening_versions opening) (length works + (MAX_COMMITS - length works))
    opens = record {
      of_population = IsOf-itself t0;
      well_formed = well_formed;
      consistent = consistent;
      room = subst (λ n. HasRoom n t0) (all_left (length works) few) room;
      values = λ n small. sym (holds n small);
    }

    led : Comes t0 (history_of works transactions) (now (opening_versions opening) transactions) (MAX_COMMITS - length works)
    led = comes t0 (opening_versions opening) works transactions (MAX_COMMITS - length works) opens are serial
