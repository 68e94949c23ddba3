-- Reads that are current: all, or a first that isn't, and the TIDs of records that are read before they are written.
use Rattle.std.proofs.Common.{◌≡◌, ◌≢◌, ℕ, ◌≤◌, true≢false, ⊎_elim, ◌⊎◌, inl, inr, Option, IsSome, List, [], ◌∷◌, All, refl, sym, ap, ◌∙◌, subst, le_trans}
use Rattle.std.proofs.Common.{le_of_eq, zero-le}
use Rattle.std.proofs.lemmas.Bool.{cases_eq}
use Rattle.std.proofs.lemmas.List.Elements.{All-nil, All-cons, All-head, All-tail}
use Rattle.std.proofs.Math.Nat.{le-max_left, le-max_right, max-le, max-eq_left}
use Rattle.tidword.specs.TidWord.{tid_of}
use Rattle.tidword.specs.Lawful.{next}
use Rattle.commit.specs.Machine.{Machine, note_at, cell, worker}
use Rattle.commit.specs.Events.{greatest_read, greatest_locked}
use Rattle.commit.specs.Sections.{Reads, Writes, AreCurrent, IsStale, next_for}
use Rattle.commit.specs.declared.worker.Version.{Version}
use Rattle.commit.proofs.NoteLists.{held_later}

abbrev IsCurrent : Machine → ℕ × Version → Type 0
IsCurrent m read = tid_of (cell m read.0).word ≡ read.1.tid

pub current_or_stale : (m : Machine) (reads : Reads) → AreCurrent m reads ⊎ IsStale m reads
current_or_stale m [] = inl (All-nil (IsCurrent m))
current_or_stale m (read ∷ reads) = ⊎_elim
    (λ (h : IsCurrent m read). ⊎_elim
    (λ (all : AreCurrent m reads). inl (All-cons (IsCurrent m) read reads h all))
    (λ (it : IsStale m reads). inr (record {
      passed = read ∷ it.passed;
      rest = it.rest;
      at = it.at;
      version = it.version;
      split = ap (λ l. read ∷ l) it.split;
      current = All-cons (IsCurrent m) read it.passed h it.current;
      stale = it.stale;
    }))
    (current_or_stale m reads))
    (λ (h : tid_of (cell m read.0).word ≢ read.1.tid). inr
    (record { passed = []; rest = reads; at = read.0; version = read.1; split = refl; current = All-nil (IsCurrent m); stale = h }))
    (cases_eq (tid_of (cell m read.0).word) read.1.tid)

-- the TID of a record that was read is among those of the reads
read_bound : (m : Machine) (reads : Reads) (r : ℕ) → AreCurrent m reads → IsSome (note_at reads r) → tid_of (cell m r).word ≤ greatest_read reads
read_bound m [] r current h = absurd (true≢false (sym h))
read_bound m (read ∷ reads) r current h = ⊎_elim
    (λ (e : read.0 ≡ r). le_trans
    (le_of_eq (ap (λ n. tid_of (cell m n).word) (sym e) ∙ All-head (IsCurrent m) read reads current))
    (le-max_left read.1.tid (greatest_read reads)))
    (λ (e : read.0 ≢ r). le_trans
    (read_bound m reads r (All-tail (IsCurrent m) read reads current) (subst IsSome (held_later read.0 r read.1 reads (λ q. e (sym q))) h))
    (le-max_right read.1.tid (greatest_read reads)))
    (cases_eq read.0 r)

locked_bound : (m : Machine) (reads : Reads) (writes : Writes) → AreCurrent m reads → All (λ write. IsSome (note_at reads write.0)) writes
    → greatest_locked m writes ≤ greatest_read reads
locked_bound m reads [] current h = zero-le
locked_bound m reads (write ∷ writes) current h = max-le
    (read_bound m reads write.0 current (All-head (λ (note : ℕ × Option (List ℕ)). IsSome (note_at reads note.0)) write writes h))
    (locked_bound m reads writes current (All-tail (λ (note : ℕ × Option (List ℕ)). IsSome (note_at reads note.0)) write writes h))

-- where all that is written was read and is current, the TIDs of the reads say which TID comes next
pub next_of_reads : (m : Machine) (w : ℕ) (reads : Reads) (writes : Writes) → AreCurrent m reads → All (λ write. IsSome (note_at reads write.0)) writes
    → next_for m w reads writes ≡ next (tid_of (greatest_read reads)) (tid_of (worker m w).last) m.epoch
next_of_reads m w reads writes current h = ap (λ n. next (tid_of n) (tid_of (worker m w).last) m.epoch) (max-eq_left (locked_bound m reads writes current h))
