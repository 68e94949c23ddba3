-- TID words of records that are locked and unlocked.
use Rattle.std.proofs.Common.{◌≡◌, ◌≢◌, ℕ, ◌+◌, ◌/◌, ◌%◌, ◌==◌, ◌&&◌, ◌||◌, Bool, true, false, not, Option, Some, None, is_some, max, List, [], ◌∷◌, refl, ap}
use Rattle.std.proofs.Common.{◌∙◌, arith, add-sub_cancel}
use Rattle.std.proofs.lemmas.Bool.{eq-eqb, ne_eqb, and_from}
use Rattle.tidword.specs.TidWord.{tid_of, is_locked, is_latest}
use Rattle.commit.proofs.Words.{even, lock_keeps_tid}
use Rattle.commit.specs.Machine.{Machine, Worker, note_at, cell}
use Rattle.commit.specs.Events.{still_holds, greatest_locked, written_cell}
use Rattle.commit.specs.Sections.{Writes}
use Rattle.commit.specs.declared.worker.Cell.{Cell}
use Rattle.commit.specs.declared.worker.Version.{Version}
use Rattle.commit.proofs.Stages.{locked_for, unlocked_for}

half : (word : ℕ) → word % 2 ≡ 0 → (word + 1) / 2 ≡ word / 2
half word h = omega (arith, h)

locked_latest : (word : ℕ) → is_locked word ≡ false → is_latest (word + 1) ≡ is_latest word
locked_latest word h = ap (λ n. n % 2 == 1) (half word (even word h))

pub same_tid : (o : Option (Option (List ℕ))) (c : Cell) → is_locked c.word ≡ false → tid_of (locked_for o c).word ≡ tid_of c.word
same_tid (Some value) c h = lock_keeps_tid c.word h
same_tid None c h = refl

same_latest : (o : Option (Option (List ℕ))) (c : Cell) → is_locked c.word ≡ false → is_latest (locked_for o c).word ≡ is_latest c.word
same_latest (Some value) c h = locked_latest c.word h
same_latest None c h = refl

or_true : (b : Bool) → (b || true) ≡ true
or_true true = refl
or_true false = refl

free_or_own : (o : Option (Option (List ℕ))) (c : Cell) → is_locked c.word ≡ false → (not (is_locked (locked_for o c).word) || is_some o) ≡ true
free_or_own (Some value) c h = or_true (not (is_locked (locked_for (Some value) c).word))
free_or_own None c h = ap (λ b. not b || false) h

-- a read of a record that its worker has locked, or nobody, stands where its TID is the record's
pub stands : (x : Worker) (r : ℕ) (v : Version) (c : Cell) → is_locked c.word ≡ false → is_latest c.word ≡ true → tid_of c.word ≡ v.tid
    → still_holds (locked_for (note_at x.locks r) c) x r v ≡ true
stands x r v c free latest same =
    let locked : Cell = locked_for (note_at x.locks r) c in
    and_from (tid_of locked.word == v.tid) _ (eq-eqb (tid_of locked.word) v.tid (same_tid (note_at x.locks r) c free ∙ same))
    (and_from (is_latest locked.word) _ (same_latest (note_at x.locks r) c free ∙ latest) (free_or_own (note_at x.locks r) c free))

-- and doesn't where it isn't
pub falls : (x : Worker) (r : ℕ) (v : Version) (c : Cell) → tid_of c.word ≢ v.tid → still_holds c x r v ≡ false
falls x r v c other = ap (λ b. b && (is_latest c.word && (not (is_locked c.word) || is_some (note_at x.locks r)))) (ne_eqb (tid_of c.word) v.tid other)

pub same_greatest : (m n : Machine) → ((r : ℕ) → tid_of (cell n r).word ≡ tid_of (cell m r).word) → (notes : Writes)
    → greatest_locked n notes ≡ greatest_locked m notes
same_greatest m n same [] = refl
same_greatest m n same (note ∷ notes) = λ i. max (same note.0 i) (same_greatest m n same notes i)

-- a write says nothing of the lock
pub written_over : (o : Option (Option (List ℕ))) (c : Cell) (tid : ℕ) → written_cell (locked_for o c) tid o ≡ written_cell c tid o
written_over (Some value) c tid = refl
written_over None c tid = refl

pub unlocked_again : (o : Option (Option (List ℕ))) (c : Cell) → unlocked_for o (locked_for o c) ≡ c
unlocked_again (Some value) c = ap (λ n. record c { word = n }) (add-sub_cancel c.word 1)
unlocked_again None c = refl
