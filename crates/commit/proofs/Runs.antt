-- Runs of the machine one behind another, and what a part of a run leaves.
use Rattle.std.proofs.Common.{◌≡◌, ◌≢◌, ℕ, ◌<◌, ⊎_elim, Option, Some, None, List, [], ◌∷◌, ◌++◌, length, slice_set, slice_index_or, refl, sym, ap, ◌∙◌, subst}
use Rattle.std.proofs.lemmas.Bool.{cases_eq}
use Rattle.std.proofs.lemmas.List.{get_or-set_same, get_or-set_other, length-set}
use Rattle.commit.specs.Machine.{Machine, Worker, idle_worker, no_cell, note_at, cell, worker}
use Rattle.commit.specs.Events.{AreEnabled, after_event, after_all}
use Rattle.commit.specs.Sections.{Writes, KeepsOthers}
use Rattle.commit.specs.declared.worker.Cell.{Cell}
use Rattle.commit.specs.declared.event.Event.{Event}
use Rattle.commit.proofs.NoteLists.{Above, held_first, held_later, held_above}

-- the events may happen, and then P holds of the machine
abbrev pub Runs : Machine → List Event → (Machine → Type 0) → Type 0
Runs m events P = AreEnabled m events × P (after_all m events)

after_join : (events more : List Event) (m : Machine) → after_all m (events ++ more) ≡ after_all (after_all m events) more
after_join [] more m = refl
after_join (event ∷ events) more m = after_join events more (after_event m event)

enabled_join : (events more : List Event) (m : Machine) → AreEnabled m events → AreEnabled (after_all m events) more → AreEnabled m (events ++ more)
enabled_join [] more m h k = k
enabled_join (event ∷ events) more m h k = (h.0, enabled_join events more (after_event m event) h.1 k)

pub runs_join : (m : Machine) (events more : List Event) (P Q : Machine → Type 0) → Runs m events P → ((n : Machine) → P n → Runs n more Q)
    → Runs m (events ++ more) Q
runs_join m events more P Q first then =
    let second : Runs (after_all m events) more Q = then (after_all m events) first.1 in
    (enabled_join events more m first.0 second.0, subst Q (sym (after_join events more m)) second.1)

-- what a part of a run leaves: worker w, each record by what it was, how many times a worker has finished, and all else as before
pub record Leaves (w : ℕ) (a b : Machine) (x : Worker) (change : ℕ → Cell → Cell) (count : ℕ) : Type 0 where
  pub own : worker b w ≡ x
  pub cells : (r : ℕ) → cell b r ≡ change r (cell a r)
  pub finished : b.finished ≡ count
  pub rest : KeepsOthers a b w

pub keeps_itself : (m : Machine) (w : ℕ) → KeepsOthers m m w
keeps_itself m w = record { records = refl; workers = refl; others = λ k h. refl; epoch = refl }

pub keeps_more : (a b c : Machine) (w : ℕ) → KeepsOthers a b w → KeepsOthers b c w → KeepsOthers a c w
keeps_more a b c w first second = record {
  records = second.records ∙ first.records;
  workers = second.workers ∙ first.workers;
  others = λ k h. second.others k h ∙ first.others k h;
  epoch = second.epoch ∙ first.epoch;
}

-- an event of worker w, which leaves it as x
module _ (w : ℕ) (a b : Machine) (x : Worker) (is : b.workers ≡ slice_set a.workers w x) where
  pub becomes : w < length a.workers → worker b w ≡ x
  becomes present = ap (λ (l : List Worker). slice_index_or l w idle_worker) is ∙ get_or-set_same a.workers w x idle_worker present

  pub keeps : length b.records ≡ length a.records → b.epoch ≡ a.epoch → KeepsOthers a b w
  keeps records epoch = record {
    records = records;
    workers = ap (λ (l : List Worker). length l) is ∙ length-set a.workers w x;
    others = λ k h. ap (λ (l : List Worker). slice_index_or l k idle_worker) is ∙ get_or-set_other a.workers w k x idle_worker h;
    epoch = epoch;
  }

-- an event that leaves record r as c
module _ (r : ℕ) (a b : Machine) (c : Cell) (is : b.records ≡ slice_set a.records r c) where
  pub cell_here : r < length a.records → cell b r ≡ c
  cell_here within = ap (λ (l : List Cell). slice_index_or l r no_cell) is ∙ get_or-set_same a.records r c no_cell within

  pub cell_elsewhere : (k : ℕ) → k ≢ r → cell b k ≡ cell a k
  cell_elsewhere k h = ap (λ (l : List Cell). slice_index_or l k no_cell) is ∙ get_or-set_other a.records r k c no_cell h

  pub as_many : length b.records ≡ length a.records
  as_many = ap (λ (l : List Cell). length l) is ∙ length-set a.records r c

-- the first record of a list changes, and then the others
pub sweep : (change : Option (Option (List ℕ)) → Cell → Cell) (old first all : ℕ → Cell) (r : ℕ) (value : Option (List ℕ)) (notes : Writes) → Above r notes
    → ((c : Cell) → change None c ≡ c)
    → first r ≡ change (Some value) (old r) → ((k : ℕ) → k ≢ r → first k ≡ old k) → ((k : ℕ) → all k ≡ change (note_at notes k) (first k))
    → (k : ℕ) → all k ≡ change (note_at ((r, value) ∷ notes) k) (old k)
sweep change old first all r value notes above stays here elsewhere later k = ⊎_elim
    (λ (e : k ≡ r). subst (λ q. all q ≡ change (note_at ((r, value) ∷ notes) q) (old q)) (sym e)
    (later r ∙ ap (λ o. change o (first r)) (held_above r notes above) ∙ stays (first r) ∙ here ∙ ap (λ o. change o (old r)) (sym (held_first r value notes))))
    (λ (e : k ≢ r). later k ∙ (λ i. change (sym (held_later r k value notes e) i) (elsewhere k e i)))
    (cases_eq k r)
