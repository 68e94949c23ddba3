-- A machine that shows the book.
use Rattle.std.proofs.Common.{◌≡◌, ℕ, ◌+◌, ◌<◌, List, [], ◌∷◌, ◌++◌, length, replicate, map, refl, sym, ap, ◌∙◌, arith}
use Rattle.std.specs.Prelude.{slice_index, slice_index_or}
use Rattle.std.proofs.Math.Seq.{get_or-append_seam}
use Rattle.std.proofs.lemmas.List.{length-append, length-replicate}
use Rattle.std.specs.List.{range_with_len}
use Rattle.std.proofs.lemmas.List.FromFn.{get_or-map-range_with_len, length-map-range_with_len}
use Rattle.commit.specs.Machine.{Machine, Worker, idle_worker, note_at, worker}
use Rattle.commit.specs.declared.worker.Cell.{Cell}
use Rattle.commit.specs.declared.worker.Phase.TheVariants.{Begun}
use Rattle.cells.specs.Versions.{newest, value_in}
use Rattle.cells.specs.Records.{at, cell_count}
use Rattle.cells.proofs.Rising.{newest-push}
use Rattle.readset.specs.Reads.{ReadSetView}
use Rattle.book.specs.Stamps.{last_of}
use Rattle.book.specs.Book.{BookView}
use Rattle.book.specs.Shows.{reads_of, Mirrors}

abbrev cell_of : List ℕ → Cell
cell_of v = record { word = slice_index v 0; value = value_in v }

from_zero : (n : ℕ) → 0 + n ≡ n
from_zero n = omega arith

module _ (k : BookView) (terminal epoch : ℕ) (read : ReadSetView) (w : ℕ) where
  abbrev begun : Worker
  begun = record { phase = Begun; reads = reads_of read; validated = []; locks = []; epoch = 0; last = last_of terminal k.history }

  abbrev record_of : ℕ → Cell
  record_of n = cell_of (newest (at k.written.all n))

  abbrev machine : Machine
  machine = record {
    records = map record_of (range_with_len 0 (cell_count k.written.cells));
    workers = replicate w idle_worker ++ begun ∷ [];
    epoch = epoch;
    finished = 0;
  }

  own : worker machine w ≡ begun
  own = ap (λ n. slice_index_or (replicate w idle_worker ++ begun ∷ []) n idle_worker) (sym (length-replicate w idle_worker))
      ∙ get_or-append_seam (replicate w idle_worker) begun [] idle_worker

  small : w < length (replicate w idle_worker ++ begun ∷ [])
  small = within (length-append (replicate w idle_worker) (begun ∷ []) ∙ ap (λ n. n + 1) (length-replicate w idle_worker))
    where
      within : {n : ℕ} → n ≡ w + 1 → w < n
      within h = omega (arith, h)

  pub shown : (m : Machine) × Mirrors k terminal epoch read m w
  shown = (
    machine,
    record {
      records = record {
        count = length-map-range_with_len record_of 0 (cell_count k.written.cells);
        newest = λ n h v e. get_or-map-range_with_len record_of 0 (cell_count k.written.cells) n n _ h (from_zero n)
            ∙ ap (λ (l : List (List ℕ)). cell_of (newest l)) e.1 ∙ ap cell_of (newest-push e.0 v);
      };
      present = small;
      begun = ap (λ (x : Worker). x.phase) own;
      lockless = ap (λ (x : Worker). x.locks) own;
      reads = λ r. ap (λ (x : Worker). note_at x.reads r) own;
      last = ap (λ (x : Worker). x.last) own;
      in_epoch = refl;
    },
  )
