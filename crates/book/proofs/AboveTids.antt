-- The TID that a commit takes.
use Rattle.std.proofs.Common.{◌≡◌, ℕ, ◌+◌, ◌%◌, ◌<◌, ◌≤◌, Option, Some, None, IsSome, is_some, true≢false, List, [], ◌∷◌, ◌++◌, length, refl, sym, ap, ◌∙◌}
use Rattle.std.proofs.Common.{subst, arith}
use Rattle.std.proofs.lemmas.List.Elements.{All-contains}
use Rattle.std.proofs.lemmas.Map.Views.{Contains-from_lookup}
use Rattle.std.specs.Ordering.{nat_cmp, is_eq}
use Rattle.tidword.specs.TidWord.{tid_of}
use Rattle.tidword.specs.Lawful.{IsLawful, next}
use Rattle.tidword.proofs.Sequences.{next-exists}
use Rattle.tables.specs.Database.{Database}
use Rattle.tables.specs.Apply.{after}
use Rattle.tables.specs.declared.limits.TheConstants.{MAX_COMMITS}
use Rattle.cells.specs.Versions.{last_tid}
use Rattle.cells.specs.Records.{CellsView, PenView, ReaderView, at, words_of}
use Rattle.cells.specs.declared.cells.Version.{Version}
use Rattle.cells.proofs.Rising.{last_tid-last}
use Rattle.readset.specs.Reads.{held}
use Rattle.readset.specs.Writes.{value_for}
use Rattle.readset.specs.declared.work.Work.{Work}
use Rattle.readset.proofs.Numbers.{same_number}
use Rattle.book.specs.History.{new_versions}
use Rattle.book.specs.Stamps.{last_of, greatest_tid, tid_for}
use Rattle.book.specs.Book.{IsSound, IsWorkOf, IsRead, AreLatest, entry_of}
use Rattle.book.specs.Ready.{IsReady, IsTidWithin}
use Rattle.book.specs.declared.entry.Entry.{Entry}
use Rattle.book.proofs.Stamped.{all_below, next_within}
use Rattle.book.proofs.Sound.{read_within, next_sound, next_ready}

pub whole : (n : ℕ) → n % 8 ≡ 0 → tid_of n ≡ n
whole n even = omega (arith, even)

module _ {past : ℕ} {t0 : Database} {run_cells : CellsView} {epoch : ℕ} {written : PenView} {history : List Entry} {t : Database}
    (sound : IsSound past t0 written history t) (ready : IsReady past t0 run_cells epoch written history t)
    {reader : ReaderView} {work : Work} (is_work : IsWorkOf t0 run_cells reader work) (latest : AreLatest written.all work.reads)
    (terminal : ℕ) {seen last : ℕ} (is_read : IsRead work.reads seen) (greatest : seen ≡ greatest_tid work.reads) (last_is : last ≡ last_of terminal history) where
  seen_within : IsTidWithin epoch (length history) seen
  seen_within = read_within sound ready is_work latest seen is_read

  last_within : IsTidWithin epoch (length history) last
  last_within = subst (IsTidWithin epoch (length history)) (sym last_is) (ready.terminals terminal)

  -- what is asked of the words that the commit has is what its definition says
  pub same_next : next (tid_of seen) (tid_of last) epoch ≡ tid_for history terminal epoch work.reads
  same_next = λ i. next ((whole seen seen_within.bits ∙ greatest) i) ((whole last last_within.bits ∙ last_is) i) epoch

  -- there is one, as the commit cap isn't passed
  pub there_is : past + length history < t0.scale.commits → next (tid_of seen) (tid_of last) epoch ≡ None → ⊥
  there_is below none = next-exists (length history) seen last epoch
      ((λ i. next (sym (whole seen seen_within.bits) i) (sym (whole last last_within.bits) i) epoch) ∙ none)
      seen_within.in_epoch last_within.in_epoch seen_within.sequence last_within.sequence (few past (length history) t0.scale.commits below ready.few)
    where
      few : (k n cap : ℕ) → k + n < cap → cap ≤ MAX_COMMITS → n < 536870911
      few k n cap p q = omega (arith, p, q)

  module _ (tid : ℕ) (lawful : IsLawful seen last epoch tid) (is : next (tid_of seen) (tid_of last) epoch ≡ Some tid) where
    taken_within : IsTidWithin epoch (length history + 1) tid
    taken_within = next_within epoch (length history) seen last tid seen_within last_within lawful
        ((λ i. next (sym (whole seen seen_within.bits) i) (sym (whole last last_within.bits) i) epoch) ∙ is)

    taken_above_last : last_of terminal history < tid
    taken_above_last = subst (λ n. n < tid) (whole last last_within.bits ∙ last_is) lawful.above_last

    above_seen : greatest_tid work.reads < tid
    above_seen = subst (λ n. n < tid) (whole seen seen_within.bits ∙ greatest) lawful.above_seen

    -- it is larger than the last TID of each record read
    above_read : (n : ℕ) (v : Version) → held work.reads n ≡ Some v → last_tid (at written.all n) < tid
    above_read n v e = smaller (last_tid (at written.all n)) (tid_of v.word) (last_tid-last (at written.all n) (words_of v) (latest n v e))
        (All-contains (λ (e : ℕ × Version). tid_of e.1.word ≤ greatest_tid work.reads) work.reads (n, v) (all_below work.reads)
        (Contains-from_lookup {eq = λ x y. is_eq (nat_cmp x y)} same_number n v work.reads e))
      where
        smaller : (a b : ℕ) → a ≡ b → b ≤ greatest_tid work.reads → a < tid
        smaller a b p q = omega (arith, p, q, above_seen)

    pub taken_above : (n : ℕ) (value : Option (List ℕ)) → value_for work.writes n ≡ Some value → last_tid (at written.all n) < tid
    taken_above n value e = above_some (held work.reads n) refl (is_work.limits.writes_read n value e)
      where
        above_some : (w : Option Version) → held work.reads n ≡ w → IsSome (held work.reads n) → last_tid (at written.all n) < tid
        above_some (Some v) is some = above_read n v is
        above_some None is some = absurd (true≢false (sym some ∙ ap is_some is))

    -- so the book is sound and ready behind a commit that takes it
    pub next_kept : (new : PenView) → past + length history < t0.scale.commits → new.cells ≡ written.cells
        → ((n : ℕ) → at new.all n ≡ at written.all n ++ new_versions tid work.writes.values n)
        → IsSound past t0 new (history ++ entry_of (past + length history + 1) tid terminal work ∷ []) (after t work.input)
        × IsReady past t0 run_cells epoch new (history ++ entry_of (past + length history + 1) tid terminal work ∷ []) (after t work.input)
    next_kept new below cells stores = (
      next_sound sound ready is_work latest terminal tid new below cells taken_within lawful.in_epoch
          taken_above_last taken_above stores,
      next_ready sound ready is_work latest terminal tid new below cells taken_within lawful.in_epoch
          taken_above_last taken_above stores,
    )
