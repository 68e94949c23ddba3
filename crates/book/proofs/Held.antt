-- What records hold by their newest versions is what the committed tables have.
use Rattle.std.proofs.Common.{◌≡◌, ◌≢◌, ℕ, ◌+◌, ◌<◌, ◌++◌, List, [], ◌∷◌, Option, sym, ap, ◌∙◌, subst}
use Rattle.tables.specs.Sizes.{Sizes}
use Rattle.tables.specs.Constant.{IsOf}
use Rattle.tables.specs.WellFormed.{IsWellFormed}
use Rattle.tables.specs.Database.{Database}
use Rattle.tables.specs.Records.{record_count, key_of}
use Rattle.tables.specs.Rows.{rows}
use Rattle.cells.specs.First.{first_version}
use Rattle.cells.specs.Versions.{EndsWith, newest}
use Rattle.cells.specs.Records.{CellsView, PenView, at, held_by}
use Rattle.cells.proofs.Rising.{ends_newest}
use Rattle.encoding.specs.Held.{IsTableRecord}
use Rattle.encoding.specs.Newest.{AreLawful}
use Rattle.encoding.proofs.Numbered.{among_all}
use Rattle.encoding.proofs.Values.{lawful_values}
use Rattle.encoding.specs.Puts.{MayHold}
use Rattle.readset.specs.Cells.{AreCellsOf}
use Rattle.tables.specs.declared.rows.History.{History}
use Rattle.book.specs.Base.{HasBecome}
use Rattle.book.specs.History.{replay, rows_added, later_versions}
use Rattle.book.specs.Book.{IsSound}
use Rattle.book.specs.Ready.{IsReady}
use Rattle.book.specs.declared.entry.Entry.{Entry}
use Rattle.book.proofs.Become.{becomes, rows_behind}
use Rattle.book.proofs.Replaying.{replay-history}

never_empty : {X : Type 0} (x : X) (xs : List X) → x ∷ xs ≢ []
never_empty x xs e = cc

module _ {past : ℕ} {t0 : Database} {written : PenView} {history : List Entry} {t : Database} (sound : IsSound past t0 written history t) where
  -- each record has a newest version
  pub has_newest : (n : ℕ) → n < record_count t0.scale → EndsWith (at written.all n) (newest (at written.all n))
  has_newest n h = subst (λ (l : List (List ℕ)). EndsWith l (newest l)) (sym (sound.versions n h))
      (ends_newest _ (never_empty (first_version (rows t0 n)) (later_versions history n)))

  pub value_held : (n : ℕ) → n < record_count t0.scale → held_by written n ≡ rows t n
  value_held n h = sound.latest n h (newest (at written.all n)) (has_newest n h)

  module _ {run_cells : CellsView} {epoch : ℕ} (ready : IsReady past t0 run_cells epoch written history t) where
    -- they may be held
    lawful : AreLawful t0.scale (held_by written)
    lawful n h =
        let scale : t.scale ≡ t0.scale = ready.of_population.scale in
        subst (λ (q : Sizes × Option (List ℕ)). MayHold q.0 (key_of q.0 n) q.1) (λ i. (scale i, sym (value_held n (among_all t0.scale n h)) i))
        (lawful_values t sound.well_formed n (subst (λ (s : Sizes). IsTableRecord s n) (sym scale) h))

    -- so too at the population that the first tables have become, and tables that are told by them and the population's
    -- HISTORY, with these rows and then those that were added, are the committed ones
    module _ {population : Database} {rows_here : List History} (become : HasBecome population t0 rows_here) where
      pub cells_there : AreCellsOf population.scale run_cells
      cells_there = subst (λ (s : Sizes). AreCellsOf s run_cells) become.of_population.scale ready.count

      pub lawful_there : AreLawful population.scale (held_by written)
      lawful_there = subst (λ (s : Sizes). AreLawful s (held_by written)) become.of_population.scale lawful

      pub are_committed : (made : Database) → replay t0 history ≡ t
          → ((u : Database) → IsOf population u → IsWellFormed u
          → ((n : ℕ) → IsTableRecord population.scale n → rows u n ≡ held_by written n)
          → u.history ≡ population.history ++ (rows_here ++ rows_added history) → made ≡ u) → made ≡ t
      are_committed made is one = one t (becomes become.of_population ready.of_population) sound.well_formed
          (subst (λ (s : Sizes). (n : ℕ) → IsTableRecord s n → rows t n ≡ held_by written n) become.of_population.scale
          (λ n h. sym (value_held n (among_all t0.scale n h))))
          (rows_behind t (rows_added history) become
          (ap (λ (u : Database). u.history) (sym is) ∙ replay-history (past + 1) t0 history sound.legal.replays))
