use Rattle.std.proofs.Common.{◌≡◌, ℕ, ◌++◌, List, map, refl, sym, ap, ◌∙◌, subst}
use Rattle.std.proofs.lemmas.Result.{IfOk-weaker}
use Rattle.std.specs.Arc.{arc_value}
use Rattle.tables.specs.Constant.{IsOf}
use Rattle.tables.specs.Database.{Database, database}
use Rattle.tables.specs.Rows.{rows}
use Rattle.tables.specs.WellFormed.{IsWellFormed}
use Rattle.tables.specs.declared.rows.History.{History}
use Rattle.population.specs.Initial.{initial}
use Rattle.cells.specs.Records.{CellsView, PenView, held_by}
use Rattle.encoding.specs.Held.{IsTableRecord}
use Rattle.encoding.specs.Newest.{AreLawful}
use Rattle.readset.specs.Cells.{AreCellsOf}
use Rattle.book.specs.Book.{BookView, IsSound}
use Rattle.book.specs.History.{replay, rows_added}
use Rattle.book.proofs.Held.{cells_there, lawful_there, are_committed}
use Rattle.book.proofs.book.Book.tables.Goals as goal

-- the run's cells are those of the population's records
are_there : {t0 first : Database} {cells run_cells : CellsView} → first ≡ t0 → cells ≡ run_cells → AreCellsOf t0.scale run_cells → AreCellsOf first.scale cells
are_there a b = subst (λ (q : Database × CellsView). AreCellsOf q.0.scale q.1) (λ j. (sym a j, sym b j))

pub tables_of-requires-clause-narrow : goal.tables_of-requires-clause-narrow
tables_of-requires-clause-narrow g c =
    let kept = c.self.invariant.0 in
    (are_there (ap initial c.deref-3.ensures ∙ kept.population) c.requires (cells_there kept.sound kept.ready kept.become)).narrow

pub tables_of-requires-clause-wide : goal.tables_of-requires-clause-wide
tables_of-requires-clause-wide g c =
    let kept = c.self.invariant.0 in
    (are_there (ap initial c.deref-3.ensures ∙ kept.population) c.requires (cells_there kept.sound kept.ready kept.become)).wide

pub tables_of-requires-clause-lawful : goal.tables_of-requires-clause-lawful
tables_of-requires-clause-lawful g c =
    let kept = c.self.invariant.0 in
    subst (λ (t : Database). AreLawful t.scale (held_by c.self.inside.pen)) (sym (ap initial c.deref-3.ensures ∙ kept.population))
    (lawful_there kept.sound kept.ready kept.become)

-- what is so of the tables made of any parts is so of those made of the book's
are_made : (pen : PenView) {first t0 made : Database} {rows_given rows_here : List History} → first ≡ t0 → rows_given ≡ rows_here
    → ((u : Database) → IsOf first u → IsWellFormed u → ((n : ℕ) → IsTableRecord first.scale n → rows u n ≡ held_by pen n) → u.history ≡ first.history
    ++ rows_given → made ≡ u)
    → (u : Database) → IsOf t0 u → IsWellFormed u → ((n : ℕ) → IsTableRecord t0.scale n → rows u n ≡ held_by pen n) → u.history ≡ t0.history ++ rows_here
    → made ≡ u
are_made pen {made = made} a d =
    subst (λ (q : Database × List History). (u : Database) → IsOf q.0 u → IsWellFormed u
    → ((n : ℕ) → IsTableRecord q.0.scale n → rows u n ≡ held_by pen n) → u.history ≡ q.0.history ++ q.1 → made ≡ u)
    (λ i. (a i, d i))

pub returns-clause-tables : goal.returns-clause-tables
returns-clause-tables g c =
    let kept = c.self.invariant.0 in
    IfOk-weaker c.tables_of.result _ _
    (λ made is. are_committed kept.sound kept.ready kept.become (database made) refl
    (are_made c.self.inside.pen (ap initial c.deref-3.ensures ∙ kept.population)
    (c.deref-4.ensures.value ∙ c.in_ok-added.ensures
    ∙ (λ i. c.deref.ensures.value i ++ rows_added (map arc_value (c.deref-2.ensures.value i)))) is)
    ∙ ap (λ (q : BookView). replay g.K.Run.run.first q.history) c.self.view_is)
    c.tables_of.ensures.is

pub returns-clause-sound : goal.returns-clause-sound
returns-clause-sound g c =
    IfOk-weaker c.tables_of.result _ _
    (λ made is. subst (IsSound g.K.Run.run.past g.K.Run.run.first c.args.self.now.written c.args.self.now.history) (sym is)
    (subst (λ (q : BookView). IsSound g.K.Run.run.past g.K.Run.run.first q.written q.history (replay g.K.Run.run.first q.history)) c.self.view_is
    c.self.invariant.0.sound))
    (returns-clause-tables g c)
