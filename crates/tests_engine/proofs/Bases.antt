-- What an engine that began with its population's tables leaves is what another may begin with.
use Rattle.std.proofs.Common.{◌≡◌, ℕ, ◌+◌, ◌-◌, ◌≤◌, ◌++◌, List, length, drop, sym, ap, ◌∙◌, subst}
use Rattle.std.proofs.Math.Seq.{drop-append_seam}
use Rattle.tables.specs.Constant.{IsOf}
use Rattle.tables.specs.Database.{Database}
use Rattle.tables.specs.Sizes.{Sizes}
use Rattle.tables.specs.WellFormed.{HasRoom}
use Rattle.tables.specs.declared.limits.TheConstants.{MAX_COMMITS}
use Rattle.tables.specs.declared.rows.History.{History}
use Rattle.cells.specs.Records.{PenView}
use Rattle.book.specs.Base.{MayBegin}
use Rattle.book.specs.Book.{IsSound}
use Rattle.book.specs.History.{rows_added}
use Rattle.book.specs.declared.entry.Entry.{Entry}
use Rattle.book.proofs.Replaying.{replay-IsOf, replay-history}

pub may_begin : {past : ℕ} {t0 t : Database} {pen : PenView} {history : List Entry} → IsSound past t0 pen history t → {first commits : ℕ}
    → first ≡ length t0.history → {rows : List History} → rows ≡ drop first t.history → HasRoom (MAX_COMMITS - commits) t → commits ≤ t0.scale.commits
    → MayBegin t0 t rows commits
may_begin {past} {t0} {t} {history = history} sound {first} {commits} many {rows} are room below =
    let of = subst (IsOf t0) sound.legal.end (replay-IsOf t0 history) in
    let here : t.history ≡ t0.history ++ rows_added history = ap (λ (u : Database). u.history) (sym sound.legal.end)
    ∙ replay-history (past + 1) t0 history sound.legal.replays in
    let behind : rows ≡ rows_added history = are ∙ (λ i. drop (many i) (here i)) ∙ drop-append_seam t0.history (rows_added history) in
    record {
      become = record { of_population = of; history = here ∙ ap (λ l. t0.history ++ l) (sym behind) };
      well_formed = sound.well_formed;
      consistent = sound.consistent;
      room = room;
      cap = subst (λ (s : Sizes). commits ≤ s.commits) (sym of.scale) below;
    }
