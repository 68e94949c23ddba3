use Rattle.std.proofs.Common.{◌++◌, ℕ, List, Some, Result, Ok, Err, OnErr, map, sym, ap, ◌∙◌, subst}
use Rattle.cells.specs.Records.{IsNarrow, IsWide}
use Rattle.readset.specs.Arrived.{arrived}
use Rattle.readset.specs.Beside.{AreBeside}
use Rattle.readset.specs.Listed.{texts_of}
use Rattle.readset.specs.Writes.{WriteSetView, as_written}
use Rattle.readset.proofs.Sets.{high_put, high_beside}
use Rattle.readset.proofs.writes.WriteSet.put_wide.Goals as goal

pub invariant_of-self : goal.invariant_of-self
invariant_of-self c = subst (λ (es : List (ℕ × List ℕ)). AreBeside IsNarrow IsWide (arrived c.self.inside.values) (map as_written es))
    (sym c.in_err-put.ensures.kept) c.self.invariant

pub invariant_of-self-2 : goal.invariant_of-self-2
invariant_of-self-2 c = high_beside (λ (words : List ℕ). Some words) IsNarrow IsWide (arrived c.self.inside.values) (texts_of c.self.inside.beside) c.args.self.now.values
    (ap (λ (w : WriteSetView). w.values) c.self.view_is) c.args.number c.self.invariant c.requires.above c.args.words.now (texts_of c.put.new.self) c.told-words
    c.in_ok-put.ensures.puts

pub returns-clause-puts : goal.returns-clause-puts
returns-clause-puts c = λ i. record {
  values = high_put (λ (words : List ℕ). Some words) IsNarrow IsWide (arrived c.self.inside.values) (texts_of c.self.inside.beside) c.args.self.now.values
      (ap (λ (w : WriteSetView). w.values) c.self.view_is) c.args.number c.self.invariant c.requires.above c.args.words.now (texts_of c.put.new.self)
      c.in_ok-put.ensures.puts i;
  history_row = (c.in_ok-put.ensures.row ∙ ap (λ (w : WriteSetView). w.history_row) c.self.view_is) i;
}

-- what is so whatever the error
on_either : {X E : Type 0} {P : Type 0} (r : Result X E) → P → OnErr r P
on_either (Ok x) p = tt
on_either (Err e) p = p

pub returns-in_err-put-clause-kept : goal.returns-in_err-put-clause-kept
returns-in_err-put-clause-kept c = on_either c.from_residual.result (λ i. record {
  values = (ap (λ (es : List (ℕ × List ℕ)). arrived c.self.inside.values ++ map as_written es) c.in_err-put.ensures.kept
      ∙ ap (λ (w : WriteSetView). w.values) c.self.view_is) i;
  history_row = (c.in_err-put.ensures.row ∙ ap (λ (w : WriteSetView). w.history_row) c.self.view_is) i;
})
