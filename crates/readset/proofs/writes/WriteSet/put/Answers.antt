use Rattle.std.proofs.Common.{ℕ, List, Option, Some, sym, ap, ◌∙◌, rules}
use Rattle.std.specs.Ordering.{nat_cmp}
use Rattle.std.specs.BTreeMap.{insert_entry}
use Rattle.cells.specs.Records.{IsNarrow, IsWide}
use Rattle.readset.specs.Arrived.{arrived}
use Rattle.readset.specs.Listed.{texts_of}
use Rattle.readset.specs.Writes.{WriteSetView}
use Rattle.readset.proofs.Placed.{goes}
use Rattle.readset.proofs.Sets.{low_put, low_beside}
use Rattle.readset.proofs.writes.WriteSet.put.Goals as goal

pub make_room-requires : goal.make_room-requires
make_room-requires c =
    let values = c.self.inside.values in
    (goes c.args.number (arrived values) c.in-Err.at values.sound.sorted (sym c.find.ensures ∙ c.in-Err.is)).inside

pub invariant_of-self : goal.invariant_of-self
invariant_of-self c =
    low_beside (λ (words : List ℕ). Some words) IsNarrow IsWide (arrived c.self.inside.values) (texts_of c.self.inside.beside) c.args.self.now.values
    (ap (λ (w : WriteSetView). w.values) c.self.view_is) c.args.number c.self.invariant c.requires.below c.args.value (arrived c.replace.new.self) (search rules)
    c.in_ok-replace-in-Ok.ensures.replaced

pub invariant_of-self-in-Err : goal.invariant_of-self-in-Err
invariant_of-self-in-Err c =
    low_beside (λ (words : List ℕ). Some words) IsNarrow IsWide (arrived c.self.inside.values) (texts_of c.self.inside.beside) c.args.self.now.values
    (ap (λ (w : WriteSetView). w.values) c.self.view_is) c.args.number c.self.invariant c.requires.below c.args.value (arrived c.add.new.self) (search rules)
    (c.add.ensures ∙ ap (λ (es : List (ℕ × Option (List ℕ))). insert_entry nat_cmp es c.args.number c.args.value) c.make_room.ensures.same)

pub returns-in_ok-replace-in-Ok-clause-puts : goal.returns-in_ok-replace-in-Ok-clause-puts
returns-in_ok-replace-in-Ok-clause-puts c = λ i. record {
  values = low_put (λ (words : List ℕ). Some words) IsNarrow IsWide (arrived c.self.inside.values) (texts_of c.self.inside.beside) c.args.self.now.values
      (ap (λ (w : WriteSetView). w.values) c.self.view_is) c.args.number c.self.invariant c.requires.below c.args.value (arrived c.replace.new.self)
      c.in_ok-replace-in-Ok.ensures.replaced i;
  history_row = ap (λ (w : WriteSetView). w.history_row) c.self.view_is i;
}

pub returns-in_ok-make_room-in-Err-clause-puts : goal.returns-in_ok-make_room-in-Err-clause-puts
returns-in_ok-make_room-in-Err-clause-puts c = λ i. record {
  values = low_put (λ (words : List ℕ). Some words) IsNarrow IsWide (arrived c.self.inside.values) (texts_of c.self.inside.beside) c.args.self.now.values
      (ap (λ (w : WriteSetView). w.values) c.self.view_is) c.args.number c.self.invariant c.requires.below c.args.value (arrived c.add.new.self)
      (c.add.ensures ∙ ap (λ (es : List (ℕ × Option (List ℕ))). insert_entry nat_cmp es c.args.number c.args.value) c.make_room.ensures.same) i;
  history_row = ap (λ (w : WriteSetView). w.history_row) c.self.view_is i;
}
