use Rattle.std.proofs.Common.{◌≡◌, ◌≤◌, ℕ, List, Bool, true, false, sym, ◌∙◌, subst}
use Rattle.std.specs.Bool.{if◌then◌else◌}
use Rattle.std.specs.Result.{is_ok}
use Rattle.std.specs.List.{insert}
use Rattle.std.specs.Ordering.{nat_cmp}
use Rattle.std.specs.Map.{keys_of}
use Rattle.std.specs.List.Sorted.{IsStrictlySortedBy}
use Rattle.readset.proofs.Placed.{Goes, goes, ordered_put}
use Rattle.readset.proofs.few.Few.add.Goals as goal

pub insert-requires : goal.insert-requires
insert-requires g c = subst (λ n. c.args.at ≤ n) (sym c.args.self.now.entries.ok.0)
    (goes c.args.number c.args.self.now.entries.items c.args.at c.args.self.now.ordered c.requires.place).inside

-- with the entry or without it, they stand in order
either : {X : Type 0} (b : Bool) (n at : ℕ) (x : X) (old new : List (ℕ × X)) → new ≡ (if b then insert old at (n, x) else old)
    → IsStrictlySortedBy nat_cmp (keys_of old) → Goes n old at → IsStrictlySortedBy nat_cmp (keys_of new)
either {X} true n at x old new is sorted goes = subst (λ (es : List (ℕ × X)). IsStrictlySortedBy nat_cmp (keys_of es)) (sym (is ∙ goes.put x)) (ordered_put n x old sorted)
either {X} false n at x old new is sorted goes = subst (λ (es : List (ℕ × X)). IsStrictlySortedBy nat_cmp (keys_of es)) (sym is) sorted

pub invariant_of-self : goal.invariant_of-self
invariant_of-self g c = record {
  ordered = either (is_ok c.insert.result) c.args.number c.args.at c.args.value c.args.self.now.entries.items c.insert.new.self.items c.insert.ensures.items
      c.args.self.now.ordered (goes c.args.number c.args.self.now.entries.items c.args.at c.args.self.now.ordered c.requires.place);
}

pub returns : goal.returns
returns g c = c.in-Ok.ensures.items ∙ (goes c.args.number c.args.self.now.entries.items c.args.at c.args.self.now.ordered c.requires.place).put c.args.value
