use Rattle.std.proofs.Common.{◌<◌, ℕ, List, sym, subst}
use Rattle.std.specs.Ordering.{nat_cmp}
use Rattle.std.specs.Map.{keys_of}
use Rattle.std.specs.List.Sorted.{IsStrictlySortedBy}
use Rattle.readset.proofs.Placed.{stands, ordered_put}
use Rattle.readset.proofs.few.Few.replace.Goals as goal

pub index_mut-requires : goal.index_mut-requires
index_mut-requires g c = subst (λ n. c.args.at < n) (sym c.args.self.now.entries.ok.0)
    (stands c.args.number c.args.self.now.entries.items c.args.at c.requires).inside

pub invariant_of-self : goal.invariant_of-self
invariant_of-self g c = record {
  ordered = subst (λ (es : List (ℕ × g.row.V.Denot)). IsStrictlySortedBy nat_cmp (keys_of es))
      (sym ((stands c.args.number c.args.self.now.entries.items c.args.at c.requires).put c.args.value))
      (ordered_put c.args.number c.args.value c.args.self.now.entries.items c.args.self.now.ordered);
}

pub returns : goal.returns
returns g c = (stands c.args.number c.args.self.now.entries.items c.args.at c.requires).put c.args.value
