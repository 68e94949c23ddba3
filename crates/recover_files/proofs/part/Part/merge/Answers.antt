use Rattle.std.proofs.Common.{◌++◌, Option, sym, ◌∙◌, subst}
use Rattle.std.proofs.lemmas.List.{map-append}
use Rattle.recover_newest.specs.Known.{known}
use Rattle.recover_newest.specs.declared.latest.Latest.{Latest}
use Rattle.recover_files.specs.Parts.{IsKnown, commit_of}
use Rattle.recover_files.proofs.Knowing.{known_joined}
use Rattle.recover_files.proofs.part.Part.merge.Goals as goal

pub returns-clause-part : goal.returns-clause-part
returns-clause-part c = λ s es more part other. record {
  records = c.in_ok-merge.ensures.records ∙ part.records;
  known = λ n.
      subst (λ (o : Option Latest). IsKnown s (es ++ more) n o) (sym (c.in_ok-merge.ensures.merged n))
      (known_joined s n es more (known c.args.self.now.newest n) (known c.args.other.newest n) (part.known n) (other.known n));
  commits = c.in_ok-append.ensures.items ∙ (λ i. part.commits i ++ other.commits i) ∙ sym (map-append commit_of es more);
}
