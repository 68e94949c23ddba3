use Rattle.std.proofs.Common.{◌≤◌, List, subst, sym, ◌∙◌}
use Rattle.std.specs.List.{All}
use Rattle.std.proofs.lemmas.List.Sorted.{All-permutation}
use Rattle.population.specs.Initial.{initial, seed_of}
use Rattle.recover_found.specs.Found.{found}
use Rattle.recover_files.specs.declared.numbering.Commit.{Commit}
use Rattle.recover_files.proofs.Found.{found_positive}
use Rattle.recover_files.proofs.LawfulEntries.{IsPositive}
use Rattle.program_recovery.proofs.Numbering.{each_positive, first_amiss_here}
use Rattle.program_recovery.proofs.gap.first_gap.Goals as goal

pub first_amiss-requires-clause-positive : goal.first_amiss-requires-clause-positive
first_amiss-requires-clause-positive g c =
    let known = c.in_ok-commits.ensures.found in
    let all = All-permutation IsPositive (found known.3) known.5 known.6
    (found_positive (initial c.args.population.now).scale (seed_of c.args.population.now) known.0 known.3 known.4) in
    subst (λ (cs : List Commit). All (λ (k : Commit). 1 ≤ k.number) cs) (sym (c.deref.ensures.value ∙ known.7)) (each_positive known.5 all)

pub returns-clause-gap : goal.returns-clause-gap
returns-clause-gap g c =
    let known = c.in_ok-commits.ensures.found in (
      known.0,
      known.1,
      record {
        version = known.2;
        files = known.3;
        read = known.4;
        amiss = first_amiss_here (found known.3) known.5 known.6 c.first_amiss.result (c.first_amiss.ensures known.5 (c.deref.ensures.value ∙ known.7));
      },
    )
