use Rattle.std.proofs.Common.{◌∙◌, ap, sym, codes, Some, List, ℕ}
use Rattle.clap.specs.Words.{found_of}
use Rattle.clap.proofs.WalkLemmas.{first_value-rows}
use Rattle.program_options.proofs.words.folder_given.Goals as goal

pub returns-in_ok-from_str-in-Some-clause-given : goal.returns-in_ok-from_str-in-Some-clause-given
returns-in_ok-from_str-in-Some-clause-given c =
    sym (first_value-rows (found_of c.args.given.now) (codes "logs"))
    ∙ (sym c.in-Some.ensures ∙ ap (λ (t : List ℕ). Some t) (sym c.in_ok-from_str-in-Some.ensures.ok))
