use Rattle.std.proofs.Common.{rules, ◌≡◌, length, ap, ◌∙◌}
use Rattle.std.proofs.lemmas.List.{length-map}
use Rattle.recover_found.specs.Found.{found}
use Rattle.recover_files.specs.Parts.{commit_of}
use Rattle.recover_files.proofs.recovering.settled.Goals as goal

pub rebuilt-requires : goal.rebuilt-requires
rebuilt-requires c = let merged = c.requires.merged in record { part = (found merged.0, merged.1.part, merged.1.lawful) }

pub returns-in_err-tables-clause-gap : goal.returns-in_err-tables-clause-gap
returns-in_err-tables-clause-gap c = λ files merged err. c.rebuilt.ensures.gap (search rules) (found files) merged.part

pub returns-clause-recovered : goal.returns-clause-recovered
returns-clause-recovered c = λ files merged.
    let count : c.len-commits.result ≡ length c.args.part.commits.items = search rules in
    record {
      rebuilt = c.in_ok-tables.ensures.rebuilt (found files) merged.part merged.lawful;
      commits = count ∙ (ap length merged.part.commits ∙ length-map (found files) commit_of);
      durable = merged.durable_is;
    }
