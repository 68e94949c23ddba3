use Rattle.std.proofs.Common.{rules, List, flat_map, subst}
use Rattle.log_text.specs.Entries.{EntryView}
use Rattle.recover_found.specs.Found.{counts_by, counted}
use Rattle.recover_files.specs.Parts.{IsPart}
use Rattle.recover_files.proofs.HalvesOfFiles.{bodies_of, both_entries}
use Rattle.recover_files.proofs.merging.+merges.Goals as goal

pub join-a-requires-after_bounds : goal.join-a-requires-after_bounds
join-a-requires-after_bounds g t c κs within =
    let both = c.in_ok-low.ensures.lawful c.args.scale.now c.requires.lawful in (
      (search rules, (search rules, ((search rules, search rules, both.0), search rules))),
      (search rules, (search rules, ((search rules, search rules, both.1), search rules))),
    )

pub returns : goal.returns
returns g t c =
    let s = c.args.scale.now in
    let f = counted (counts_by c.args.keeps.now) in
    let low = c.in_ok-low.low.items in
    let high = c.in_ok-low.high.items in
    let a : IsPart s (flat_map f (bodies_of low)) c.in_ok-all.all = search rules in
    let b : IsPart s (flat_map f (bodies_of high)) c.in_ok-b.field-0 = search rules in
    subst (λ (es : List EntryView). IsPart s es c.merge.new.self) (both_entries f c.args.files.items low high c.in_ok-low.ensures.whole)
    (c.in_ok-merge.ensures.part s (flat_map f (bodies_of low)) (flat_map f (bodies_of high)) a b)
