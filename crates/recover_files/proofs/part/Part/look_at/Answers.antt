use Rattle.std.proofs.Common.{Bool, cond, List, [], ◌∷◌, ◌++◌, OnOk, subst}
use Rattle.log_text.specs.Entries.{EntryView, logged}
use Rattle.recover_files.specs.Parts.{IsPart}
use Rattle.recover_files.proofs.part.Part.look_at.Goals as goal

pub returns-clause-part : goal.returns-clause-part
returns-clause-part c =
    let s = c.args.scale.now in
    subst (λ (b : Bool). OnOk c.add.result ((es : List EntryView) → IsPart s es c.args.self.now
    → IsPart s (es ++ cond {A = List EntryView} b (logged c.args.entry ∷ []) []) c.add.new.self)) c.if-not-is_counted.ensures c.add.ensures.part
