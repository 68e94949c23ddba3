use Rattle.std.proofs.Common.{◌≡◌, ℕ, List, [], ◌∷◌, ◌++◌, length, Vec, Global, OnOk, sym, ap, ◌∙◌, subst, arith, rules}
use Rattle.std.proofs.lemmas.List.{length-map}
use Rattle.std.proofs.lemmas.Grind.{common_steps}
use Rattle.std.specs.Arc.{arc_value}
use Rattle.log_disk.specs.Crashes.{LeavesOnly}
use Rattle.log_text.specs.Bodies.{BodyView, body_text}
use Rattle.log_entries.specs.Following.{Continues, body_of_batch}
use Rattle.logfile.specs.Standing.{LogFileView, Stands, IsWithOrWithout}
use Rattle.logfile.proofs.Appending.{no_call, batch_body, batch_counts, batch_epoch}
use Rattle.logfile.proofs.log_file.LogFile.append.Goals as goal

pub returns-in_err-now : goal.returns-in_err-now
returns-in_err-now g c = record {
  header = search rules;
  ok = search rules;
  end = search rules;
  none_failed = search rules;
  added = search rules;
  moments = λ modelled.
      subst (λ (v : LogFileView _). (bodies : List BodyView) → Stands v.header bodies v.end v.last (g.D.Disk.seen v.disk) (g.D.Disk.story v.disk)
      → LeavesOnly (IsWithOrWithout v.header bodies (body_of_batch c.args.batch.now)) (g.D.Disk.story v.disk) (g.D.Disk.story c.self.inside.disk))
      c.self.view_is
      (λ bodies s. no_call _ bodies _ _ _ _ _ s);
  calls = search rules;
  memory = search rules;
  device = search rules;
  refuses = search rules;
  cause = search rules;
  others = search rules;
}

pub add-result-requires-clause-body : goal.add-result-requires-clause-body
add-result-requires-clause-body g c =
    let at : Continues c.self.inside.header c.self.inside.count c.self.inside.number c.self.inside.last c.args.batch.now
    = subst (λ (v : LogFileView _). Continues v.header v.count v.number v.last c.args.batch.now) (sym c.self.view_is) c.requires in
    let text : c.deref.result.now ≡ body_text (body_of_batch c.args.batch.now) ++ 0 ∷ []
    = c.deref.ensures.value ∙ ap (λ (v : Vec ℕ Global). v.items) c.replace-text.ensures.value ∙ c.in_ok-now.ensures.text
    ∙ ap (λ (l : List ℕ). l ++ (body_text (body_of_batch c.args.batch.now) ++ 0 ∷ [])) c.clear.ensures.items in
    let lawful = batch_body _ _ _ _ _ _ c.self.invariant.header c.self.invariant.version c.entries.ensures.lawful at c.self.invariant.near c.in_ok-now.ensures.last in
    (body_of_batch c.args.batch.now, text, lawful)

pub add-result-requires-clause-count : goal.add-result-requires-clause-count
add-result-requires-clause-count g c =
    let at : Continues c.self.inside.header c.self.inside.count c.self.inside.number c.self.inside.last c.args.batch.now
    = subst (λ (v : LogFileView _). Continues v.header v.count v.number v.last c.args.batch.now) (sym c.self.view_is) c.requires in
    let size : length c.entries.result.now ≡ length c.args.batch.now.entries
    = sym (length-map c.entries.result.now arc_value) ∙ ap length c.entries.ensures.entries in
    batch_counts _ _ _ _ _ _ _ c.entries.ensures.lawful at c.self.invariant.counts size c.in_ok-now.ensures.rises

pub add-result-requires-clause-epoch : goal.add-result-requires-clause-epoch
add-result-requires-clause-epoch g c =
    let at : Continues c.self.inside.header c.self.inside.count c.self.inside.number c.self.inside.last c.args.batch.now
    = subst (λ (v : LogFileView _). Continues v.header v.count v.number v.last c.args.batch.now) (sym c.self.view_is) c.requires in
    batch_epoch _ _ _ _ _ _ c.entries.ensures.lawful at c.self.invariant.near c.in_ok-now.ensures.last

pub returns : goal.returns
returns g c =
    let at : Continues c.self.inside.header c.self.inside.count c.self.inside.number c.self.inside.last c.args.batch.now
    = subst (λ (v : LogFileView _). Continues v.header v.count v.number v.last c.args.batch.now) (sym c.self.view_is) c.requires in
    let text : c.deref.result.now ≡ body_text (body_of_batch c.args.batch.now) ++ 0 ∷ []
    = c.deref.ensures.value ∙ ap (λ (v : Vec ℕ Global). v.items) c.replace-text.ensures.value ∙ c.in_ok-now.ensures.text
    ∙ ap (λ (l : List ℕ). l ++ (body_text (body_of_batch c.args.batch.now) ++ 0 ∷ [])) c.clear.ensures.items in
    let lawful = batch_body _ _ _ _ _ _ c.self.invariant.header c.self.invariant.version c.entries.ensures.lawful at c.self.invariant.near c.in_ok-now.ensures.last in
    let old : (bodies : List BodyView) → Stands c.args.self.now.header bodies c.args.self.now.end c.args.self.now.last (g.D.Disk.seen c.args.self.now.disk) (g.D.Disk.story c.args.self.now.disk)
    → Stands c.self.inside.header bodies c.self.inside.end c.self.inside.last (g.D.Disk.seen c.self.inside.disk) (g.D.Disk.story c.self.inside.disk)
    = (λ bodies s. subst (λ (v : LogFileView _). Stands v.header bodies v.end v.last (g.D.Disk.seen v.disk) (g.D.Disk.story v.disk)) (sym c.self.view_is) s) in
    record {
      header = search rules;
      ok = first_of (search rules, grind (arith, common_steps));
      end = first_of (search rules, grind (arith, common_steps));
      none_failed = first_of (search rules, grind (arith, common_steps));
      added = λ modelled bodies s.
          subst (λ (v : LogFileView _). OnOk c.add-result.result
          (Stands v.header (bodies ++ body_of_batch c.args.batch.now ∷ []) v.end v.last (g.D.Disk.seen v.disk) (g.D.Disk.story v.disk)))
          (sym c.self-2.view_is)
          (c.add-result.ensures.added modelled bodies (body_of_batch c.args.batch.now) (old bodies s) text lawful);
      moments = λ modelled bodies s.
          let moments = c.add-result.ensures.moments modelled bodies (body_of_batch c.args.batch.now) (old bodies s) text lawful in
          subst (λ (v : LogFileView _). LeavesOnly (IsWithOrWithout v.header bodies (body_of_batch c.args.batch.now)) (g.D.Disk.story v.disk) (g.D.Disk.story c.self-2.inside.disk))
          c.self.view_is
          (subst (λ (v : LogFileView _). LeavesOnly (IsWithOrWithout c.self.inside.header bodies (body_of_batch c.args.batch.now)) (g.D.Disk.story c.self.inside.disk)
          (g.D.Disk.story v.disk))
          (sym c.self-2.view_is) moments);
      calls = first_of (search rules, grind (arith, common_steps));
      memory = first_of (search rules, grind (arith, common_steps));
      device = first_of (search rules, grind (arith, common_steps));
      refuses = first_of (search rules, grind (arith, common_steps));
      cause = first_of (search rules, grind (arith, common_steps));
      others = first_of (search rules, grind (arith, common_steps));
    }
