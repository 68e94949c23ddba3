use Rattle.std.proofs.Common.{◌≡◌, ℕ, ◌∙◌, ap, arith, length, map, subst, sym}
use Rattle.std.proofs.KnownBytes.{Appends-nil}
use Rattle.std.proofs.lemmas.List.{length-map}
use Rattle.tables.specs.Database.{Database}
use Rattle.book.specs.Parts.{loggers_of}
use Rattle.program_run.specs.Outfit.{AreLogsOf}
use Rattle.program_run.specs.Told.{IsBroken, refusal_in, unrun}
use Rattle.program_run.specs.declared.driving.RunPlan.{RunPlan}
use Rattle.program_live.specs.Live.{broken, unmade}
use Rattle.program_live.proofs.live.run_on.Goals as goal

pub returns-in-Err-created-clause-halted : goal.returns-in-Err-created-clause-halted
returns-in-Err-created-clause-halted g c = λ known why.
    broken (unrun c.in-Err-created.ensures.cause (Appends-nil (g.W.Write.contents c.args.output.now))) why

pub returns-in-Err-give_names-clause-halted : goal.returns-in-Err-give_names-clause-halted
returns-in-Err-give_names-clause-halted g c = unmade c.in-Err-give_names.ensures.unready (Appends-nil (g.W.Write.contents c.args.output.now))

pub new-requires-clause-loggers : goal.new-requires-clause-loggers
new-requires-clause-loggers g c =
    let same = length-map c.in-Ok-created.logs.items (λ log. log.inner) in
    let count = c.in-Ok-created.ensures.logs.count in
    let slots = c.in-Ok.ensures.slots in
    let disks = ap length c.deref_mut.ensures.value in (
      omega (arith, same, count, slots, disks, c.requires, c.len.ensures, c.args.options.now.loggers.0),
      omega (arith, same, count, slots, disks, c.requires, c.len.ensures, c.args.options.now.loggers.1),
    )

pub returns-in-Err-drive-clause-halted : goal.returns-in-Err-drive-clause-halted
returns-in-Err-drive-clause-halted g c = λ known why.
    let w = g.W.Write.contents c.args.output.now in
    let refusal = refusal_in c.in-Err-drive.broken in
    let parts = c.in-Ok-new.ensures.parts in
    broken (subst (λ (q : ℕ × Database × RunPlan). IsBroken q.0 q.1 q.2.terminals q.2.inputs w (g.W.Write.contents c.drive.new.writer) refusal)
    (λ i. (parts.past_is i, parts.first_is i, c.plan_of.ensures i)) c.in-Err-drive.ensures.broken.is) why

pub returns-in-Err-new-clause-halted : goal.returns-in-Err-new-clause-halted
returns-in-Err-new-clause-halted g c = λ known why.
    broken (unrun (λ not. absurd (not c.in-Err-new.ensures.only_memory)) (Appends-nil (g.W.Write.contents c.args.output.now))) why

pub drive-requires-clause-logs : goal.drive-requires-clause-logs
drive-requires-clause-logs g c κs within =
    let same = length-map c.in-Ok-created.logs.items (λ log. log.inner) in
    let logs = c.in-Ok-created.ensures.logs in
    let parts = c.in-Ok-new.ensures.parts in
    let all : length (map (λ log. log.inner) c.in-Ok-created.logs.items) ≡ loggers_of c.in-Ok-new.parts =
    omega (arith, same, c.len.ensures, parts.loggers_are) in
    subst (λ (q : ℕ × ℕ). AreLogsOf q.0 q.1 (map (λ log. log.inner) c.in-Ok-created.logs.items))
    (λ i. ((sym logs.count ∙ all) i, sym parts.base_is i)) logs
