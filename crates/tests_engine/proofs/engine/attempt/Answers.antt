use Rattle.std.proofs.Common.{subst}
use Rattle.tables.specs.Database.{Database}
use Rattle.readset.specs.Refused.{IsRefusal}
use Rattle.book.proofs.Executed.{work_of, refusal_there}
use Rattle.tests_engine.proofs.engine.attempt.Goals as goal

pub confirmed-requires-clause-refusal : goal.confirmed-requires-clause-refusal
confirmed-requires-clause-refusal g c =
    let old = c.args.seat.now.reader in
    let new = c.execute.new.reader in
    let of = c.population-population.ensures in (
      old,
      (
        new,
        refusal_there c.args.input.now old new c.in-Err.refusal of.of_population
            (subst (λ (t0 : Database). IsRefusal t0 c.args.input.now old new c.in-Err.refusal) of.value c.in-Err.ensures.refused),
      ),
    )

pub commit-requires-clause-work : goal.commit-requires-clause-work
commit-requires-clause-work g c =
    let made = c.in-Ok.ensures in
    let of = c.population-population.ensures in
    work_of of.value of.of_population c.cells-cells.ensures.value c.args.input.now c.requires.input c.args.seat.now.reader c.execute.new.reader
    c.in-Ok.work made.input made.explains made.limits made.read
