use Rattle.std.proofs.Common.{◌≡◌, ℕ, List, map, Option, Some, None, IfSome}
use Rattle.std.proofs.lemmas.Result.{IfOk-weaker}
use Rattle.tables.specs.Database.{database}
use Rattle.population.specs.Initial.{initial, seed_of}
use Rattle.recover_files.specs.Recovered.{IsRecovery}
use Rattle.recover_files.specs.declared.recovering.Recovered.{Recovered}
use Rattle.program_recovery.specs.Far.{IsBeyond}
use Rattle.program_recovery.specs.declared.far.Beyond.{Beyond}
use Rattle.program_recovery.proofs.far.beyond_reach.Goals as goal

each : (P Q : Beyond → Type 0) → ((b : Beyond) → P b → Q b) → (found : Option Beyond) → IfSome found P → IfSome found Q
each P Q so None is = tt
each P Q so (Some b) is = so b is

pub returns-clause-beyond : goal.returns-clause-beyond
returns-clause-beyond g c =
    let t0 = initial c.args.population.now in
    let seed = seed_of c.args.population.now in
    let r = c.in_ok-recovered.recovered in
    let answer = c.in_ok-recovered.ensures.answer in
    let of_it : Beyond → Type 0 = λ b. (strings : List (List ℕ)) × (g.D.Disk.is_modelled → strings ≡ map g.D.Disk.seen c.args.disks.now)
    × (x : Recovered) × IsRecovery t0 seed strings x × IsBeyond x.commits (database x.tables) b in
    IfOk-weaker c.beyond_in.result (λ found. IfSome found (IsBeyond r.commits (database r.tables))) (λ found. IfSome found of_it)
    (λ found is. each (IsBeyond r.commits (database r.tables)) of_it (λ b beyond. (answer.0, answer.1, r, answer.2, beyond)) found is) c.beyond_in.ensures
