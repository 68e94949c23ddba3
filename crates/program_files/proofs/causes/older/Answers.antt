use Rattle.std.proofs.Common.{refl}
use Rattle.money.specs.declared.refusal.Refusal.TheVariants.{Damaged}
use Rattle.population.specs.Initial.{initial, seed_of}
use Rattle.program_recovery.specs.declared.damage.AskedVersion.TheVariants as asked
use Rattle.program_files.specs.Causes.{Older}
use Rattle.program_files.specs.Logs.{IsWhy, older, path_of}
use Rattle.program_files.specs.declared.fault.Purpose.TheVariants.{Append}
use Rattle.program_files.proofs.Flawed.{why_flawed}
use Rattle.program_files.proofs.Seen.{of_view}
use Rattle.program_files.proofs.causes.older.Goals as goal

pub returns-in-Ok-Some : goal.returns-in-Ok-Some
returns-in-Ok-Some c =
    let known = rw c.in-Ok-Some.field-0-is at c.in-Ok-Some.ensures.damage in
    why_flawed asked.First Append c.args.files.now (initial c.args.population.now).scale (seed_of c.args.population.now) _ known.0 known.1
    c.in-Ok-Some.damage refl c.requires.loggers known.4 c.flawed.result c.flawed.ensures

pub returns-in-Ok-None : goal.returns-in-Ok-None
returns-in-Ok-None c =
    let files = c.args.files.now in
    let damage = c.args.damage.0 in
    let version = c.args.damage.1 in
    of_view (IsWhy Append files (initial c.args.population.now).scale (seed_of c.args.population.now) Damaged) (Older (path_of files damage.logger) version)
    (older damage version refl refl c.requires.damage refl) c.older_file.result c.older_file.ensures
