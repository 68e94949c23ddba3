use Rattle.std.proofs.Common.{◌≡◌, ℕ, List, Option, length, ap, ◌∙◌, arith, rules, subst}
use Rattle.std.specs.Prelude.{MatchOption}
use Rattle.log_header.specs.Header.{HeaderView, header_of_version}
use Rattle.log_text.specs.Bodies.{BodyView}
use Rattle.log_text.specs.File.{IsFile}
use Rattle.log_flaws.specs.Flaws.{HasFlaw}
use Rattle.log_flaws.specs.declared.flaw.FileFlaw.{FileFlaw}
use Rattle.population.specs.Initial.{initial, seed_of}
use Rattle.program_recovery.proofs.Walking.{goes_on, only_reads, whole_file}
use Rattle.program_recovery.proofs.damage.first_damage.Goals as goal

pub loop-logger-preserved : goal.loop-logger-preserved
loop-logger-preserved g c =
    let population = c.args.population.now in
    let version : ℕ = c.in_ok-version.version in
    let today = c.today.inside in
    let asked : HeaderView = header_of_version version today.logger today.loggers today.scale today.seed in
    let is = ap (λ (h : HeaderView). header_of_version version h.logger h.loggers h.scale h.seed)
    (c.today.view_is ∙ c.new-today.ensures.value) in
    let known = c.in_ok-flaw.ensures.flaw in
    let whole : (bodies : List BodyView) × IsFile known.0 asked bodies =
    subst (λ (flaw : Option FileFlaw). MatchOption flaw ((bodies : List BodyView) × IsFile known.0 asked bodies) (HasFlaw known.0 asked)) c.in_default.is known.2 in
    let from : c.from.result ≡ c.loop-logger.logger = search rules in
    record {
      loggers = c.version_asked.ensures.count;
      walked = goes_on c.from.result c.index-disks-from.result c.flaw_on.new.disk c.loop-logger.invariant.walked from (omega arith)
          c.in_ok-flaw.ensures.reads
          (λ given. whole_file version (initial population).scale c.scale.result (seed_of population) c.seed.result c.loop-logger.logger
          (length c.version_asked.new.disks) (length c.args.disks.now) asked is c.scale.ensures c.seed.ensures c.version_asked.ensures.count known.0 _ (known.1 given) whole);
    }

pub returns-in-Some-clause-reads : goal.returns-in-Some-clause-reads
returns-in-Some-clause-reads g c =
    only_reads c.from.result c.index-disks-from.result c.flaw_on.new.disk c.loop-logger.invariant.walked c.in_ok-flaw.ensures.reads
