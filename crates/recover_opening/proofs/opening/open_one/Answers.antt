use Rattle.std.proofs.Common.{◌≡◌, List, ℕ, IfErr, Err, refl, sym, ap, ◌∙◌, subst, rules}
use Rattle.money.specs.declared.refusal.Refusal.TheVariants.{Damaged}
use Rattle.log_header.specs.Header.{HeaderView, header_view}
use Rattle.log_text.specs.Bodies.{BodyView}
use Rattle.log_text.specs.File.{IsFile}
use Rattle.log_text.proofs.OneFile.{one_file}
use Rattle.logfile.proofs.Refusing.{is_synced}
use Rattle.population.specs.Initial.{initial, seed_of}
use Rattle.recover_found.specs.Found.{bodies_in}
use Rattle.recover_opening.proofs.opening.open_one.Goals as goal

pub returns-in_err-file-clause-damaged : goal.returns-in_err-file-clause-damaged
returns-in_err-file-clause-damaged g c = λ modelled.
    let header : HeaderView = header_view c.args.logger c.args.loggers (initial c.args.population.now).scale (seed_of c.args.population.now) in
    let same : c.from_residual.result ≡ Err c.in_err-file.field-0.0 = search rules in
    subst (λ r. IfErr r (λ refused. refused.refusal ≡ Damaged → (bodies : List BodyView) → IsFile (g.D.Disk.seen c.args.disk) header bodies → ⊥))
    (sym same)
    (λ e bodies is. c.in_err-file.ensures.damaged modelled e header bodies refl is)

-- a file of another header is none of this one
pub returns-then-not-is_of-clause-damaged : goal.returns-then-not-is_of-clause-damaged
returns-then-not-is_of-clause-damaged g c = λ modelled e bodies is.
    let population = c.args.population.now in
    let header : HeaderView = header_view c.args.logger c.args.loggers (initial population).scale (seed_of population) in
    let read = c.in_ok-file.ensures.read in
    let other : c.in_ok-file.file.header ≡ header → ⊥ = search rules in
    other
    (one_file read.0 c.in_ok-file.file.header header (bodies_in c.in_ok-file.bodies.items) bodies read.1.0 read.1.2.is
    (subst (λ (b : List ℕ). IsFile b header bodies) (sym (read.1.1 modelled)) is)).0

pub returns-then-not-is_of-clause-given_back : goal.returns-then-not-is_of-clause-given_back
returns-then-not-is_of-clause-given_back g c = record {
  unwritten = is_synced
      (λ modelled. ap g.D.Disk.seen c.into_disk.ensures ∙ (c.in_ok-file.ensures.synced modelled).0)
      (λ modelled. ap g.D.Disk.story c.into_disk.ensures ∙ (c.in_ok-file.ensures.synced modelled).1);
  failed = λ is. search (rules, is);
  not_failed = λ _. ap g.D.Disk.failed c.into_disk.ensures ∙ c.in_ok-file.ensures.none_failed;
}
