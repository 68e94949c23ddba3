use Rattle.std.proofs.Common.{rules, ◌≡◌, ℕ, ap, sym, ◌∙◌}
use Rattle.log_header.specs.Header.{HeaderView, header_of_version}
use Rattle.log_text.proofs.OneFile.{one_file}
use Rattle.population.specs.Initial.{initial, seed_of}
use Rattle.recover_found.specs.Found.{bodies_in}
use Rattle.recover_files.proofs.files.read_one.Goals as goal

pub returns-in_err-header-clause-damaged : goal.returns-in_err-header-clause-damaged
returns-in_err-header-clause-damaged g c = λ e.
    let read = c.in_err-header.ensures.damaged (search rules) in
    (read.0, read.1, λ version bodies is. read.2 _ bodies is)

pub returns-then-not-is_of_some_version-clause-damaged : goal.returns-then-not-is_of_some_version-clause-damaged
returns-then-not-is_of_some_version-clause-damaged g c = λ e.
    let population = c.args.population.now in
    let header : ℕ → HeaderView = (λ v. header_of_version v c.args.logger c.args.loggers (initial population).scale
    (seed_of population)) in
    let read = c.in_ok-header.ensures.read in
    let other : c.in_ok-header.header ≡ header c.in_ok-header.header.version → ⊥ = search rules in (
      read.0,
      read.2,
      λ version bodies is.
          let same = (one_file read.0 c.in_ok-header.header (header version) (bodies_in c.in_ok-header.bodies.items) bodies
          read.1 read.3 is).0 in
          other (same ∙ ap header (sym (ap (λ (h : HeaderView). h.version) same))),
    )
