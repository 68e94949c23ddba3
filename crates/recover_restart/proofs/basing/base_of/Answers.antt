use Rattle.std.proofs.Common.{rules, ap, ◌≤◌, ℕ, List, length, map, sym, subst, arith}
use Rattle.tables.specs.Database.{database}
use Rattle.tables.specs.Sizes.{Sizes, IsScale}
use Rattle.log_header.specs.declared.header.TheConstants.{VERSION}
use Rattle.log_text.specs.Bodies.{BodyView}
use Rattle.population.specs.Initial.{initial, seed_of}
use Rattle.recover_found.specs.Found.{bodies_in, found}
use Rattle.recover_sound.specs.Sound.{AreSoundTables}
use Rattle.recover_restart.proofs.basing.base_of.Goals as goal

pub admitted-requires : goal.admitted-requires
admitted-requires c =
    let files : List (List BodyView) = map (λ bodies. bodies_in bodies.items) c.args.files.items in
    let of_files = c.in_ok-recovered.ensures.recovered in
    let few : length (found files) ≤ (initial c.args.population.now).scale.commits
    = c.recovered_commits_are_within_the_cap.ensures (initial c.args.population.now).scale (seed_of c.args.population.now)
    c.requires.0 files c.requires.1 (of_files.rebuilt.commits, of_files.rebuilt.in_order) in
    let limits : IsScale c.scale-scale.result = search rules in
    omega (arith, few, of_files.commits, ap (λ (s : Sizes). s.commits) c.scale-scale.ensures, limits.commits)

pub returns-clause-damaged : goal.returns-clause-damaged
returns-clause-damaged c = λ e.
    let of_files = c.in_ok-recovered.ensures.recovered in (
      search rules,
      record {
        tables = database c.in_ok-recovered.recovered.tables;
        rebuilt = of_files.rebuilt;
        unsound = λ sound. c.admitted.ensures.damaged e
            (subst (λ (n : ℕ). AreSoundTables n (database c.in_ok-recovered.recovered.tables)) (sym of_files.commits) sound);
      },
    )

pub recover_bodies-requires : goal.recover_bodies-requires
recover_bodies-requires c = (VERSION, c.requires.0, c.requires.1)
