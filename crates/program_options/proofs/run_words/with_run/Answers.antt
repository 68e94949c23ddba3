use Rattle.std.proofs.Common.{rules, codes, refl, [], ◌∷◌}
use Rattle.std.proofs.lemmas.Result.{IfOk-weaker}
use Rattle.clap.specs.Words.{app_of}
use Rattle.program_options.specs.CommandLine.{HasApp, flag_option, folder_option, limited_option, loggers_option, seed_option}
use Rattle.program_options.proofs.Building.{more}
use Rattle.program_options.proofs.run_words.with_run.Goals as goal

pub returns : goal.returns
returns c =
    let zero : HasApp (app_of c.args.command) c.args.command = (refl, c.requires.local) in
    let one = more _ folder_option _ _ _ zero c.in_ok-arg.ensures (search rules) (search rules) in
    let two = more _ (record loggers_option { defaults = codes "2" ∷ [] }) _ _ _ one c.in_ok-arg-2.ensures (search rules) (search rules) in
    let three = more _ (record (limited_option (codes "terminals") 1 16) { defaults = codes "4" ∷ [] }) _ _ _ two c.in_ok-arg-3.ensures (search rules)
    (search rules) in
    let four = more _ (record (limited_option (codes "count") 0 1000000) { defaults = codes "100" ∷ [] }) _ _ _ three c.in_ok-arg-4.ensures (search rules)
    (search rules) in
    let five = more _ (seed_option (codes "seed") (codes "1")) _ _ _ four c.in_ok-arg-5.ensures (search rules) c.seed.ensures.local in
    let last = flag_option (codes "resume") in
    record {
      app = IfOk-weaker c.arg-6.result _ _ (λ command added. more _ last _ _ _ five added (search rules) (search rules)) c.arg-6.ensures;
    }
