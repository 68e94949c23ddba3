use Rattle.std.proofs.Common.{rules, codes, refl}
use Rattle.std.proofs.lemmas.Result.{IfOk-weaker}
use Rattle.clap.specs.Words.{app_of}
use Rattle.program_options.specs.CommandLine.{HasApp, number_option, seed_option}
use Rattle.program_options.proofs.Building.{more}
use Rattle.program_options.proofs.words.with_tables.Goals as goal

pub returns : goal.returns
returns c =
    let zero : HasApp (app_of c.args.command) c.args.command = (refl, c.requires.local) in
    let one = more _ (number_option (codes "warehouses") (codes "1")) _ _ _ zero c.in_ok-arg.ensures (search rules) c.number.ensures.local in
    let two = more _ (number_option (codes "districts") (codes "10")) _ _ _ one c.in_ok-arg-2.ensures (search rules) c.number-2.ensures.local in
    let three = more _ (number_option (codes "customers") (codes "100")) _ _ _ two c.in_ok-arg-3.ensures (search rules) c.number-3.ensures.local in
    let four = more _ (number_option (codes "items") (codes "1000")) _ _ _ three c.in_ok-arg-4.ensures (search rules) c.number-4.ensures.local in
    let five = more _ (number_option (codes "orders") (codes "3000")) _ _ _ four c.in_ok-arg-5.ensures (search rules) c.number-5.ensures.local in
    let six = more _ (number_option (codes "commits") (codes "100000")) _ _ _ five c.in_ok-arg-6.ensures (search rules) c.number-6.ensures.local in
    let last = seed_option (codes "population") (codes "0") in
    record {
      app = IfOk-weaker c.arg-7.result _ _ (λ command added. more _ last _ _ _ six added (search rules) c.seed.ensures.local) c.arg-7.ensures;
    }
