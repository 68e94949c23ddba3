use Rattle.std.proofs.Common.{◌<◌, length, rules, arith}
use Rattle.population.specs.Initial.{initial, seed_of}
use Rattle.recover_files.proofs.Halves.{reads_parts}
use Rattle.recover_files.proofs.reading.+parts.Goals as goal

pub read_with-returns : goal.read_with-returns
read_with-returns g t c =
    let population = c.args.population.now in
    let both = c.both.ensures in
    let cut = c.split_at_mut-front in
    let some : 0 < length cut.result.0.now = omega (arith, cut.ensures.front_len) in
    let more : 0 < length cut.result.1.now = omega (arith, cut.ensures.front_len, cut.ensures.back_len) in
    reads_parts c.args.first _ c.args.loggers (initial population).scale (seed_of population)
    cut.ensures.value (search rules) some more c.read_halves-a.ensures.front c.read_halves-a.ensures.back
    (record { files = both.files; device = both.device; damaged = both.damaged; others = both.others })
