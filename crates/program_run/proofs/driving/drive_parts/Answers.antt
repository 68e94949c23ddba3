use Rattle.std.proofs.KnownBytes.{Appends-nil}
use Rattle.program_run.specs.Told.{unrun, untold}
use Rattle.program_run.proofs.Untold.{untold_ran}
use Rattle.program_run.proofs.driving.drive_parts.Goals as goal

pub returns-clause-ran : goal.returns-clause-ran
returns-clause-ran g c =
    let o = c.in-Ok.made.0 in
    record {
      ran = record {
        history = o.closed;
        tallies = o.tallies.items;
        counts = o.counts;
        counted = c.in-Ok.ensures.counted;
        told = c.in-Ok-ran.ensures.told;
      };
      acknowledged = c.shortfall_of-shortfall.ensures.none;
      short = c.shortfall_of-shortfall.ensures.short;
    }

pub returns-in-Err-clause-broken : goal.returns-in-Err-clause-broken
returns-in-Err-clause-broken g c =
    let none = Appends-nil (g.W.Write.contents c.args.writer.now) in
    record { is = unrun (λ not. absurd (not c.in-Err.ensures.only_memory)) none; unrun = λ refusal is. none }

pub returns-in-Err-ran-clause-broken : goal.returns-in-Err-ran-clause-broken
returns-in-Err-ran-clause-broken g c =
    let o = c.in-Ok.made.0 in
    record {
      is = untold o.closed o.tallies.items o.counts c.in-Ok.ensures.counted c.in-Err-ran.ensures.cut_short;
      unrun = λ refusal is. untold_ran _ c.in-Err-ran.refusal refusal is;
    }
