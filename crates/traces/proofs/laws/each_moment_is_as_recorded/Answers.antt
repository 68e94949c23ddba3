use Rattle.std.proofs.Common.{◌≡◌, ℕ, ◌+◌, ◌∙◌, length, take, filter, refl, ap, arith}
use Rattle.recover_crashes.specs.World.{opening}
use Rattle.traces.specs.Moments.{is_commit}
use Rattle.traces.proofs.Recorded.{Has, has_all, released_all, taken_front}
use Rattle.traces.proofs.laws.each_moment_is_as_recorded.Goals as goal

pub returns : goal.returns
returns c = λ life t steps first loggers n.
    let w = opening life.plan first.files in
    let begun : Has t 0 (λ l. 2) w = record {
      history = refl;
      within = omega arith;
      disks = first.disks;
      calls = first.made;
    } in
    let may = taken_front life t w steps first.taken n in
    let has = has_all life t 0 (λ l. 2) w (take n steps) loggers may begun in
    let none : 0 + length (filter is_commit (take n steps)) ≡ length (filter is_commit (take n steps)) = omega arith in record {
      history = has.history ∙ ap (λ (m : ℕ). take m t.history) none;
      disks = has.disks;
      released = released_all life t 0 (λ l. 2) w (take n steps) loggers may begun;
    }
