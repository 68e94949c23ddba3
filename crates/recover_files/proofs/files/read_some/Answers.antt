use Rattle.std.proofs.Common.{rules, arith, refl}
use Rattle.recover_files.proofs.DiskByDisk.{begins, only_reads, failed_stays, count_stays, goes_on, none, mixed, fails}
use Rattle.recover_files.proofs.files.read_some.Goals as goal

pub loop-n-init : goal.loop-n-init
loop-n-init g c = begins c.new-files.ensures.none

pub returns-in_err-version : goal.returns-in_err-version
returns-in_err-version g c =
    let past = c.index-disks-n.result in
    let now = c.read_one.new.disk in
    let so_far = c.loop-n.invariant in
    record {
      found = search rules;
      damaged = λ e. none past now so_far (omega arith) (c.in_err-version.ensures.damaged (search rules));
      failed = λ e. fails past now so_far (omega arith) (c.in_err-version.ensures.counts.failed (search rules));
      not_failed = λ other. failed_stays past now so_far
          (c.in_err-version.ensures.counts.not_failed (λ e. other (search rules)));
      others = search rules;
      reads = only_reads past now so_far c.in_err-version.ensures.reads;
      count = count_stays past now so_far;
    }

pub returns-in_err-push : goal.returns-in_err-push
returns-in_err-push g c =
    let past = c.index-disks-n.result in
    let now = c.read_one.new.disk in
    let so_far = c.loop-n.invariant in
    record {
      found = search rules;
      damaged = λ e.
          let apart = c.in_err-push.ensures.damaged (search rules) in
          mixed past now so_far (omega arith) (λ v l. refl) c.in_ok-version.version c.in_ok-version.bodies
          c.in_ok-version.ensures.found apart.0 apart.1;
      failed = λ e. search rules;
      not_failed = λ other. failed_stays past now so_far (c.in_ok-version.ensures.counts.not_failed (search rules));
      others = search rules;
      reads = only_reads past now so_far c.in_ok-version.ensures.reads;
      count = count_stays past now so_far;
    }

pub loop-n-preserved : goal.loop-n-preserved
loop-n-preserved g c =
    goes_on c.index-disks-n.result c.read_one.new.disk c.loop-n.invariant (omega arith) c.in_ok-version.version
    c.in_ok-version.bodies c.in_ok-version.ensures.found c.in_ok-version.ensures.reads
    (c.in_ok-version.ensures.counts.not_failed (search rules)) c.in_ok-push.ensures.version c.in_ok-push.ensures.others_are
    c.in_ok-push.ensures.bodies
