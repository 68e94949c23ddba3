use Rattle.std.proofs.Common.{◌≡◌, ◌++◌, ℕ, List, length, take, subst, arith, length-append}
use Rattle.log_scan.proofs.Fronts.{behind, behind_fits, behind_whole}
use Rattle.log_scan.proofs.reading.text_of_size.Goals as goal

pub returns-clause-text : goal.returns-clause-text
returns-clause-text g c =
    let bytes : List ℕ = c.read_text.new.bytes.items in
    let seen : List ℕ = g.D.Disk.seen c.args.disk.now in
    let size : ℕ = c.args.size in
    let read = c.in_ok-read_text.ensures in
    let fits = behind_fits bytes size seen read.within in
    let front : g.D.Disk.is_modelled → bytes ≡ take (length bytes) seen =
    (λ modelled. subst (λ (l : List ℕ). bytes ≡ take (length bytes) l) (c.in_ok-end.ensures.reads.seen modelled) (read.bytes modelled)) in (
      bytes ++ behind bytes size seen,
      omega (arith, fits, length-append bytes (behind bytes size seen)),
      (λ modelled. behind_whole bytes size seen read.within (front modelled) (c.requires modelled)),
      read.text (behind bytes size seen) (omega (arith, fits)),
    )
