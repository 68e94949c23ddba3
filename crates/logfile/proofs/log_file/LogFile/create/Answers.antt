use Rattle.std.proofs.Common.{◌≡◌, ◌+◌, ◌-◌, List, [], ◌∷◌, ◌++◌, length, sym, ap, ◌∙◌, arith, length-append}
use Rattle.log_disk.specs.Calls.{Call, Wrote, Synced}
use Rattle.log_header.specs.Header.{HeaderView, IsHeader, header_text}
use Rattle.log_text.specs.declared.last.Last.{Last}
use Rattle.logfile.specs.Standing.{Stands}
use Rattle.logfile.proofs.Appending.{all_kept, is_open, first_bytes, created}
use Rattle.logfile.proofs.log_file.LogFile.create.Goals as goal

pub invariant_of-result : goal.invariant_of-result
invariant_of-result g c =
    let is : IsHeader c.new-header.result = c.new-header.ensures.lawful in
    let text : c.deref.result.now ≡ header_text c.new-header.result ++ 0 ∷ [] = c.deref.ensures.value ∙ c.in_ok-buffer.ensures in
    let size : c.len.result ≡ length c.deref.result.now = c.len.ensures ∙ sym c.deref.ensures.len in
    let end : c.len.result - 1 + 1 ≡ length c.deref.result.now
    = omega (arith, size, ap length text, length-append (header_text c.new-header.result) (0 ∷ [])) in
    let made : g.D.Disk.is_modelled → Stands c.new-header.result [] (c.len.result - 1) c.start.result (g.D.Disk.seen c.sync.new.self)
    (g.D.Disk.story c.sync.new.self) = (λ modelled. created c.new-header.result is _ _ _ _ _ _ _ _ text end c.start.ensures (c.requires.empty modelled)
    (c.in_ok-write_at.ensures.bytes modelled) (c.in_ok-sync.ensures.seen modelled) (c.in_ok-sync.ensures.story modelled)) in
    record {
      reaches = omega (arith, size, c.in_ok-write_at.ensures.fits);
      header = is;
      version = ap (λ (h : HeaderView). h.version) c.new-header.ensures.value;
      near = omega (arith, ap (λ (l : Last). l.epoch) c.start.ensures);
      counts = omega arith;
      stands = λ modelled _. is_open _ _ _ _ _ (made modelled).settled ∣ ([], made modelled) ∣₁;
      kept = λ modelled. ∣ all_kept _ _ _ _ _ _ (made modelled) (g.met.D.Disk.read_gives c.sync.new.self modelled) ∣₁;
    }

pub returns-clause-stands : goal.returns-clause-stands
returns-clause-stands g c = λ modelled.
    let is : IsHeader c.new-header.result = c.new-header.ensures.lawful in
    let text : c.deref.result.now ≡ header_text c.new-header.result ++ 0 ∷ [] = c.deref.ensures.value ∙ c.in_ok-buffer.ensures in
    let size : c.len.result ≡ length c.deref.result.now = c.len.ensures ∙ sym c.deref.ensures.len in
    let end : c.len.result - 1 + 1 ≡ length c.deref.result.now
    = omega (arith, size, ap length text, length-append (header_text c.new-header.result) (0 ∷ [])) in
    created c.new-header.result is _ _ _ _ _ _ _ _ text end c.start.ensures (c.requires.empty modelled)
    (c.in_ok-write_at.ensures.bytes modelled) (c.in_ok-sync.ensures.seen modelled) (c.in_ok-sync.ensures.story modelled)

pub returns-clause-bytes : goal.returns-clause-bytes
returns-clause-bytes g c = λ modelled.
    first_bytes c.new-header.result _ _ _ _ (c.deref.ensures.value ∙ c.in_ok-buffer.ensures) (c.requires.empty modelled)
    (c.in_ok-write_at.ensures.bytes modelled) (c.in_ok-sync.ensures.seen modelled)

pub returns-clause-calls : goal.returns-clause-calls
returns-clause-calls g c = λ modelled.
    let is : IsHeader c.new-header.result = c.new-header.ensures.lawful in
    let text : c.deref.result.now ≡ header_text c.new-header.result ++ 0 ∷ [] = c.deref.ensures.value ∙ c.in_ok-buffer.ensures in
    let size : c.len.result ≡ length c.deref.result.now = c.len.ensures ∙ sym c.deref.ensures.len in
    let end : c.len.result - 1 + 1 ≡ length c.deref.result.now
    = omega (arith, size, ap length text, length-append (header_text c.new-header.result) (0 ∷ [])) in
    (c.in_ok-sync.ensures.story modelled)
    ∙ ap (λ (l : List Call). Synced (g.D.Disk.seen c.write_at.new.self) ∷ l) (c.in_ok-write_at.ensures.story modelled)
    ∙ (λ i. Synced (sym (c.in_ok-sync.ensures.seen modelled) i) ∷ Wrote 0 (sym end i) ∷ g.D.Disk.story c.args.disk)
