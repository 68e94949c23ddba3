-- A call that was done, as what it makes of a disk.
use Rattle.std.proofs.Common.{◌≡◌, ℕ, ◌+◌, Ok, List, ◌∷◌, ◌++◌, length, take, drop, refl, sym, ap, ◌∙◌, subst, arith}
use Rattle.std.proofs.lemmas.List.{append_cancel_left, append_cancel_right}
use Rattle.log_disk.specs.Calls.{Wrote, Synced, written}
use Rattle.log_disk.specs.Memory.{IsWriteOf}
use Rattle.log_disk.specs.declared.memory_call.MemoryCall.{MemoryCall}
use Rattle.log_disk.specs.declared.memory_call.MemoryCall.TheVariants.{Write, Sync}
use Rattle.recover_crashes.specs.World.{DiskView}
use Rattle.recover_crashes.specs.Events.{IsWrite, IsSync}
use Rattle.traces.specs.Told.{disk_after}

pub grown : (d : DiskView) (call : MemoryCall) → length (disk_after d call).story ≡ length d.story + 1
grown d (Write place items) = omega arith
grown d Sync = omega arith

pub write_is_done : (d : DiskView) (at : ℕ) (bytes : List ℕ) (call : MemoryCall) → IsWriteOf at bytes call
    → IsWrite at bytes (Ok tt) d (disk_after d call)
write_is_done d at bytes (Write place items) h = record {
  seen = λ i. written d.seen (h.0 i) (h.1 i);
  story = λ i. Wrote (h.0 i) (length (h.1 i)) ∷ d.story;
}
write_is_done d at bytes Sync h = absurd h

pub write_was_done : (d : DiskView) (at : ℕ) (bytes : List ℕ) (call : MemoryCall) → IsWrite at bytes (Ok tt) d (disk_after d call)
    → IsWriteOf at bytes call
write_was_done d at bytes (Write place items) h =
    let story : Wrote place (length items.items) ∷ d.story ≡ Wrote at (length bytes) ∷ d.story = h.story in
    let place_is : place ≡ at = cc in
    let length_is : length items.items ≡ length bytes = cc in
    let whole : written d.seen at items.items ≡ written d.seen at bytes
    = ap (λ (p : ℕ). written d.seen p items.items) (sym place_is) ∙ h.seen in
    let same : (take at d.seen ++ items.items) ++ drop (at + length bytes) d.seen ≡ (take at d.seen ++ bytes) ++ drop (at + length bytes) d.seen
    = ap (λ (n : ℕ). (take at d.seen ++ items.items) ++ drop (at + n) d.seen) (sym length_is) ∙ whole in (
      place_is,
      append_cancel_left (take at d.seen) items.items bytes
          (append_cancel_right (take at d.seen ++ items.items) (take at d.seen ++ bytes) (drop (at + length bytes) d.seen) same),
    )
write_was_done d at bytes Sync h =
    let story : Synced d.seen ∷ d.story ≡ Wrote at (length bytes) ∷ d.story = h.story in absurd cc

pub sync_is_done : (d : DiskView) (call : MemoryCall) → call ≡ Sync → IsSync (Ok tt) d (disk_after d call)
sync_is_done d call is =
    subst (λ (c : MemoryCall). IsSync (Ok tt) d (disk_after d c)) (sym is) (record { seen = refl; story = refl })

pub sync_was_done : (d : DiskView) (call : MemoryCall) → IsSync (Ok tt) d (disk_after d call) → call ≡ Sync
sync_was_done d (Write place items) h =
    let story : Wrote place (length items.items) ∷ d.story ≡ Synced d.seen ∷ d.story = h.story in absurd cc
sync_was_done d Sync h = refl
