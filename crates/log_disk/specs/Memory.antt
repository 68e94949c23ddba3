-- A disk in memory, by the calls that it has done.
use Rattle.std.specs.Prelude.{◌≡◌, ℕ, List, [], ◌∷◌, ◌++◌, length, fold, Result, Ok, Err}
use Rattle.money.specs.declared.refusal.Refusal.{Refusal}
use Rattle.log_disk.specs.declared.memory_call.MemoryCall.{MemoryCall}
use Rattle.log_disk.specs.declared.memory_call.MemoryCall.TheVariants.{Write, Sync}
use Rattle.log_disk.specs.Calls.{Call, Wrote, Synced, written}

-- the calls that were done, in order, and how many have failed
pub record MemoryView : Type 0 where
  pub calls : List MemoryCall
  pub failures : ℕ

-- the bytes that calls leave, and the calls themselves, newest first
pub record Replay : Type 0 where
  pub bytes : List ℕ
  pub story : List Call

-- before the first call
abbrev pub nothing : Replay
nothing = record { bytes = []; story = [] }

-- after a write
abbrev pub after_write : Replay → ℕ → List ℕ → Replay
after_write r at bytes = record { bytes = written r.bytes at bytes; story = Wrote at (length bytes) ∷ r.story }

-- after a sync
abbrev pub after_sync : Replay → Replay
after_sync r = record { bytes = r.bytes; story = Synced r.bytes ∷ r.story }

-- after a call
abbrev pub after_call : Replay → MemoryCall → Replay
after_call r (Write at bytes) = after_write r at bytes.items
after_call r Sync = after_sync r

-- after calls, the first of them first
abbrev pub replayed_calls : List MemoryCall → Replay
replayed_calls calls = fold after_call nothing calls

-- the call is a write of these bytes at this place
abbrev pub IsWriteOf : ℕ → List ℕ → MemoryCall → Type 0
IsWriteOf at bytes (Write place items) = (place ≡ at) × (items.items ≡ bytes)
IsWriteOf at bytes Sync = ⊥

-- the calls before one and after it: it is recorded where it was done, and only there
abbrev pub Records : {T : Type 0} → Result T Refusal → (MemoryCall → Type 0) → List MemoryCall → List MemoryCall
    → Type 0
Records (Ok _) IsCall old new = (call : MemoryCall) × IsCall call × (new ≡ old ++ call ∷ [])
Records (Err _) IsCall old new = new ≡ old
