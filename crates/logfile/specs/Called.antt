-- The calls of the device that put a text behind a gate, and what a read gives after them.
use Rattle.std.specs.Prelude.{◌≡◌, ◌⊎◌, ℕ, ◌+◌, List, [], ◌∷◌, length, Result, Ok, Err}
use Rattle.money.specs.declared.refusal.Refusal.{Refusal}
use Rattle.log_disk.specs.Calls.{Call, Wrote, Synced, written}

-- a write and a sync, with what a read gives and the calls before them and after. One that fails is the last: a write
-- was begun or not, and a sync counts for nothing
abbrev pub PutLeft : {T : Type 0} → Result T Refusal → ℕ → List ℕ → List ℕ → List Call → List ℕ → List Call → Type 0
PutLeft (Ok _) at bytes seen old now new = (now ≡ written seen at bytes)
    × (new ≡ Synced (written seen at bytes) ∷ Wrote at (length bytes) ∷ old)
PutLeft (Err _) at bytes seen old now new = (new ≡ old) ⊎ (new ≡ Wrote at (length bytes) ∷ old)

-- a text is written behind the gate at this place, and synced; then the gate is written as open, and synced
abbrev pub StoreLeft : {T : Type 0} → Result T Refusal → ℕ → List ℕ → List ℕ → List Call → List ℕ → List Call → Type 0
StoreLeft {T = T} (Ok done) end text seen old now new = PutLeft {T = T} (Ok done) end (1 ∷ []) (written seen (end + 1) text)
    (Synced (written seen (end + 1) text) ∷ Wrote (end + 1) (length text) ∷ old) now new
StoreLeft {T = T} (Err refusal) end text seen old now new = PutLeft {T = T} (Err refusal) (end + 1) text seen old now new
    ⊎ PutLeft {T = T} (Err refusal) end (1 ∷ []) (written seen (end + 1) text)
    (Synced (written seen (end + 1) text) ∷ Wrote (end + 1) (length text) ∷ old) now new
