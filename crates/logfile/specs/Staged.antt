-- What a crash may leave while a text is put behind a gate.
use Rattle.std.specs.Prelude.{◌≡◌, ◌⊎◌, ℕ, List, ◌∷◌, ◌++◌, length}
use Rattle.log_disk.specs.Calls.{Call}
use Rattle.log_disk.specs.Crashes.{Leaves}

-- whatever a crash leaves after these calls, it is what a read gives
abbrev pub IsSettled : List ℕ → List Call → Type 0
IsSettled seen story = Leaves (λ bytes. bytes ≡ seen) story

-- the byte at this place is a gate, and these stand in front of it and behind it
pub record HasGate (at : ℕ) (front : List ℕ) (gate : ℕ) (rest bytes : List ℕ) : Type 0 where
  pub place : length front ≡ at
  pub text : bytes ≡ front ++ gate ∷ rest

-- what a crash may leave while a text, which ends with a gate of its own, is put behind the gate: what stands in front
-- is as before; then comes the old gate with anything behind it or, once the text is synced, any gate, the whole text
-- and anything behind that
abbrev pub IsStaged : List ℕ → ℕ → List ℕ → List ℕ → Type 0
IsStaged front gate text bytes =
    ((rest : List ℕ) × (bytes ≡ front ++ gate ∷ rest))
    ⊎ ((byte : ℕ) × (rest : List ℕ) × (bytes ≡ front ++ byte ∷ (text ++ rest)))
