-- A text, put behind a gate, and then the gate.
use Rattle.std.proofs.Common.{◌≡◌, ℕ, ◌+◌, List, [], ◌∷◌, ◌++◌, length, drop, sym, ◌∙◌, subst}
use Rattle.log_disk.specs.Calls.{Call, written}
use Rattle.log_disk.specs.Crashes.{Torn, MayLeave, LeavesOnly}
use Rattle.logfile.specs.Staged.{HasGate, IsStaged}
use Rattle.logfile.proofs.Tearing.{text_staged, gate_staged, text_written, gate_written}
use Rattle.logfile.proofs.Moments.{only_wider, only_joined}

-- what is seen once the text is put
pub text_seen : (end : ℕ) (front : List ℕ) (gate : ℕ) (rest seen text now : List ℕ) → HasGate end front gate rest seen
    → now ≡ written seen (end + 1) text → HasGate end front gate (text ++ drop (length text) rest) now
text_seen end front gate rest seen text now has is = record {
  place = has.place;
  text = is ∙ (λ i. written (has.text i) (sym has.place i + 1) text) ∙ text_written front gate rest text;
}

-- what is seen once the gate is put too
pub gate_seen : (end : ℕ) (front : List ℕ) (gate byte : ℕ) (rest seen now : List ℕ) → HasGate end front gate rest seen
    → now ≡ written seen end (byte ∷ []) → now ≡ front ++ byte ∷ rest
gate_seen end front gate byte rest seen now has is =
    is ∙ (λ i. written (has.text i) (sym has.place i) (byte ∷ [])) ∙ gate_written front gate byte rest

-- the moments while the text is put
pub text_moments : (end : ℕ) (front : List ℕ) (gate : ℕ) (rest seen text : List ℕ) (n : ℕ) (old new : List Call)
    → HasGate end front gate rest seen → LeavesOnly (Torn (end + 1) n seen) old new → LeavesOnly (IsStaged front gate text) old new
text_moments end front gate rest seen text n old new has only =
    only_wider (Torn (end + 1) n seen) (IsStaged front gate text) old new
    (λ bytes torn. text_staged front gate n rest text bytes
    (subst (λ (before : List ℕ). Torn (length front + 1) n before bytes) has.text
    (subst (λ (at : ℕ). Torn (at + 1) n seen bytes) (sym has.place) torn)))
    only

-- the moments while the gate is put
pub gate_moments : (end : ℕ) (front : List ℕ) (gate : ℕ) (rest seen text : List ℕ) (old new : List Call)
    → HasGate end front gate (text ++ rest) seen → LeavesOnly (Torn end 1 seen) old new → LeavesOnly (IsStaged front gate text) old new
gate_moments end front gate rest seen text old new has only =
    only_wider (Torn end 1 seen) (IsStaged front gate text) old new
    (λ bytes torn. gate_staged front gate text rest bytes
    (subst (λ (before : List ℕ). Torn (length front) 1 before bytes) has.text
    (subst (λ (at : ℕ). Torn at 1 seen bytes) (sym has.place) torn)))
    only

-- the moments of both
pub store_moments : (end : ℕ) (front : List ℕ) (gate : ℕ) (rest seen text now : List ℕ) (n : ℕ) (old mid new : List Call)
    → HasGate end front gate rest seen → LeavesOnly (Torn (end + 1) n seen) old mid → now ≡ written seen (end + 1) text
    → LeavesOnly (Torn end 1 now) mid new → LeavesOnly (IsStaged front gate text) old new
store_moments end front gate rest seen text now n old mid new has first is second =
    only_joined (IsStaged front gate text) old mid new
    (text_moments end front gate rest seen text n old mid has first)
    (gate_moments end front gate (drop (length text) rest) now text mid new
    (text_seen end front gate rest seen text now has is) second)

-- the old gate may stand still
pub at_gate_still : (end : ℕ) (front : List ℕ) (gate : ℕ) (rest seen : List ℕ) (story : List Call) → HasGate end front gate rest seen
    → MayLeave story seen → (behind : List ℕ) × MayLeave story (front ++ gate ∷ behind)
at_gate_still end front gate rest seen story has may = (rest, subst (MayLeave story) has.text may)
