-- The TID word of a version (after Silo, section 4.2): the epoch in bits 63 to 32, the sequence in bits 31 to 3, the
-- absent bit 2, the latest-version bit 1 and the lock bit 0.
use Rattle.std.specs.Prelude.{ℕ, ◌+◌, ◌-◌, ◌*◌, ◌/◌, ◌%◌, ◌^◌, ◌==◌, Bool, true, false, Option, Some, None}
use Rattle.tidword.specs.declared.word.Status.{Status}

abbrev pub bit : Bool → ℕ
bit true = 1
bit false = 0

abbrev pub tid_word : ℕ → ℕ → Status → ℕ
tid_word epoch sequence status = epoch * 2 ^ 32 + sequence * 8 + bit status.absent * 4 + bit status.latest * 2 + bit
    status.locked

-- the epoch, and the sequence
abbrev pub epoch_of : ℕ → ℕ
epoch_of word = word / 2 ^ 32

abbrev pub sequence_of : ℕ → ℕ
sequence_of word = word / 8 % 2 ^ 29

-- the TID: the word with its three status bits 0
abbrev pub tid_of : ℕ → ℕ
tid_of word = word - word % 8

-- the lock bit and the latest-version bit
abbrev pub is_locked : ℕ → Bool
is_locked word = word % 2 == 1

abbrev pub is_latest : ℕ → Bool
is_latest word = word / 2 % 2 == 1

-- the word of a version that a commit stores: its TID, unlocked, the latest, and absent where the record has no value
abbrev pub installed_word : {X : Type 0} → ℕ → Option X → ℕ
installed_word tid (Some _) = tid + 2
installed_word tid None = tid + 6
