-- The words of a board, whatever the number of loggers: a local mark and a floor for each logger that there may be, the
-- epoch E (Silo, section 4.1), the commit count, and the durable epoch D (Silo, section 4.10).
use Rattle.std.specs.Prelude.{ℕ, ◌+◌, List, slice_index}
use Rattle.tables.specs.declared.limits.TheConstants.{LAST_EPOCH}
use Rattle.board.specs.declared.steps.TheConstants.{FLOORS, EPOCH, COUNT, DURABLE}

-- the local mark of a logger, and its floor
abbrev pub mark_in : List ℕ → ℕ → ℕ
mark_in words logger = slice_index words logger

abbrev pub floor_in : List ℕ → ℕ → ℕ
floor_in words logger = slice_index words (FLOORS + logger)

abbrev pub epoch_in : List ℕ → ℕ
epoch_in words = slice_index words EPOCH

abbrev pub count_in : List ℕ → ℕ
count_in words = slice_index words COUNT

abbrev pub durable_in : List ℕ → ℕ
durable_in words = slice_index words DURABLE

-- the last epoch: the number of an epoch has 32 bits
abbrev pub last_epoch : ℕ
last_epoch = LAST_EPOCH
