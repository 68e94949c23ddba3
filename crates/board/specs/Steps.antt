-- What a seat knows by its own steps, newest first, on a board with this base.
use Rattle.std.specs.Prelude.{ℕ, ◌+◌, ◌<◌, ◌≤◌, max, List, [], ◌∷◌}
use Rattle.tables.specs.declared.limits.TheConstants.{MAX_LOGGERS}
use Rattle.board.specs.declared.rule.WordStep.{WordStep}
use Rattle.board.specs.declared.rule.WordStep.TheVariants.{LoadEpoch, AddEpoch, CountCommit, StoreFloor}
use Rattle.board.specs.declared.rule.WordStep.TheVariants.{StoreMark, LoadMark, RaiseDurable, LoadDurable}
use Rattle.board.specs.Words.{mark_in, floor_in, epoch_in, durable_in}

-- the last E that it loaded or made
abbrev pub known_epoch : ℕ → List WordStep → ℕ
known_epoch base [] = base + 1
known_epoch base (LoadEpoch epoch ∷ steps) = epoch
known_epoch base (AddEpoch epoch ∷ steps) = epoch
known_epoch base (_ ∷ steps) = known_epoch base steps

-- the epochs of the commits that it counted, newest first
abbrev pub counted_epochs : List WordStep → List ℕ
counted_epochs [] = []
counted_epochs (CountCommit epoch ∷ steps) = epoch ∷ counted_epochs steps
counted_epochs (_ ∷ steps) = counted_epochs steps

-- the last local mark that it stored: up to this epoch the logger has noted its commits as kept
abbrev pub stored_mark : ℕ → List WordStep → ℕ
stored_mark base [] = base
stored_mark base (StoreMark _ mark ∷ steps) = mark
stored_mark base (_ ∷ steps) = stored_mark base steps

-- the greatest D that it loaded or raised D to
abbrev pub seen_durable : ℕ → List WordStep → ℕ
seen_durable base [] = base
seen_durable base (RaiseDurable epoch ∷ steps) = max epoch (seen_durable base steps)
seen_durable base (LoadDurable epoch ∷ steps) = max epoch (seen_durable base steps)
seen_durable base (_ ∷ steps) = seen_durable base steps

-- each floor that was stored is at most this epoch
abbrev pub HasFloorsUpTo : ℕ → List WordStep → Type 0
HasFloorsUpTo epoch [] = Unit {0}
HasFloorsUpTo epoch (StoreFloor _ floor ∷ steps) = (floor ≤ epoch) × HasFloorsUpTo epoch steps
HasFloorsUpTo epoch (_ ∷ steps) = HasFloorsUpTo epoch steps

-- each commit that was counted after a floor step has an epoch at least that floor
abbrev pub RespectsFloors : List WordStep → Type 0
RespectsFloors [] = Unit {0}
RespectsFloors (CountCommit epoch ∷ steps) = HasFloorsUpTo epoch steps × RespectsFloors steps
RespectsFloors (_ ∷ steps) = RespectsFloors steps

-- the word that a step found or wrote has not fallen since
abbrev pub StillStands : List ℕ → WordStep → Type 0
StillStands words (LoadEpoch epoch) = epoch ≤ epoch_in words
StillStands words (AddEpoch epoch) = epoch ≤ epoch_in words
StillStands words (CountCommit epoch) = epoch ≤ epoch_in words
StillStands words (StoreFloor logger floor) = (logger < MAX_LOGGERS) × (floor ≤ floor_in words logger)
StillStands words (StoreMark logger mark) = mark ≤ mark_in words logger
StillStands words (LoadMark logger mark) = mark ≤ mark_in words logger
StillStands words (RaiseDurable epoch) = epoch ≤ durable_in words
StillStands words (LoadDurable epoch) = epoch ≤ durable_in words

abbrev pub AllStand : List ℕ → List WordStep → Type 0
AllStand words [] = Unit {0}
AllStand words (step ∷ steps) = StillStands words step × AllStand words steps
