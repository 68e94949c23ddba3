-- The rule of a board: what holds of its words and of what its seats know, between any two steps.
use Rattle.std.specs.Prelude.{◌≡◌, ℕ, ◌+◌, ◌<◌, ◌≤◌, Bool, true, false, List, [], length}
use mathlib.Core.Option.{some}
use lib.ListN.{get_elem?}
use Rattle.tables.specs.declared.limits.TheConstants.{MAX_LOGGERS}
use Rattle.board.specs.declared.steps.TheConstants.{WORDS}
use Rattle.board.specs.declared.rule.Plan.{Plan}
use Rattle.board.specs.declared.rule.View.{View}
use Rattle.board.specs.declared.rule.Role.{Role}
use Rattle.board.specs.declared.rule.Role.TheVariants.{Terminal, Book, Clock, Logger, Gone}
use Rattle.board.specs.declared.rule.WordStep.{WordStep}
use Rattle.board.specs.Words.{mark_in, floor_in, epoch_in, count_in, durable_in, last_epoch}
use Rattle.board.specs.Steps.{known_epoch, counted_epochs, stored_mark, RespectsFloors, AllStand}

-- nobody steps with a seat of this role any more
abbrev pub is_gone : Role → Bool
is_gone Gone = true
is_gone _ = false

-- the number of a role. Terminals and seats that are gone share theirs; each other role has one seat
abbrev pub role_number : Role → ℕ
role_number Terminal = 0
role_number Book = 1
role_number Clock = 2
role_number (Logger logger) = logger + 3
role_number Gone = 0

-- a seat knows the words that only its role changes: the book's the commit count, and no floor is above the last E
-- that it knows; the clock's E; a logger's its local mark, which is what it has noted as kept
abbrev pub KnowsOwn : Plan → List ℕ → Role → List WordStep → Type 0
KnowsOwn plan words Terminal steps = Unit {0}
KnowsOwn plan words Gone steps = Unit {0}
KnowsOwn plan words Book steps = (count_in words ≡ length (counted_epochs steps))
    × ((l : ℕ) → l < MAX_LOGGERS → floor_in words l ≤ known_epoch plan.base steps)
KnowsOwn plan words Clock steps = epoch_in words ≡ known_epoch plan.base steps
KnowsOwn plan words (Logger logger) steps = (logger < plan.loggers)
    × (mark_in words logger ≡ stored_mark plan.base steps)

-- one seat fits the words. It is of the board's plan, unless it is gone. Its role, unless it is a terminal's, has no
-- other seat, and is one of those dealt so far
pub record FitsWords (seat_of : ℕ → ℕ) (dealt : ℕ) (plan : Plan) (words : List ℕ) (seat : ℕ) (v : View) : Type 0 where
  pub planned : is_gone v.role ≡ false → v.plan ≡ plan
  pub alone : 0 < role_number v.role → seat_of (role_number v.role) ≡ seat
  pub below : role_number v.role < dealt
  pub dealer : v.role ≡ Book → v.dealt ≡ dealt
  pub stand : AllStand words v.steps
  pub respects : RespectsFloors v.steps
  pub owns : KnowsOwn plan words v.role v.steps

-- the rule. No word falls, since what each seat has found or written still stands (`stand` of each seat). Each floor is
-- at most E. Each commit that is counted after a floor step has an epoch at least that floor (`respects`). D is at
-- most every local mark, and a local mark is what its logger has noted as kept (`owns`)
pub record IsLawfulBoard (plan : Plan) (words : List ℕ) (views : List View) : Type 0 where
  pub seat_of : ℕ → ℕ
  pub dealt : ℕ
  pub few : plan.loggers ≤ MAX_LOGGERS
  pub size : length words ≡ WORDS
  pub begun : plan.base < epoch_in words
  pub ends : epoch_in words ≤ last_epoch
  pub floors : (l : ℕ) → l < MAX_LOGGERS → floor_in words l ≤ epoch_in words
  pub lasting : plan.base ≤ durable_in words
  pub durable : (l : ℕ) → l < plan.loggers → durable_in words ≤ mark_in words l
  pub idle : (r : Role) → dealt ≤ role_number r → role_number r < plan.loggers + 3 → KnowsOwn plan words r []
  pub seats : (seat : ℕ) (v : View) → get_elem? views seat ≡ some v → FitsWords seat_of dealt plan words seat v
