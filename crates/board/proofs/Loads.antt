-- The loads of local marks, the least of them, and a board's end.
use Rattle.std.proofs.Common.{◌≡◌, ℕ, zero, suc, ◌<◌, ◌≤◌, min, List, [], ◌∷◌, length, All, refl, sym, ap, ◌∙◌, subst, arith}
use Rattle.std.specs.Prelude.{slice_index}
use Rattle.std.specs.List.{Contains}
use mathlib.Core.Option.{some, some-ne-none, some-injective}
use mathlib.Core.Logic.{dite}
use native.Mathlib.Decide.{dec_le, ℕ_discrete}
use lib.ListN.{get_elem?}
use Rattle.atomic_table.specs.Seated.{TableId}
use Rattle.board.specs.declared.rule.Plan.{Plan}
use Rattle.board.specs.declared.rule.View.{View}
use Rattle.board.specs.declared.rule.Role.TheVariants.{Logger}
use Rattle.board.specs.declared.rule.WordStep.{WordStep}
use Rattle.board.specs.declared.rule.WordStep.TheVariants.{LoadMark}
use Rattle.board.specs.Words.{mark_in}
use Rattle.board.specs.Steps.{AllStand, stored_mark, seen_durable}
use Rattle.board.specs.Rule.{KnowsOwn, IsLawfulBoard}
use Rattle.board.specs.Plays.{with_step}
use Rattle.board.specs.Seats.{SeatView, BoardView, seat_view, noted}
use Rattle.board.specs.Publishing.{IsLeastMark, with_loads}
use Rattle.board.specs.Opening.{EndsWithDurable}
use Rattle.board.proofs.Standing.{durable_stands}

-- the seat, with these marks loaded since
abbrev pub HasLoaded : TableId → View → ℕ → List ℕ → SeatView → Type 0
HasLoaded table v number marks seat = (v.role ≡ Logger number) × (number < v.plan.loggers)
    × (seat_view table v ≡ record { board = seat.board; role = seat.role; steps = with_loads marks seat.steps })

pub loads_next : (table after : TableId) (v w : View) (number l mark : ℕ) (marks : List ℕ) (seat : SeatView) → after ≡ table
    → w ≡ with_step v (LoadMark l mark) → length marks ≡ l → HasLoaded table v number marks seat → HasLoaded after w number (mark ∷ marks) seat
loads_next table after v w number l mark marks seat own told count was = (
  ap (λ (u : View). u.role) told ∙ was.0,
  subst (λ (u : View). number < u.plan.loggers) (sym told) was.1,
  (λ i. seat_view (own i) (told i)) ∙ (ap (λ (s : SeatView). noted s (LoadMark l mark)) was.2
      ∙ ap (λ (n : ℕ). record { board = seat.board; role = seat.role; steps = LoadMark n mark ∷ with_loads marks seat.steps }) (sym count)),
)

-- one more, newest first
all_next : (least : ℕ) (mark : ℕ) (marks : List ℕ) → least ≤ mark → All (λ m. least ≤ m) marks → All (λ m. least ≤ m) (mark ∷ marks)
all_next least mark marks here rest zero d within = here
all_next least mark marks here rest (suc k) d within = rest k d (omega arith)

pub least_first : (mark : ℕ) → IsLeastMark mark (mark ∷ [])
least_first mark = record { among = (0, omega arith, refl); below = all_next mark mark [] (omega arith) (λ k d within. absurd (omega arith)) }

has_next : (least mark : ℕ) (marks : List ℕ) → Contains marks least → Contains (mark ∷ marks) least
has_next least mark marks has = let within = has.1 in (suc has.0, omega arith, has.2)

among_next : (least mark : ℕ) (marks : List ℕ) → Contains marks least → Dec (least ≤ mark) → Contains (mark ∷ marks) (min least mark)
among_next least mark marks has (yes below) = let same : least ≡ min least mark = omega arith in
    subst (λ n. Contains (mark ∷ marks) n) same (has_next least mark marks has)
among_next least mark marks has (no above) = let same : mark ≡ min least mark = omega arith in
    subst (λ n. Contains (mark ∷ marks) n) same (0, omega arith, refl)

pub least_next : (least mark : ℕ) (marks : List ℕ) → IsLeastMark least marks → IsLeastMark (min least mark) (mark ∷ marks)
least_next least mark marks is = record {
  among = among_next least mark marks is.among (dec_le least mark);
  below = all_next (min least mark) mark marks (omega arith) (λ k d within. let was = is.below k d within in omega arith);
}

-- each loaded mark still stands, so the least is at most every local mark
pub up_to_marks : (words : List ℕ) (least : ℕ) (marks : List ℕ) (steps : List WordStep) → AllStand words (with_loads marks steps)
    → All (λ m. least ≤ m) marks → (l : ℕ) → l < length marks → least ≤ mark_in words l
up_to_marks words least [] steps stand below l within = absurd (omega arith)
up_to_marks words least (mark ∷ marks) steps stand below l within =
    dite (ℕ_discrete l (length marks))
    (λ last. subst (λ k. least ≤ mark_in words k) (sym last) (let here = stand.0 in let low = below 0 0 (omega arith) in omega arith))
    (λ other. up_to_marks words least marks steps stand.1 (λ k d small. below (suc k) d (omega arith)) l (omega arith))

-- loads of local marks leave the last one that was stored
pub still_stored : (base : ℕ) (marks : List ℕ) (steps : List WordStep) → stored_mark base (with_loads marks steps) ≡ stored_mark base steps
still_stored base [] steps = refl
still_stored base (mark ∷ marks) steps = still_stored base marks steps

word_there : (words : List ℕ) (i n : ℕ) → get_elem? words i ≡ some n → slice_index words i ≡ n
word_there [] i n e = absurd (some-ne-none n (sym e))
word_there (x ∷ xs) zero n e = some-injective x n e
word_there (x ∷ xs) (suc i) n e = word_there xs i n e

-- what is left at a board's end
pub ends : (table : TableId) (key : Plan) (board : BoardView) (seat : SeatView) (durable : ℕ) (last words : List ℕ) (views : List View) (place : ℕ) (v : View)
    → key ≡ board.plan → IsLawfulBoard key words views → get_elem? views place ≡ some v → words ≡ last → get_elem? last 18 ≡ some durable
    → seat_view table v ≡ seat → seat.board ≡ board → EndsWithDurable board seat durable
ends table key board seat durable last words views place v same lawful there are found shows own = record {
  words = words;
  views = views;
  lawful = subst (λ (p : Plan). IsLawfulBoard p words views) same lawful;
  last = word_there words 18 durable (subst (λ (l : List ℕ). get_elem? l 18 ≡ some durable) (sym are) found);
  place = place;
  view = v;
  there = there;
  shows = subst (λ (t : TableId). seat_view t v ≡ seat) (ap (λ (s : SeatView). s.board.table) shows ∙ ap (λ (b : BoardView). b.table) own) shows;
}

pub ends_kept : (board : BoardView) (seat : SeatView) (durable number : ℕ) → EndsWithDurable board seat durable → seat.role ≡ Logger number
    → durable ≤ stored_mark board.plan.base seat.steps
ends_kept board seat durable number end role =
    let fits = end.lawful.seats end.place end.view end.there in
    let mine : end.view.role ≡ Logger number = ap (λ (s : SeatView). s.role) end.shows ∙ role in
    let own : KnowsOwn board.plan end.words (Logger number) end.view.steps = subst (λ r. KnowsOwn board.plan end.words r end.view.steps) mine fits.owns in
    let low = end.lawful.durable number own.0 in
    let mark = own.1 in
    let last = end.last in
    subst (λ (steps : List WordStep). durable ≤ stored_mark board.plan.base steps) (ap (λ (s : SeatView). s.steps) end.shows) (omega arith)

pub ends_seen : (board : BoardView) (seat : SeatView) (durable : ℕ) → EndsWithDurable board seat durable → seen_durable board.plan.base seat.steps ≤ durable
ends_seen board seat durable end =
    let fits = end.lawful.seats end.place end.view end.there in
    let seen = durable_stands board.plan.base end.words end.view.steps end.lawful.lasting fits.stand in
    let last = end.last in
    subst (λ (steps : List WordStep). seen_durable board.plan.base steps ≤ durable) (ap (λ (s : SeatView). s.steps) end.shows) (omega arith)
