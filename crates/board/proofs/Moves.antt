-- A step that meets `IsMove` keeps the rule.
use Rattle.std.proofs.Common.{◌≡◌, ◌≢◌, ℕ, ◌<◌, ◌≤◌, List, [], ◌∷◌, set, length, sym, ap, ◌∙◌, subst, ⊎_elim, arith}
use Rattle.std.specs.Prelude.{slice_index}
use Rattle.std.proofs.lemmas.List.{set-get_or}
use mathlib.Core.Option.{some}
use mathlib.Core.Logic.{dite}
use native.Mathlib.Decide.{ℕ_discrete}
use lib.ListN.{get_elem?}
use Rattle.atomic_table.specs.Table.{Allows, Me, keeps}
use Rattle.atomic_table.proofs.Lists.{at_set}
use Rattle.board.specs.declared.rule.Plan.{Plan}
use Rattle.board.specs.declared.rule.View.{View}
use Rattle.board.specs.declared.rule.Role.{Role}
use Rattle.board.specs.declared.rule.WordStep.{WordStep}
use Rattle.board.specs.Words.{mark_in, floor_in, epoch_in, durable_in}
use Rattle.board.specs.Steps.{RespectsFloors, StillStands}
use Rattle.board.specs.Rule.{role_number, KnowsOwn, FitsWords, IsLawfulBoard}
use Rattle.board.specs.Plays.{with_step}
use Rattle.board.proofs.Standing.{Rise, all_later}
use Rattle.board.proofs.Owned.{none_own}

-- what a step of the seat that knows v has to show of the words after it
pub record IsMove (plan : Plan) (words after : List ℕ) (v : View) (step : WordStep) : Type 0 where
  pub rise : Rise words after
  pub size : length after ≡ 19
  pub ends : epoch_in after ≤ 4294967295
  pub floors : (l : ℕ) → l < 8 → floor_in after l ≤ epoch_in after
  pub durable : (l : ℕ) → l < plan.loggers → durable_in after ≤ mark_in after l
  pub stands : StillStands after step
  pub respects : RespectsFloors (step ∷ v.steps)
  pub owns : KnowsOwn plan after v.role (step ∷ v.steps)
  pub others : (r : Role) (steps : List WordStep) → role_number r ≢ role_number v.role → KnowsOwn plan words r steps → KnowsOwn plan after r steps

module _ (plan : Plan) (words after : List ℕ) (views : List View) (seat : ℕ) (v : View) (step : WordStep) (lawful : IsLawfulBoard plan words views)
    (at : get_elem? views seat ≡ some v) (move : IsMove plan words after v step) where
  -- another seat still knows its own words
  owns_after : (j : ℕ) (u : View) → j ≢ seat → FitsWords lawful.seat_of lawful.dealt plan words j u → KnowsOwn plan after u.role u.steps
  owns_after j u apart fits =
      dite (ℕ_discrete (role_number u.role) (role_number v.role))
      (λ same.
      dite (ℕ_discrete (role_number u.role) 0)
      (none_own plan after u.role u.steps)
      (λ some. absurd
      (apart
      (sym (fits.alone (omega arith))
      ∙ (ap lawful.seat_of same ∙ (lawful.seats seat v at).alone (omega arith))))))
      (λ other. move.others u.role u.steps other fits.owns)

  fits_after : (j : ℕ) (u : View) → get_elem? (set views seat (with_step v step)) j ≡ some u → FitsWords lawful.seat_of lawful.dealt plan after j u
  fits_after j u e =
      ⊎_elim
      (λ (x : (j ≡ seat) × (with_step v step ≡ u)).
      let fits = lawful.seats seat v at in
      subst (λ (y : ℕ × View). FitsWords lawful.seat_of lawful.dealt plan after y.0 y.1) (λ i. (sym x.0 i, x.1 i))
      (record {
        planned = fits.planned;
        alone = fits.alone;
        below = fits.below;
        dealer = fits.dealer;
        stand = (move.stands, all_later words after move.rise v.steps fits.stand);
        respects = move.respects;
        owns = move.owns;
      }))
      (λ (x : (j ≢ seat) × (get_elem? views j ≡ some u)).
      let fits = lawful.seats j u x.1 in
      record {
        planned = fits.planned;
        alone = fits.alone;
        below = fits.below;
        dealer = fits.dealer;
        stand = all_later words after move.rise u.steps fits.stand;
        respects = fits.respects;
        owns = owns_after j u x.0 fits;
      })
      (at_set views seat j (with_step v step) u e)

  pub goes : IsLawfulBoard plan after (set views seat (with_step v step))
  goes = record {
    seat_of = lawful.seat_of;
    dealt = lawful.dealt;
    few = lawful.few;
    size = move.size;
    begun = (let low = lawful.begun in let up = move.rise 16 in omega arith);
    ends = move.ends;
    floors = move.floors;
    lasting = (let low = lawful.lasting in let up = move.rise 18 in omega arith);
    durable = move.durable;
    idle = λ r late within.
        move.others r [] (let below = (lawful.seats seat v at).below in omega arith) (lawful.idle r late within);
    seats = fits_after;
  }

-- a load
pub stays : (plan : Plan) (words : List ℕ) (views : List View) (v : View) (i : ℕ) (step : WordStep) → IsLawfulBoard plan words views
    → StillStands words step → RespectsFloors (step ∷ v.steps) → KnowsOwn plan words v.role (step ∷ v.steps)
    → IsMove plan words (set words i (slice_index words i)) v step
stays plan words views v i step lawful stands respects owns =
    subst (λ after. IsMove plan words after v step) (sym (set-get_or words i 0))
    (record {
      rise = λ j. omega arith;
      size = lawful.size;
      ends = lawful.ends;
      floors = lawful.floors;
      durable = lawful.durable;
      stands = stands;
      respects = respects;
      owns = owns;
      others = λ r steps apart h. h;
    })

-- whatever the board is as the word changes, the seat makes this step
pub allows : (plan : Plan) (slots seat i : ℕ) (me : Me (Unit {0}) View) (f : ℕ → ℕ) (then : ℕ → Me (Unit {0}) View → Type 0)
    → ((words : List ℕ) (views : List View) → IsLawfulBoard plan words views → get_elem? views seat ≡ some me.0
    → (step : WordStep) × IsMove plan words (set words i (f (slice_index words i))) me.0 step
    × then (slice_index words i) (with_step me.0 step, me.1))
    → Allows (λ s. IsLawfulBoard plan s.words s.views) slots seat me i f then
allows plan slots seat i me f then can s lawful same at below =
    let m = can s.words s.views lawful at in (
      with_step me.0 m.0,
      keeps,
      tt,
      goes plan s.words (set s.words i (f (slice_index s.words i))) s.views seat me.0 m.0 lawful at m.1,
      m.2,
    )
