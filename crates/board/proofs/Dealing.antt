-- A board opens as its rule has it, and so do its seats.
use Rattle.std.proofs.Common.{◌≡◌, ◌≢◌, ◌⊎◌, ℕ, zero, suc, ◌+◌, ◌-◌, ◌<◌, ◌≤◌, cond, eqb, eq-eqb, ne_eqb, List}
use Rattle.std.proofs.Common.{false, true≢false, [], ◌∷◌, ◌++◌, set, length, replicate, refl, sym, ap, ◌∙◌, subst, ⊎_elim, inl, inr, arith}
use mathlib.Core.Option.{some, some-ne-none, some-injective}
use lib.ListN.{get_elem?}
use Rattle.atomic_table.specs.Table.{Splits, Joins}
use Rattle.atomic_table.proofs.Lists.{at_set, set_again}
use Rattle.board.specs.declared.rule.Plan.{Plan}
use Rattle.board.specs.declared.rule.View.{View}
use Rattle.board.specs.declared.rule.Role.{Role}
use Rattle.board.specs.declared.rule.Role.TheVariants.{Terminal, Book, Clock, Logger, Gone}
use Rattle.board.specs.Words.{floor_in, mark_in, durable_in}
use Rattle.board.specs.Steps.{seen_durable, RespectsFloors, AllStand}
use Rattle.board.specs.Rule.{role_number, is_gone, KnowsOwn, FitsWords, IsLawfulBoard}
use Rattle.board.specs.Dealing.{IsDealer, first_view, dealt_on, clock_view, logger_view, terminal_view, told_view, gone_view}
use Rattle.board.specs.Plays.{with_seen}
use Rattle.board.proofs.Owned.{owns_durable}
use Rattle.board.proofs.Standing.{durable_stands}

-- a list with one more: an element is an earlier one, or the new one at the end
at_end : (l : List View) (a b : View) (j : ℕ) → get_elem? (l ++ a ∷ []) j ≡ some b → (get_elem? l j ≡ some b) ⊎ ((j ≡ length l) × (a ≡ b))
at_end [] a b zero e = inr (refl, some-injective a b e)
at_end [] a b (suc j) e = absurd (some-ne-none b (sym e))
at_end (x ∷ xs) a b zero e = inl e
at_end (x ∷ xs) a b (suc j) e = ⊎_elim inl (λ t. inr (ap suc t.0, t.1)) (at_end xs a b j e)

-- the seat of each role, once this role's is there
abbrev with_seat : (ℕ → ℕ) → ℕ → ℕ → ℕ → ℕ
with_seat seat_of number seat n = cond (eqb n number) seat (seat_of n)

with_seat_new : (seat_of : ℕ → ℕ) (number seat n : ℕ) → n ≡ number → with_seat seat_of number seat n ≡ seat
with_seat_new seat_of number seat n e = ap (λ b. cond b seat (seat_of n)) (eq-eqb n number e)

with_seat_old : (seat_of : ℕ → ℕ) (number seat n : ℕ) → n ≢ number → with_seat seat_of number seat n ≡ seat_of n
with_seat_old seat_of number seat n apart = ap (λ b. cond b seat (seat_of n)) (ne_eqb n number apart)

-- a seat that fits goes on to fit as one role more has its seat
fits_dealt : (seat_of : ℕ → ℕ) (dealt new : ℕ) (plan : Plan) (words : List ℕ) (j : ℕ) (u : View) → FitsWords seat_of dealt plan words j u → u.role ≢ Book
    → FitsWords (with_seat seat_of dealt new) (dealt + 1) plan words j u
fits_dealt seat_of dealt new plan words j u fits other = record {
  planned = fits.planned;
  alone = λ some. with_seat_old seat_of dealt new (role_number u.role) (let below = fits.below in λ e. omega arith) ∙ fits.alone some;
  below = (let below = fits.below in omega arith);
  dealer = λ e. absurd (other e);
  stand = fits.stand;
  respects = fits.respects;
  owns = fits.owns;
}

-- what the holder of a new seat of this role knows
abbrev pub new_view : Plan → Role → View
new_view plan role = record { plan = plan; role = role; dealt = 0; steps = [] }

module _ (plan : Plan) (words : List ℕ) (views : List View) (seat : ℕ) (v : View) (lawful : IsLawfulBoard plan words views)
    (at : get_elem? views seat ≡ some v) (book : v.role ≡ Book) (role : Role) (number : role_number role ≡ lawful.dealt)
    (within : lawful.dealt < plan.loggers + 3) where
  fits : FitsWords lawful.seat_of lawful.dealt plan words seat v
  fits = lawful.seats seat v at

  abbrev place : ℕ
  place = length (set views seat (dealt_on v))

  abbrev seat_of : ℕ → ℕ
  seat_of = with_seat lawful.seat_of lawful.dealt place

  some_dealt : 1 < lawful.dealt
  some_dealt = let below = fits.below in let one = ap role_number book in omega arith

  dealer_fits : FitsWords seat_of (lawful.dealt + 1) plan words seat (dealt_on v)
  dealer_fits = record {
    planned = fits.planned;
    alone = λ some. with_seat_old lawful.seat_of lawful.dealt place (role_number v.role) (let below = fits.below in λ e. omega arith) ∙ fits.alone some;
    below = (let below = fits.below in omega arith);
    dealer = λ e. ap (λ (n : ℕ). n + 1) (fits.dealer e);
    stand = fits.stand;
    respects = fits.respects;
    owns = fits.owns;
  }

  new_fits : (j : ℕ) → j ≡ place → FitsWords seat_of (lawful.dealt + 1) plan words j (new_view v.plan role)
  new_fits j last = record {
    planned = λ _. fits.planned (ap is_gone book);
    alone = λ some. with_seat_new lawful.seat_of lawful.dealt place (role_number role) number ∙ sym last;
    below = omega arith;
    dealer = λ e. absurd (let one = ap role_number e in let more = some_dealt in omega arith);
    stand = tt;
    respects = tt;
    owns = lawful.idle role (omega arith) (omega arith);
  }

  not_book : (j : ℕ) (u : View) → j ≢ seat → FitsWords lawful.seat_of lawful.dealt plan words j u → u.role ≢ Book
  not_book j u apart other is =
      let mine = fits.alone (let one = ap role_number book in omega arith) in
      let theirs = other.alone (let one = ap role_number is in omega arith) in
      apart (sym theirs ∙ (ap lawful.seat_of (ap role_number is ∙ sym (ap role_number book)) ∙ mine))

  pub dealt_role : IsLawfulBoard plan words (set views seat (dealt_on v) ++ new_view v.plan role ∷ [])
  dealt_role = record {
    seat_of = seat_of;
    dealt = lawful.dealt + 1;
    few = lawful.few;
    size = lawful.size;
    begun = lawful.begun;
    ends = lawful.ends;
    floors = lawful.floors;
    lasting = lawful.lasting;
    durable = lawful.durable;
    idle = λ r late inside. lawful.idle r (omega arith) inside;
    seats = λ j u e.
        ⊎_elim
        (λ was.
        ⊎_elim
        (λ (x : (j ≡ seat) × (dealt_on v ≡ u)).
        subst (λ (y : ℕ × View). FitsWords seat_of (lawful.dealt + 1) plan words y.0 y.1) (λ i. (sym x.0 i, x.1 i)) dealer_fits)
        (λ (x : (j ≢ seat) × (get_elem? views j ≡ some u)).
        let other = lawful.seats j u x.1 in
        fits_dealt lawful.seat_of lawful.dealt place plan words j u other (not_book j u x.0 other))
        (at_set views seat j (dealt_on v) u was))
        (λ (x : (j ≡ place) × (new_view v.plan role ≡ u)).
        subst (λ (y : View). FitsWords seat_of (lawful.dealt + 1) plan words j y) x.1 (new_fits j x.0))
        (at_end (set views seat (dealt_on v)) (new_view v.plan role) u j e);
  }

-- a seat knows something else that fits
replaced : (plan : Plan) (words : List ℕ) (views : List View) (seat : ℕ) (lawful : IsLawfulBoard plan words views) (w : View)
    → FitsWords lawful.seat_of lawful.dealt plan words seat w → IsLawfulBoard plan words (set views seat w)
replaced plan words views seat lawful w fits = record {
  seat_of = lawful.seat_of;
  dealt = lawful.dealt;
  few = lawful.few;
  size = lawful.size;
  begun = lawful.begun;
  ends = lawful.ends;
  floors = lawful.floors;
  lasting = lawful.lasting;
  durable = lawful.durable;
  idle = lawful.idle;
  seats = λ j u e.
      ⊎_elim
      (λ (x : (j ≡ seat) × (w ≡ u)).
      subst (λ (y : ℕ × View). FitsWords lawful.seat_of lawful.dealt plan words y.0 y.1) (λ i. (sym x.0 i, x.1 i)) fits)
      (λ (x : (j ≢ seat) × (get_elem? views j ≡ some u)). lawful.seats j u x.1)
      (at_set views seat j w u e);
}

-- a terminal's seat more, whose steps stand
one_more : (plan : Plan) (words : List ℕ) (views : List View) (seat : ℕ) (v : View) → IsLawfulBoard plan words views → get_elem? views seat ≡ some v
    → (w : View) → w.role ≡ Terminal → w.plan ≡ plan → AllStand words w.steps → RespectsFloors w.steps
    → IsLawfulBoard plan words (set views seat v ++ w ∷ [])
one_more plan words views seat v lawful at w terminal planned stand respects =
    record {
      seat_of = lawful.seat_of;
      dealt = lawful.dealt;
      few = lawful.few;
      size = lawful.size;
      begun = lawful.begun;
      ends = lawful.ends;
      floors = lawful.floors;
      lasting = lawful.lasting;
      durable = lawful.durable;
      idle = lawful.idle;
      seats = λ j u e.
          ⊎_elim
          (λ was. lawful.seats j u (subst (λ l. get_elem? l j ≡ some u) (set_again views seat v at) was))
          (λ (x : (j ≡ length (set views seat v)) × (w ≡ u)).
          subst (λ (y : View). FitsWords lawful.seat_of lawful.dealt plan words j y) x.1
          (record {
            planned = λ _. planned;
            alone = λ some. absurd (let none = ap role_number terminal in omega arith);
            below = (let below = (lawful.seats seat v at).below in let none = ap role_number terminal in omega arith);
            dealer = λ e. absurd (let zero_one = ap role_number (sym terminal ∙ e) in omega arith);
            stand = stand;
            respects = respects;
            owns = subst (λ r. KnowsOwn plan words r w.steps) (sym terminal) tt;
          }))
          (at_end (set views seat v) w u j e);
    }

-- a seat for the clock, for a logger and for a terminal
pub deals_clock : (plan : Plan) (seat : ℕ) (v : View) → IsDealer v.plan 2 v
    → Splits {S = Unit {0}} (λ s. IsLawfulBoard plan s.words s.views) seat v (dealt_on v) (clock_view v)
deals_clock plan seat v dealer s lawful at =
    let book = ap (λ (u : View). u.role) dealer in
    let dealt : 2 ≡ lawful.dealt = sym (ap (λ (u : View). u.dealt) dealer) ∙ (lawful.seats seat v at).dealer book in
    dealt_role plan s.words s.views seat v lawful at book Clock dealt (omega arith)

pub deals_logger : (plan : Plan) (seat : ℕ) (v : View) (number : ℕ) → number < v.plan.loggers → IsDealer v.plan (number + 3) v
    → Splits {S = Unit {0}} (λ s. IsLawfulBoard plan s.words s.views) seat v (dealt_on v) (logger_view v)
deals_logger plan seat v number within dealer s lawful at =
    let fits = lawful.seats seat v at in
    let book = ap (λ (u : View). u.role) dealer in
    let here : v.dealt ≡ number + 3 = ap (λ (u : View). u.dealt) dealer in
    let dealt : v.dealt ≡ lawful.dealt = fits.dealer book in
    let inside = subst (λ (p : Plan). number < p.loggers) (fits.planned (ap is_gone book)) within in
    dealt_role plan s.words s.views seat v lawful at book (Logger (v.dealt - 3)) (omega arith) (omega arith)

pub deals_terminal : (plan : Plan) (seat : ℕ) (v : View) → is_gone v.role ≡ false → Splits {S = Unit {0}} (λ s. IsLawfulBoard plan s.words s.views) seat v v (terminal_view v)
deals_terminal plan seat v here s lawful at =
    let mine = lawful.seats seat v at in
    one_more plan s.words s.views seat v lawful at (terminal_view v) refl (mine.planned here) tt tt

-- and a terminal's seat that knows what this one knows
pub tells_durable : (plan : Plan) (seat : ℕ) (v : View) → is_gone v.role ≡ false
    → Splits {S = Unit {0}} (λ s. IsLawfulBoard plan s.words s.views) seat v v (told_view v)
tells_durable plan seat v here s lawful at =
    let mine = lawful.seats seat v at in
    one_more plan s.words s.views seat v lawful at (told_view v) refl (mine.planned here) mine.stand mine.respects

-- a seat that learns what another one has seen of D, which is then gone
pub gathers_durable : (plan : Plan) (seat : ℕ) (v : View) (other : ℕ) (w : View) → is_gone w.role ≡ false
    → Joins {S = Unit {0}} (λ s. IsLawfulBoard plan s.words s.views) seat v other w (with_seen v w) gone_view
gathers_durable plan seat v other w here s lawful at apart there =
    let seen = seen_durable w.plan.base w.steps in
    let theirs = ⊎_elim (λ (t : (other ≡ seat) × (with_seen v w ≡ w)). absurd (apart t.0))
    (λ (t : (other ≢ seat) × (get_elem? s.views other ≡ some w)). lawful.seats other w t.1) (at_set s.views seat other (with_seen v w) w there) in
    let stands : seen ≤ durable_in s.words = subst (λ (p : Plan). seen_durable p.base w.steps ≤ durable_in s.words) (sym (theirs.planned here))
    (durable_stands plan.base s.words w.steps lawful.lasting theirs.stand) in
    let mine = lawful.seats seat v at in
    let first = replaced plan s.words s.views seat lawful (with_seen v w) (record {
      planned = mine.planned;
      alone = mine.alone;
      below = mine.below;
      dealer = mine.dealer;
      stand = (stands, mine.stand);
      respects = mine.respects;
      owns = owns_durable plan s.words v.role v.steps seen mine.owns;
    }) in
    replaced plan s.words (set s.views seat (with_seen v w)) other first gone_view (record {
      planned = λ e. absurd (true≢false e);
      alone = λ some. absurd (omega arith);
      below = (let below = (first.seats other w there).below in omega arith);
      dealer = λ e. absurd (let zero_one = ap role_number e in omega arith);
      stand = tt;
      respects = tt;
      owns = tt;
    })

-- the words as a board opens
abbrev pub opening_words : ℕ → List ℕ
opening_words base = set (set (replicate 19 base) 16 (base + 1)) 17 0

opening_floor : (base l : ℕ) → l < 8 → floor_in (opening_words base) l ≤ base
opening_floor base zero low = omega arith
opening_floor base (suc zero) low = omega arith
opening_floor base (suc (suc zero)) low = omega arith
opening_floor base (suc (suc (suc zero))) low = omega arith
opening_floor base (suc (suc (suc (suc zero)))) low = omega arith
opening_floor base (suc (suc (suc (suc (suc zero))))) low = omega arith
opening_floor base (suc (suc (suc (suc (suc (suc zero)))))) low = omega arith
opening_floor base (suc (suc (suc (suc (suc (suc (suc zero))))))) low = omega arith
opening_floor base (suc (suc (suc (suc (suc (suc (suc (suc l)))))))) low = absurd (omega arith)

opening_mark : (base l : ℕ) → l < 8 → mark_in (opening_words base) l ≡ base
opening_mark base zero low = refl
opening_mark base (suc zero) low = refl
opening_mark base (suc (suc zero)) low = refl
opening_mark base (suc (suc (suc zero))) low = refl
opening_mark base (suc (suc (suc (suc zero)))) low = refl
opening_mark base (suc (suc (suc (suc (suc zero))))) low = refl
opening_mark base (suc (suc (suc (suc (suc (suc zero)))))) low = refl
opening_mark base (suc (suc (suc (suc (suc (suc (suc zero))))))) low = refl
opening_mark base (suc (suc (suc (suc (suc (suc (suc (suc l)))))))) low = absurd (omega arith)

opening_idle : (plan : Plan) → plan.loggers ≤ 8 → (r : Role) → 2 ≤ role_number r → role_number r < plan.loggers + 3
    → KnowsOwn plan (opening_words plan.base) r []
opening_idle plan few Terminal late inside = absurd (omega arith)
opening_idle plan few Gone late inside = absurd (omega arith)
opening_idle plan few Book late inside = absurd (omega arith)
opening_idle plan few Clock late inside = refl
opening_idle plan few (Logger l) late inside = (omega arith, opening_mark plan.base l (omega arith))

pub opens : (plan : Plan) → plan.loggers ≤ 8 → plan.base < 4294967295 → IsLawfulBoard plan (opening_words plan.base) (first_view plan ∷ [])
opens plan few room = record {
  seat_of = λ _. 0;
  dealt = 2;
  few = few;
  size = refl;
  begun = omega arith;
  ends = omega arith;
  floors = λ l low. let f = opening_floor plan.base l low in omega arith;
  lasting = omega arith;
  durable = λ l within. let m = opening_mark plan.base l (omega arith) in omega arith;
  idle = opening_idle plan few;
  seats = one;
}
  where
    one : (j : ℕ) (u : View) → get_elem? (first_view plan ∷ []) j ≡ some u → FitsWords (λ _. 0) 2 plan (opening_words plan.base) j u
    one zero u e = subst (λ (y : View). FitsWords (λ _. 0) 2 plan (opening_words plan.base) 0 y) (some-injective (first_view plan) u e)
        (record {
          planned = λ _. refl;
          alone = λ some. refl;
          below = omega arith;
          dealer = λ same. refl;
          stand = tt;
          respects = tt;
          owns = (refl, λ l low. let f = opening_floor plan.base l low in omega arith);
        })
    one (suc j) u e = absurd (some-ne-none u (sym e))
