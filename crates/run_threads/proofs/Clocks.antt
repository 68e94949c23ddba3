-- Loggers that go to work one after another, and the clock that the first gets.
use Rattle.std.proofs.Common.{◌≡◌, ℕ, zero, suc, Option, None, List, [], ◌∷◌, ◌++◌, map, refl, sym, ap, ◌∙◌}
use Rattle.std.proofs.lemmas.List.{map-append}
use Rattle.board.specs.Seats.{SeatView}
use Rattle.run_threads.specs.Clocks.{clocks}

-- the clock that is left behind so many loggers
abbrev pub clock_left : Option SeatView → ℕ → Option SeatView
clock_left clock zero = clock
clock_left clock (suc loggers) = None

none_left : (loggers : ℕ) → clock_left None loggers ≡ None
none_left zero = refl
none_left (suc loggers) = refl

-- one logger more gets what is left
clocks_more : (clock : Option SeatView) (loggers : ℕ) → clocks clock (suc loggers) ≡ clocks clock loggers ++ clock_left clock loggers ∷ []
clocks_more clock zero = refl
clocks_more clock (suc loggers) =
    ap (λ (rest : List (Option SeatView)). clock ∷ rest)
    (clocks_more None loggers ∙ ap (λ (left : Option SeatView). clocks None loggers ++ left ∷ []) (none_left loggers))

pub clocks_pushed : {W : Type 0} (clock_of : W → Option SeatView) (old new : List W) (w : W) (clock : Option SeatView) (loggers more : ℕ)
    → new ≡ old ++ w ∷ [] → clock_of w ≡ clock_left clock loggers → map clock_of old ≡ clocks clock loggers → more ≡ suc loggers
    → map clock_of new ≡ clocks clock more
clocks_pushed clock_of old new w clock loggers more pushed given before count =
    ap (map clock_of) pushed
    ∙ map-append clock_of old (w ∷ [])
    ∙ ap (λ (front : List (Option SeatView)). front ++ clock_of w ∷ []) before
    ∙ ap (λ (last : Option SeatView). clocks clock loggers ++ last ∷ []) given
    ∙ sym (clocks_more clock loggers)
    ∙ sym (ap (clocks clock) count)

-- of which each has its own
pub own_pushed : {W L X : Type 0} (f : W → X) (h : L → X) (old new : List W) (w : W) (items : List L) (l : L) → new ≡ old ++ w ∷ []
    → f w ≡ h l → map f old ≡ map h items → map f new ≡ map h (items ++ l ∷ [])
own_pushed {W} {L} {X} f h old new w items l pushed same before =
    ap (map f) pushed
    ∙ map-append f old (w ∷ [])
    ∙ ap (λ (front : List X). front ++ f w ∷ []) before
    ∙ ap (λ (last : X). map h items ++ last ∷ []) same
    ∙ sym (map-append h items (l ∷ []))
