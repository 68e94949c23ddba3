-- What a history keeps in its beginnings and streams; the entries up to an epoch are a beginning of one whose epochs don't fall.
use Rattle.std.proofs.Common.{◌≡◌, ℕ, ◌+◌, ◌<◌, ◌≤◌, Bool, true, false, cond, filter, List, [], ◌∷◌, ◌++◌, subst, refl, sym, ap, ◌∙◌, arith}
use Rattle.std.specs.Prelude.{nat_le, ◌&&◌, not}
use Rattle.std.specs.List.{All}
use Rattle.std.proofs.lemmas.Bool.{leb-true, leb-false, lt-leb}
use Rattle.std.proofs.lemmas.List.Elements.{All-filter, All-head, All-tail}
use Rattle.tidword.specs.TidWord.{epoch_of}
use Rattle.tables.specs.Database.{Database}
use Rattle.tables.specs.Apply.{after}
use Rattle.book.specs.History.{Replays}
use Rattle.book.specs.Stamps.{AreStamped, Follows}
use Rattle.book.specs.Loggable.{NumbersRise}
use Rattle.book.specs.Streams.{last_number}
use Rattle.book.specs.declared.entry.Entry.{Entry}
use Rattle.recover_found.specs.Found.{up_to}
use Rattle.recover_crashes.specs.Recovering.{cut}
use Rattle.recover_crashes.proofs.Lists.{kept_here, left_out, none_kept, all_in_front}

pub replays_front : (n : ℕ) (t : Database) (xs ys : List Entry) → Replays n t (xs ++ ys) → Replays n t xs
replays_front n t [] ys h = tt
replays_front n t (x ∷ xs) ys h = (h.0, h.1, replays_front (n + 1) (after t x.input) xs ys h.2)

pub stamped_front : (xs ys : List Entry) → AreStamped (xs ++ ys) → AreStamped xs
stamped_front [] ys h = tt
stamped_front (x ∷ xs) ys h = (h.0, all_in_front (Follows x) xs ys h.1, stamped_front xs ys h.2)

-- an epoch above the durable one doesn't count, and one up to it does where it isn't void
pub above_out : (durable epoch : ℕ) (void : ℕ → Bool) → durable < epoch → up_to durable void epoch ≡ false
above_out durable epoch void above = ap (λ (b : Bool). b && not (void epoch)) (lt-leb epoch durable above)

pub alive_counts : (durable epoch : ℕ) (void : ℕ → Bool) → void epoch ≡ false → up_to durable void epoch ≡ nat_le epoch durable
alive_counts durable epoch void alive = by (nat_le epoch durable)
  where
    by : (b : Bool) → (b && not (void epoch)) ≡ b
    by true = ap not alive
    by false = refl

-- what counts is of an epoch up to the durable one, and not void
pub counts_low : (durable epoch : ℕ) (void : ℕ → Bool) → up_to durable void epoch ≡ true → epoch ≤ durable
counts_low durable epoch void is = by (nat_le epoch durable) refl is
  where
    by : (b : Bool) → nat_le epoch durable ≡ b → (b && not (void epoch)) ≡ true → epoch ≤ durable
    by true low _ = leb-true epoch durable low
    by false _ never = absurd cc

pub counts_alive : (durable epoch : ℕ) (void : ℕ → Bool) → up_to durable void epoch ≡ true → void epoch ≡ false
counts_alive durable epoch void is = by (nat_le epoch durable) (void epoch) is
  where
    by : (a b : Bool) → (a && not b) ≡ true → b ≡ false
    by true true never = absurd cc
    by true false _ = refl
    by false b never = absurd cc

-- where no entry is of a void epoch, what counts is a beginning
pub cut_begins : (durable : ℕ) (void : ℕ → Bool) (h : List Entry) → AreStamped h → All (λ e. void (epoch_of e.tid) ≡ false) h
    → (rest : List Entry) × (h ≡ cut (up_to durable void) h ++ rest)
cut_begins durable void [] stamped alive = ([], refl)
cut_begins durable void (e ∷ es) stamped alive =
    by (cut_begins durable void es stamped.2 (All-tail (λ (d : Entry). void (epoch_of d.tid) ≡ false) e es alive)) (up_to durable void (epoch_of e.tid)) refl
  where
    by : (rest : List Entry) × (es ≡ cut (up_to durable void) es ++ rest) → (b : Bool) → up_to durable void (epoch_of e.tid) ≡ b
        → (rest : List Entry) × (e ∷ es ≡ cut (up_to durable void) (e ∷ es) ++ rest)
    by later true is = (
      later.0,
      ap (λ (l : List Entry). e ∷ l) later.1
          ∙ ap (λ (l : List Entry). l ++ later.0) (sym (kept_here (λ (d : Entry). up_to durable void (epoch_of d.tid)) e es is)),
    )
    by later false is =
        let above : durable < epoch_of e.tid
        = leb-false (epoch_of e.tid) durable (sym (alive_counts durable (epoch_of e.tid) void (All-head (λ (d : Entry). void (epoch_of d.tid) ≡ false) e es alive)) ∙ is) in
        let none : All (λ (d : Entry). up_to durable void (epoch_of d.tid) ≡ false) es
        = λ k d lt. above_out durable _ void (omega (arith, above, (stamped.1 k d lt).epochs)) in (
          e ∷ es,
          ap (λ (l : List Entry). l ++ (e ∷ es))
              (sym (left_out (λ (d : Entry). up_to durable void (epoch_of d.tid)) e es is ∙ none_kept (λ (d : Entry). up_to durable void (epoch_of d.tid)) es none)),
        )

-- ---- commit numbers
rise_lower : (a b : ℕ) (es : List Entry) → a ≤ b → NumbersRise b es → NumbersRise a es
rise_lower a b [] low rise = tt
rise_lower a b (e ∷ es) low rise = (omega (arith, low, rise.0), rise.1)

numbers_rise : (n : ℕ) (t : Database) (es : List Entry) → Replays (n + 1) t es → NumbersRise n es
numbers_rise n t [] h = tt
numbers_rise n t (e ∷ es) h =
    (omega (arith, h.0), subst (λ (k : ℕ). NumbersRise k es) (sym h.0) (numbers_rise (n + 1) (after t e.input) es h.2))

rise_of_kept : (p : Entry → Bool) (n : ℕ) (es : List Entry) → NumbersRise n es → NumbersRise n (filter p es)
rise_of_kept p n [] rise = tt
rise_of_kept p n (e ∷ es) rise = by (p e) (rise_of_kept p e.number es rise.1)
  where
    by : (b : Bool) → NumbersRise e.number (filter p es) → NumbersRise n (cond b (e ∷ filter p es) (filter p es))
    by true later = (rise.0, later)
    by false later = rise_lower n e.number (filter p es) (omega (arith, rise.0)) later

rise_behind : (n : ℕ) (xs ys : List Entry) → NumbersRise n (xs ++ ys) → NumbersRise (last_number n xs) ys
rise_behind n [] ys rise = rise
rise_behind n (x ∷ xs) ys rise = rise_behind x.number xs ys rise.1

-- the numbers of a stream rise, behind a beginning of it too
pub stream_rises : (past : ℕ) (t : Database) (h : List Entry) (p : Entry → Bool) (xs ys : List Entry) (before : ℕ) → Replays (past + 1) t h
    → filter p h ≡ xs ++ ys → before ≤ last_number past xs → NumbersRise before ys
stream_rises past t h p xs ys before replays is low =
    rise_lower before (last_number past xs) ys low
    (rise_behind past xs ys (subst (NumbersRise past) is (rise_of_kept p past h (numbers_rise past t h replays))))

pub last_number_rises : (a b : ℕ) (es : List Entry) → a ≤ b → last_number a es ≤ last_number b es
last_number_rises a b [] low = low
last_number_rises a b (e ∷ es) low = omega arith

pub last_number_joined : (a : ℕ) (xs ys : List Entry) → last_number a (xs ++ ys) ≡ last_number (last_number a xs) ys
last_number_joined a [] ys = refl
last_number_joined a (x ∷ xs) ys = last_number_joined x.number xs ys

-- ---- TIDs
stamped_kept : (p : Entry → Bool) (es : List Entry) → AreStamped es → AreStamped (filter p es)
stamped_kept p [] stamped = tt
stamped_kept p (e ∷ es) stamped = by (p e) (stamped_kept p es stamped.2)
  where
    by : (b : Bool) → AreStamped (filter p es) → AreStamped (cond b (e ∷ filter p es) (filter p es))
    by true later = (stamped.0, All-filter p (Follows e) es stamped.1, later)
    by false later = later

stamped_behind : (xs ys : List Entry) → AreStamped (xs ++ ys) → AreStamped ys
stamped_behind [] ys stamped = stamped
stamped_behind (x ∷ xs) ys stamped = stamped_behind xs ys stamped.2

pub stream_stamped : (h : List Entry) (p : Entry → Bool) (xs ys : List Entry) → AreStamped h → filter p h ≡ xs ++ ys → AreStamped ys
stream_stamped h p xs ys stamped is = stamped_behind xs ys (subst AreStamped is (stamped_kept p h stamped))
