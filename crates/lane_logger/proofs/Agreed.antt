-- A lane of what one pass knows is a lane of what another one of the same history knows.
use Rattle.std.proofs.Common.{◌≡◌, ◌⊎◌, ℕ, ◌+◌, ◌<◌, ◌≤◌, ◌%◌, ◌==◌, Bool, List, [], ◌∷◌, ◌++◌, length, All, refl, sym, ap, ◌∙◌, subst, ⊎_elim, inl, inr, arith, append-nil, length-append}
use Rattle.std.proofs.lemmas.List.Elements.{filter-append, All-filter, All-weaker}
use Rattle.tidword.specs.TidWord.{epoch_of}
use Rattle.annals.specs.declared.claims.Claim.{Claim}
use Rattle.annals.specs.Claims.{AreOfOne}
use Rattle.log_header.specs.Header.{HeaderView}
use Rattle.log_text.specs.Bodies.{BodyView}
use Rattle.book.specs.Batches.{BatchView}
use Rattle.book.specs.Dates.{date_of}
use Rattle.book.specs.Streams.{stream}
use Rattle.book.specs.declared.entry.Entry.{Entry}
use Rattle.logfile.specs.Standing.{LogFileView}
use Rattle.recover_crashes.specs.World.{DiskView, Idle}
use Rattle.recover_crashes.specs.Lanes.{FitsLane}
use Rattle.recover_crashes.proofs.Lists.{all_in_front}
use Rattle.recover_crashes.proofs.Lanes.{lane_goes_on, lane_later}

abbrev rest_of : {X : Type 0} → List X → List X
rest_of [] = []
rest_of (x ∷ xs) = xs

abbrev first_or : {X : Type 0} → X → List X → X
first_or d [] = d
first_or d (x ∷ xs) = x

-- of two beginnings of a list one begins the other
compared : {X : Type 0} (xs ys us vs : List X) → xs ++ us ≡ ys ++ vs
    → ((more : List X) × (ys ≡ xs ++ more) × (us ≡ more ++ vs)) ⊎ ((more : List X) × (xs ≡ ys ++ more))
compared [] ys us vs e = inl (ys, refl, e)
compared (x ∷ xs) [] us vs e = inr (x ∷ xs, refl)
compared {X} (x ∷ xs) (y ∷ ys) us vs e =
    let same : x ≡ y = ap (first_or x) e in
    ⊎_elim
    (λ (t : (more : List X) × (ys ≡ xs ++ more) × (us ≡ more ++ vs)). inl (t.0, (λ i. sym same i ∷ t.1 i), t.2))
    (λ (t : (more : List X) × (xs ≡ ys ++ more)). inr (t.0, λ i. same i ∷ t.1 i))
    (compared xs ys us vs (ap rest_of e))

none_left : {X : Type 0} (l : List X) → length l ≡ 0 → l ≡ []
none_left [] e = refl
none_left (x ∷ xs) e = absurd (omega arith)

module _ (h : HeaderView) (past : ℕ) (n l : ℕ) (old : List BodyView) (landed : List BatchView) (file : LogFileView DiskView) (local : ℕ) (c d : Claim Entry)
    (one : AreOfOne date_of c d) (up : c.mark ≤ d.mark) (whole : file.count ≡ length (stream n l c.front))
    (within : file.count ≤ length (stream n l d.front))
    (lane : FitsLane h past (c.mark + 1) (stream n l c.front) old landed file Idle local) where
  abbrev own : Entry → Bool
  own e = e.terminal % n == l

  -- the other claim's front has more
  longer : (more : List Entry) → d.front ≡ c.front ++ more → one.one.rest ≡ more ++ one.other.rest
      → FitsLane h past (c.mark + 1) (stream n l d.front) old landed file Idle local
  longer more is rest =
      let all : All (λ e. c.mark < date_of e) (more ++ one.other.rest) = subst (All (λ e. c.mark < date_of e)) rest one.one.later in
      let new = all_in_front (λ e. c.mark < date_of e) more one.other.rest all in
      subst (λ (s : List Entry). FitsLane h past (c.mark + 1) s old landed file Idle local)
      (sym (ap (stream n l) is ∙ filter-append own c.front more))
      (lane_goes_on h past (c.mark + 1) (stream n l c.front) old landed file Idle local lane (c.mark + 1) (stream n l more) (omega arith)
      (All-filter own (λ e. c.mark + 1 ≤ epoch_of e.tid) more
      (All-weaker (λ e. c.mark < date_of e) (λ e. c.mark + 1 ≤ epoch_of e.tid) (λ e p. omega arith) more new)))

  -- or less, none of which is of this stream
  shorter : (more : List Entry) → c.front ≡ d.front ++ more → FitsLane h past (c.mark + 1) (stream n l d.front) old landed file Idle local
  shorter more is =
      let parts : stream n l c.front ≡ stream n l d.front ++ stream n l more = ap (stream n l) is ∙ filter-append own d.front more in
      let none : stream n l more ≡ []
      = none_left (stream n l more) (omega (arith, whole, within, ap length parts, length-append (stream n l d.front) (stream n l more))) in
      subst (λ (s : List Entry). FitsLane h past (c.mark + 1) s old landed file Idle local)
      (parts ∙ ap (λ (s : List Entry). stream n l d.front ++ s) none ∙ append-nil (stream n l d.front)) lane

  pub over : FitsLane h past (d.mark + 1) (stream n l d.front) old landed file Idle local
  over = lane_later h past (c.mark + 1) (stream n l d.front) old landed file Idle local
      (⊎_elim
      (λ (t : (more : List Entry) × (d.front ≡ c.front ++ more) × (one.one.rest ≡ more ++ one.other.rest)). longer t.0 t.1 t.2)
      (λ (t : (more : List Entry) × (c.front ≡ d.front ++ more)). shorter t.0 t.1)
      (compared c.front d.front one.one.rest one.other.rest (sym one.one.beginning ∙ one.other.beginning)))
      (d.mark + 1) (omega arith)
