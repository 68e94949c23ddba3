-- How often numbers stand among entries that rise.
use Rattle.std.proofs.Common.{◌≡◌, ℕ, suc, ◌+◌, ◌<◌, ◌≤◌, cond, List, [], ◌∷◌, ◌++◌, length, map, get_or, take, drop, refl, sym, ap, ◌∙◌, subst, arith}
use Rattle.std.proofs.Common.{⊎_elim, drop-cons, Option, Some, None}
use Rattle.std.specs.Prelude.{◌==◌, MatchOption}
use Rattle.std.specs.List.{All}
use Rattle.std.specs.List.Sorted.{IsNonDecreasingBy, IsPermutation}
use Rattle.std.proofs.lemmas.Bool.Decides.{eqb_tells, nat_tests}
use Rattle.std.proofs.lemmas.List.{get_or-map, length-map, length-take-le, take-append-drop, take_more}
use Rattle.std.proofs.lemmas.List.Elements.{Contains-append_left, Contains-append_right, Contains-push}
use Rattle.std.proofs.lemmas.List.Sorted.{Contains-permutation, IsPermutation-sym, sum_by-IsPermutation}
use Rattle.std.proofs.lemmas.List.Sums.{sum_by-append, sum_by-cons}
use Rattle.log_text.specs.Entries.{EntryView}
use Rattle.recover_found.specs.Rebuilt.{AreNumbered, HaveNoGap}
use Rattle.recover_files.specs.Parts.{commit_of}
use Rattle.recover_files.specs.declared.numbering.Commit.{Commit}
use Rattle.recover_files.proofs.LawfulEntries.{IsPositive}
use Rattle.recover_files.proofs.Ordering.{next_entry, entries_rise}
use Rattle.program_recovery.specs.Flaws.{IsFirstAmiss, IsMisnumbered, times}
use Rattle.program_recovery.specs.declared.gap.Misnumbered.{Misnumbered}
use Rattle.program_recovery.specs.declared.gap.Misnumbered.TheVariants.{Missing, Twice}

-- 1 for an entry of this number
abbrev is_one : ℕ → EntryView → ℕ
is_one n e = cond (e.number == n) 1 0

is_number : (n : ℕ) (e : EntryView) → e.number ≡ n → is_one n e ≡ 1
is_number n e h = grind (arith, nat_tests)

is_above : (n : ℕ) (e : EntryView) → n < e.number → is_one n e ≡ 0
is_above n e h = grind (arith, nat_tests)

is_below : (n : ℕ) (e : EntryView) → e.number < n → is_one n e ≡ 0
is_below n e h = grind (arith, nat_tests)

-- numbers from low on, none below the one before
abbrev pub DoRise : ℕ → List EntryView → Type 0
DoRise low [] = Unit {0}
DoRise low (e ∷ es) = (low ≤ e.number) × DoRise e.number es

none_below : (n low : ℕ) (es : List EntryView) → DoRise low es → n < low → times n es ≡ 0
none_below n low [] rise less = refl
none_below n low (e ∷ es) rise less =
    omega (arith, sum_by-cons (is_one n) e es, is_above n e (omega (arith, rise.0, less)), none_below n e.number es rise.1 (omega (arith, rise.0, less)))

-- numbers from m on stand once each
none_after : (n m : ℕ) (es : List EntryView) → AreNumbered m es → n < m → times n es ≡ 0
none_after n m [] numbers less = refl
none_after n m (e ∷ es) numbers less =
    omega (arith, sum_by-cons (is_one n) e es, is_above n e (omega (arith, numbers.0, less)), none_after n (m + 1) es numbers.1 (omega (arith, less)))

none_before : (n m : ℕ) (es : List EntryView) → AreNumbered m es → m + length es ≤ n → times n es ≡ 0
none_before n m [] numbers more = refl
none_before n m (e ∷ es) numbers more =
    omega (arith, sum_by-cons (is_one n) e es, is_below n e (omega (arith, numbers.0, more)), none_before n (m + 1) es numbers.1 (omega (arith, more)))

once : (n m : ℕ) (es : List EntryView) → AreNumbered m es → m ≤ n → n < m + length es → times n es ≡ 1
once n m [] numbers low high = absurd (omega (arith, low, high))
once n m (e ∷ es) numbers low high =
    let all = sum_by-cons (is_one n) e es in
    let here : n ≡ m → times n (e ∷ es) ≡ 1 = λ same. omega (arith, all, is_number n e (omega (arith, numbers.0, same)), none_after n (m + 1) es numbers.1 (omega (arith, same))) in
    let later : m < n → times n (e ∷ es) ≡ 1 = λ less. omega (arith, all, is_below n e (omega (arith, numbers.0, less)), once n (m + 1) es numbers.1 (omega (arith, less)) (omega (arith, high))) in
    ⊎_elim (λ s. here s.1) (λ other. later (omega (arith, low, other.1))) (eqb_tells n m)

module _ (front : List EntryView) (e : EntryView) (later : List EntryView) (numbers : AreNumbered 1 front) (rise : DoRise e.number later) where
  -- in front of an entry, and then that and those behind it
  parted : (n : ℕ) → times n (front ++ e ∷ later) ≡ times n front + (is_one n e + times n later)
  parted n = sum_by-append (is_one n) front (e ∷ later) ∙ ap (λ (t : ℕ). times n front + t) (sum_by-cons (is_one n) e later)

  before : (n : ℕ) → 1 ≤ n → n ≤ length front → n < e.number → times n (front ++ e ∷ later) ≡ 1
  before n low high less =
      omega (arith, parted n, once n 1 front numbers low (omega (arith, high)), is_above n e less, none_below n e.number later rise less)

  pub missing : (next : ℕ) → next ≡ length front + 1 → next < e.number → IsMisnumbered (front ++ e ∷ later) (Missing next)
  missing next is less = (
    record {
      positive = omega (arith, is);
      before = λ k low high. before k low (omega (arith, high, is)) (omega (arith, high, less));
    },
    omega (arith, parted next, none_before next 1 front numbers (omega (arith, is)), is_above next e less, none_below next e.number later rise less),
    (e, Contains-append_right front (e ∷ later) e (Contains-append_left (e ∷ []) later e (Contains-push [] e)), less),
  )

  pub twice : 1 ≤ e.number → e.number ≤ length front → IsMisnumbered (front ++ e ∷ later) (Twice e.number)
  twice low high = (
    record {
      positive = low;
      before = λ k from to. before k from (omega (arith, to, high)) to;
    },
    omega (arith, parted e.number, once e.number 1 front numbers low (omega (arith, high)), is_number e.number e refl),
  )

-- one entry more, of the next number
pub numbered_more : (m : ℕ) (es : List EntryView) (e : EntryView) → AreNumbered m es → e.number ≡ m + length es → AreNumbered m (es ++ e ∷ [])
numbered_more m [] e numbers is = (omega (arith, is), tt)
numbered_more m (d ∷ es) e numbers is = (numbers.0, numbered_more (m + 1) es e numbers.1 (omega (arith, is)))

-- the first of some entries, or this one
hd_or : EntryView → List EntryView → EntryView
hd_or e [] = e
hd_or e (x ∷ xs) = x

-- entries that rise
rest_rises : (x : EntryView) (xs : List EntryView) → IsNonDecreasingBy (λ (e : EntryView). e.number) (x ∷ xs) → IsNonDecreasingBy (λ (e : EntryView). e.number) xs
rest_rises x xs up = λ i j d h lt. up (suc i) (suc j) d (omega (arith, h)) (omega (arith, lt))

do_rise : (x : EntryView) (xs : List EntryView) → IsNonDecreasingBy (λ (e : EntryView). e.number) (x ∷ xs) → DoRise x.number xs
do_rise x [] up = tt
do_rise x (y ∷ ys) up = (up 0 1 x (omega arith) (omega arith), do_rise y ys (rest_rises x (y ∷ ys) up))

rise_behind : (front : List EntryView) (x : EntryView) (later : List EntryView) → IsNonDecreasingBy (λ (e : EntryView). e.number) (front ++ x ∷ later)
    → DoRise x.number later
rise_behind [] x later up = do_rise x later up
rise_behind (y ∷ ys) x later up = rise_behind ys x later (rest_rises y (ys ++ x ∷ later) up)

-- the entry of commit i, behind those with the numbers 1, 2, 3 and so on
module _ (es : List EntryView) (commits : List Commit) (i : ℕ) (c : Commit) (same : commits ≡ map commit_of es) (within : i < length commits)
    (is : c ≡ get_or commits i c) (up : IsNonDecreasingBy (λ (k : Commit). k.number) commits) (numbers : AreNumbered 1 (take i es)) where
  at : (e : EntryView) × (drop i es ≡ e ∷ drop (i + 1) es) × (e.number ≡ c.number)
  at = next_entry es commits i c same within is

  whole : take i es ++ at.0 ∷ drop (i + 1) es ≡ es
  whole = ap (λ (l : List EntryView). take i es ++ l) (sym at.1) ∙ take-append-drop i es

  rise : DoRise at.0.number (drop (i + 1) es)
  rise = rise_behind (take i es) at.0 (drop (i + 1) es) (subst (IsNonDecreasingBy (λ (e : EntryView). e.number)) (sym whole) (entries_rise es commits same up))

  size : length (take i es) ≡ i
  size = length-take-le i es (omega (arith, within, ap length same ∙ length-map es commit_of))

  pub missing_at : (next : ℕ) → next ≡ i + 1 → next < c.number → IsMisnumbered es (Missing next)
  missing_at next behind less =
      subst (λ (l : List EntryView). IsMisnumbered l (Missing next)) whole
      (missing (take i es) at.0 (drop (i + 1) es) numbers rise next (omega (arith, behind, size)) (omega (arith, less, at.2)))

  pub twice_at : 1 ≤ c.number → c.number ≤ i → IsMisnumbered es (Twice c.number)
  twice_at low high =
      subst (λ (q : List EntryView × ℕ). IsMisnumbered q.0 (Twice q.1)) (λ j. (whole j, at.2 j))
      (twice (take i es) at.0 (drop (i + 1) es) numbers rise (omega (arith, low, at.2)) (omega (arith, high, at.2, size)))

  pub numbered_on : c.number ≡ i + 1 → AreNumbered 1 (take (i + 1) es)
  unfolding hd_or
  numbered_on next =
      subst (AreNumbered 1) (sym longer) (numbered_more 1 (take i es) at.0 numbers (omega (arith, next, at.2, size)))
    where
      short : i < length es
      short = subst (λ (n : ℕ). i < n) (ap length same ∙ length-map es commit_of) within

      longer : take (i + 1) es ≡ take i es ++ at.0 ∷ []
      longer = take_more es i at.0 short ∙ ap (λ (l : List EntryView). take i es ++ hd_or at.0 l ∷ []) (sym (drop-cons es i at.0 short) ∙ at.1)

-- what is amiss of entries in one order is so in another
module _ (es sorted : List EntryView) (same : IsPermutation es sorted) where
  same_times : (n : ℕ) → times n sorted ≡ times n es
  same_times n = sum_by-IsPermutation (is_one n) es sorted same

  first_here : (n : ℕ) → IsFirstAmiss sorted n → IsFirstAmiss es n
  first_here n first = record {
    positive = first.positive;
    before = λ k low high. sym (same_times k) ∙ first.before k low high;
  }

  amiss_here : (gap : Misnumbered) → IsMisnumbered sorted gap → IsMisnumbered es gap
  amiss_here (Missing n) (first, none, later) =
      (first_here n first, sym (same_times n) ∙ none, (later.0, Contains-permutation sorted es later.0 (IsPermutation-sym es sorted same) later.1, later.2))
  amiss_here (Twice n) (first, two) = (first_here n first, omega (arith, two, same_times n))

  pub first_amiss_here : (gap : Option Misnumbered) → MatchOption gap (AreNumbered 1 sorted) (IsMisnumbered sorted)
      → MatchOption gap (HaveNoGap es) (IsMisnumbered es)
  first_amiss_here None numbers = (sorted, record { same = same; numbers = numbers })
  first_amiss_here (Some gap) is = amiss_here gap is

-- what is so of all entries is so of what is kept of each
pub each_positive : (es : List EntryView) → All IsPositive es → All (λ (c : Commit). 1 ≤ c.number) (map commit_of es)
each_positive es all k d less =
    let short : k < length es = subst (λ (n : ℕ). k < n) (length-map es commit_of) less in
    let e : EntryView = record { number = 0; tid = 0; terminal = 0; writes = [] } in
    subst (λ (c : Commit). 1 ≤ c.number) (sym (get_or-map commit_of es k e d short)) (all k e short)
