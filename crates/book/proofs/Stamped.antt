-- The TIDs of a history with one entry more.
use Rattle.std.proofs.Common.{◌≡◌, ◌≢◌, ℕ, ◌+◌, ◌/◌, ◌%◌, ◌^◌, ◌<◌, ◌≤◌, ⊎_elim, cond, Some, IsSome, List, [], ◌∷◌, ◌++◌, length, ◌==◌, refl, sym, ap, ◌∙◌}
use Rattle.std.proofs.Common.{subst, arith}
use Rattle.std.specs.List.{All}
use Rattle.std.specs.Prelude.{max, slice_index, slice_set}
use Rattle.std.proofs.lemmas.Bool.{cases_eq}
use Rattle.std.proofs.lemmas.Bool.Decides.{eqb_tells}
use Rattle.std.proofs.lemmas.List.{get_or-set_same, get_or-set_other, length-set}
use Rattle.std.proofs.lemmas.List.Elements.{All-head, All-tail, All-cons, All-nil, All-push, All-weaker}
use Rattle.tidword.specs.TidWord.{tid_of}
use Rattle.tidword.specs.Lawful.{IsLawful, next}
use Rattle.tidword.proofs.Sequences.{next-counts}
use Rattle.cells.specs.Versions.{last_tid}
use Rattle.cells.specs.Records.{PenView, at}
use Rattle.cells.specs.declared.cells.Version.{Version}
use Rattle.readset.specs.Reads.{ReadSetView}
use Rattle.readset.specs.Writes.{value_for}
use Rattle.book.specs.Stamps.{Follows, AreStamped, last_from, last_of, greatest_tid}
use Rattle.book.specs.Ready.{IsTidWithin, IsPassed, AreLast}
use Rattle.book.specs.declared.entry.Entry.{Entry}

-- one entry more is its terminal's last, and changes no other's
last_push : (last terminal : ℕ) (es : List Entry) (e : Entry) → last_from last terminal (es ++ e ∷ []) ≡ cond (e.terminal == terminal) e.tid
    (last_from last terminal es)
last_push last terminal [] e = refl
last_push last terminal (f ∷ es) e = last_push (cond (f.terminal == terminal) f.tid last) terminal es e

pub last_here : (es : List Entry) (e : Entry) (terminal : ℕ) → e.terminal ≡ terminal → last_of terminal (es ++ e ∷ []) ≡ e.tid
last_here es e terminal same = last_push 0 terminal es e
    ∙ ap (λ b. cond b e.tid (last_of terminal es)) (⊎_elim (λ yes. yes.0) (λ no. absurd (no.1 same)) (eqb_tells e.terminal terminal))

pub last_there : (es : List Entry) (e : Entry) (terminal : ℕ) → e.terminal ≢ terminal → last_of terminal (es ++ e ∷ []) ≡ last_of terminal es
last_there es e terminal other = last_push 0 terminal es e
    ∙ ap (λ b. cond b e.tid (last_of terminal es)) (⊎_elim (λ yes. absurd (other yes.1)) (λ no. no.0) (eqb_tells e.terminal terminal))

-- an entry without status bits that follows all others
pub stamped_push : (es : List Entry) (e : Entry) → e.tid % 8 ≡ 0 → AreStamped es → All (λ d. Follows d e) es → AreStamped (es ++ e ∷ [])
stamped_push [] e bits stamped follows = (bits, All-nil (Follows e), tt)
stamped_push (d ∷ es) e bits stamped follows = (
  stamped.0,
  All-push (Follows d) es e stamped.1 (All-head (λ d. Follows d e) d es follows),
  stamped_push es e bits stamped.2
      (All-tail (λ d. Follows d e) d es follows),
)

-- no TID read is larger than the greatest
below : (reads : ReadSetView) (bound : ℕ) → greatest_tid reads ≤ bound → All (λ (e : ℕ × Version). tid_of e.1.word ≤ bound) reads
below [] bound small = All-nil (λ (e : ℕ × Version). tid_of e.1.word ≤ bound)
below (e ∷ es) bound small = All-cons (λ (e : ℕ × Version). tid_of e.1.word ≤ bound) e es (head (tid_of e.1.word) (greatest_tid es) small)
    (below es bound (tail (tid_of e.1.word) (greatest_tid es) small))
  where
    head : (a b : ℕ) → max a b ≤ bound → a ≤ bound
    head a b h = omega (arith, h)

    tail : (a b : ℕ) → max a b ≤ bound → b ≤ bound
    tail a b h = omega (arith, h)

pub all_below : (reads : ReadSetView) → All (λ (e : ℕ × Version). tid_of e.1.word ≤ greatest_tid reads) reads
all_below reads = below reads (greatest_tid reads) (omega arith)

-- a TID within limits is within the next ones
pub within_more : (epoch count tid : ℕ) → IsTidWithin epoch count tid → IsTidWithin epoch (count + 1) tid
within_more epoch count tid w = record { bits = w.bits; in_epoch = w.in_epoch; sequence = more (tid / 8 % 2 ^ 29) w.sequence }
  where
    more : (n : ℕ) → n ≤ count → n ≤ count + 1
    more n h = omega (arith, h)

whole : (n : ℕ) → n % 8 ≡ 0 → tid_of n ≡ n
whole n even = omega (arith, even)

pub next_within : (epoch count seen last tid : ℕ) → IsTidWithin epoch count seen → IsTidWithin epoch count last → IsLawful seen last epoch tid
    → next seen last epoch ≡ Some tid → IsTidWithin epoch (count + 1) tid
next_within epoch count seen last tid s l lawful is = record {
  bits = lawful.bits;
  in_epoch = same (tid / 2 ^ 32) lawful.in_epoch;
  sequence = next-counts count seen last epoch tid is s.sequence l.sequence;
}
  where
    same : (n : ℕ) → n ≡ epoch → n ≤ epoch
    same n h = omega (arith, h)

-- a commit that takes a lawful TID: where it writes, the TID is larger than the record's last
module _ (epoch : ℕ) (old new : PenView) (before behind : List Entry) (e : Entry) (history : behind ≡ before ++ e ∷ [])
    (in_epoch : epoch ≤ e.tid / 2 ^ 32)
    (above_last : last_of e.terminal before < e.tid)
    (above_records : (n : ℕ) → IsSome (value_for e.writes n) → last_tid (at old.all n) < e.tid)
    (written : (n : ℕ) → IsSome (value_for e.writes n) → last_tid (at new.all n) ≡ e.tid)
    (grows : (n : ℕ) → last_tid (at old.all n) ≤ last_tid (at new.all n))
  where
    last_grows : (terminal : ℕ) → last_of terminal before ≤ last_of terminal behind
    last_grows terminal = subst (λ (h : List Entry). last_of terminal before ≤ last_of terminal h) (sym history) (⊎_elim
        (λ (same : e.terminal ≡ terminal). here same (last_here before e terminal same))
        (λ (other : e.terminal ≢ terminal). there (last_there before e terminal other))
        (cases_eq e.terminal terminal))
      where
        here : e.terminal ≡ terminal → last_of terminal (before ++ e ∷ []) ≡ e.tid
            → last_of terminal before ≤ last_of terminal (before ++ e ∷ [])
        here same is = let small : last_of terminal before < e.tid = subst (λ t. last_of t before < e.tid) same above_last in omega (arith, is, small)

        there : last_of terminal (before ++ e ∷ []) ≡ last_of terminal before
            → last_of terminal before ≤ last_of terminal (before ++ e ∷ [])
        there is = omega (arith, is)

    at_most : (a b c : ℕ) → a ≤ b → b ≤ c → a ≤ c
    at_most a b c p q = omega (arith, p, q)

    less : (a b c : ℕ) → a ≤ b → b < c → a < c
    less a b c p q = omega (arith, p, q)

    pub follows : (d : Entry) → IsPassed epoch old before d → Follows d e
    follows d passed = record {
      epochs = at_most (d.tid / 2 ^ 32) epoch (e.tid / 2 ^ 32) passed.in_epoch in_epoch;
      records = λ n wrote writes. less d.tid (last_tid (at old.all n)) e.tid (passed.records n wrote) (above_records n writes);
      terminals = λ same. less d.tid (last_of e.terminal before) e.tid (subst (λ t. d.tid ≤ last_of t before) same passed.terminal) above_last;
    }

    stays : (d : Entry) → IsPassed epoch old before d → IsPassed epoch new behind d
    stays d passed = record {
      in_epoch = passed.in_epoch;
      records = λ n wrote. at_most d.tid (last_tid (at old.all n)) (last_tid (at new.all n)) (passed.records n wrote) (grows n);
      terminal = at_most d.tid (last_of d.terminal before) (last_of d.terminal behind) passed.terminal (last_grows d.terminal);
    }

    newest : e.tid / 2 ^ 32 ≤ epoch → IsPassed epoch new behind e
    newest small = record {
      in_epoch = small;
      records = λ n writes. equal e.tid (last_tid (at new.all n)) (sym (written n writes));
      terminal = equal e.tid (last_of e.terminal behind) (sym (ap (last_of e.terminal) history ∙ last_here before e e.terminal refl));
    }
      where
        equal : (a b : ℕ) → a ≡ b → a ≤ b
        equal a b h = omega (arith, h)

    pub all_passed : e.tid / 2 ^ 32 ≤ epoch → All (IsPassed epoch old before) before → All (IsPassed epoch new behind) behind
    all_passed small passed = subst (All (IsPassed epoch new behind)) (sym history)
        (All-push (IsPassed epoch new behind) before e (All-weaker (IsPassed epoch old before) (IsPassed epoch new behind) stays before passed) (newest small))

    pub all_stamped : e.tid % 8 ≡ 0 → AreStamped before → All (IsPassed epoch old before) before → AreStamped behind
    all_stamped bits stamped passed = subst AreStamped (sym history)
        (stamped_push before e bits stamped (All-weaker (IsPassed epoch old before) (λ d. Follows d e) follows before passed))

-- the last TIDs of terminals, with the one that a commit took
pub lasts_next : (terminals : ℕ) (old : List Entry) (lasts : List ℕ) (e : Entry) → AreLast terminals old lasts → e.terminal < length lasts
    → AreLast terminals (old ++ e ∷ []) (slice_set lasts e.terminal e.tid)
lasts_next terminals old lasts e are small = record {
  count = length-set lasts e.terminal e.tid ∙ are.count;
  last = λ terminal h. ⊎_elim
      (λ (same : e.terminal ≡ terminal). subst (λ t. slice_index (slice_set lasts e.terminal e.tid) t ≡ e.tid) same
      (get_or-set_same lasts e.terminal e.tid _ small) ∙ sym (last_here old e terminal same))
      (λ (other : e.terminal ≢ terminal). get_or-set_other lasts e.terminal terminal e.tid _ (λ is. other (sym is))
      ∙ are.last terminal (subst (λ n. terminal < n) (length-set lasts e.terminal e.tid) h) ∙ sym (last_there old e terminal other))
      (cases_eq e.terminal terminal);
}
