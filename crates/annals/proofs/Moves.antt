-- Each step keeps the rule.
use Rattle.std.proofs.Common.{◌≡◌, ◌≢◌, ◌⊎◌, ℕ, zero, suc, ◌+◌, ◌<◌, ◌≤◌, Bool, true, false, true≢false, List, [], ◌∷◌, ◌++◌, set, length, All, refl, sym, ap, ◌∙◌, subst, ⊎_elim, arith}
use Rattle.std.proofs.lemmas.List.{append_assoc, append-nil}
use Rattle.std.proofs.lemmas.List.Elements.{All-nil, All-cons, All-append, All-weaker, All-push, Contains-append_left, Contains-get_or}
use Rattle.std.specs.List.{Contains}
use mathlib.Core.Option.{Option, some, some-ne-none, some-injective}
use lib.ListN.{get_elem?}
use Rattle.atomic_table.specs.Table.{State, Me, Allows, Splits, Joins, Enters, keeps}
use Rattle.atomic_table.proofs.Lists.{at_set, at_snoc, set_again}
use Rattle.annals.specs.declared.claims.Claim.{Claim}
use Rattle.annals.specs.declared.claims.Known.{Known}
use Rattle.annals.specs.Claims.{IsSoOf, AreOfOne}
use Rattle.annals.specs.Rule.{FitsAnnals, AreAnnals, begun_claim, no_claim, first_known, begun_pass, spent_pass, shared_pass, last_alone, cited_pass, gathered, hearing}
use Rattle.annals.specs.Plays.{with_entry, with_raised_mark, Adding, Marking, Comparing, KnowsOf}

off : false ≡ true → ⊥
off e = true≢false (sym e)

-- the last entry of a history with one more
pub last_alone_push : {S : Type 0} (l : List S) (e : S) → last_alone (l ++ e ∷ []) ≡ e ∷ []
last_alone_push [] e = refl
last_alone_push (x ∷ []) e = refl
last_alone_push (x ∷ y ∷ l) e = last_alone_push (y ∷ l) e

module _ {S : Type 0} (date : S → ℕ) (base : ℕ) where
  abbrev Rule : State S (Known S) → Type 0
  Rule s = AreAnnals date base s.views

  -- nothing is claimed by such a claim; and as annals begin this is so
  none_so : (history : List S) (mark : ℕ) → All (λ e. base < date e) history → IsSoOf date history mark no_claim
  none_so history mark new = record {
    rest = history;
    beginning = refl;
    later = λ k d lt. let is = new k d lt in omega arith;
    within = omega arith;
    there = All-nil (Contains history);
  }

  begun_so : (history : List S) (mark : ℕ) → All (λ e. base < date e) history → base ≤ mark → IsSoOf date history mark (begun_claim base)
  begun_so history mark new begun = record {
    rest = history;
    beginning = refl;
    later = new;
    within = begun;
    there = All-nil (Contains history);
  }

  -- the views, of which one is another now, where all others fit the same history
  fits_set : (history : List S) (mark keeper seat : ℕ) (views : List (Known S)) (w : Known S)
      → ((j : ℕ) (u : Known S) → j ≢ seat → get_elem? views j ≡ some u → FitsAnnals date base history mark keeper j u)
      → FitsAnnals date base history mark keeper seat w
      → (j : ℕ) (u : Known S) → get_elem? (set views seat w) j ≡ some u → FitsAnnals date base history mark keeper j u
  fits_set history mark keeper seat views w others mine j u e =
      ⊎_elim
      (λ (x : (j ≡ seat) × (w ≡ u)). subst (λ (y : ℕ × Known S). FitsAnnals date base history mark keeper y.0 y.1) (λ i. (sym x.0 i, x.1 i)) mine)
      (λ (x : (j ≢ seat) × (get_elem? views j ≡ some u)). others j u x.0 x.1)
      (at_set views seat j w u e)

  module _ (views : List (Known S)) (seat : ℕ) (v : Known S) (are : AreAnnals date base views) (at : get_elem? views seat ≡ some v) where
    mine : FitsAnnals date base are.history are.mark are.keeper seat v
    mine = are.fits seat v at

    -- a pass knows something else of the same history
    turns : (w : Known S) → FitsAnnals date base are.history are.mark are.keeper seat w → AreAnnals date base (set views seat w)
    turns w fits = record {
      history = are.history;
      mark = are.mark;
      keeper = are.keeper;
      begun = are.begun;
      new = are.new;
      found = are.found;
      fits = fits_set are.history are.mark are.keeper seat views w (λ j u apart e. are.fits j u e) fits;
    }

    -- a new pass knows something of it
    comes : (w : Known S) → w.keeps ≡ false → IsSoOf date are.history are.mark w.own → AreAnnals date base (set views seat v ++ record w { heard = no_claim } ∷ [])
    comes w others own = record {
      history = are.history;
      mark = are.mark;
      keeper = are.keeper;
      begun = are.begun;
      new = are.new;
      found = are.found;
      fits = λ j u e.
          ⊎_elim
          (λ was. are.fits j u (subst (λ l. get_elem? l j ≡ some u) (set_again views seat v at) was))
          (λ (is : record w { heard = no_claim } ≡ u). subst (FitsAnnals date base are.history are.mark are.keeper j) is (record {
            alone = λ k. absurd (off (sym others ∙ k));
            whole = λ k. absurd (off (sym others ∙ k));
            own = own;
            heard = none_so are.history are.mark are.new;
          }))
          (at_snoc (set views seat v) (record w { heard = no_claim }) u j e);
    }

    -- the keeper goes on, and claims of before are so of what its history is then
    module _ (history : List S) (mark : ℕ) (keeps : v.keeps ≡ true) (begun : base ≤ mark) (new : All (λ e. base < date e) history)
        (found : All (λ e. date e ≤ mark + 1) history)
        (still : (c : Claim S) → IsSoOf date are.history are.mark c → IsSoOf date history mark c) where
      goes_on : (own : Claim S) → own.front ≡ history → own.mark ≡ mark → IsSoOf date history mark own
          → AreAnnals date base (set views seat (record v { own = own }))
      goes_on own front marked so = record {
        history = history;
        mark = mark;
        keeper = are.keeper;
        begun = begun;
        new = new;
        found = found;
        fits = fits_set history mark are.keeper seat views (record v { own = own })
            (λ j u apart e.
            let fits = are.fits j u e in
            let other : u.keeps ≡ true → ⊥ = λ k. apart (fits.alone k ∙ sym (mine.alone keeps)) in
            record {
              alone = fits.alone;
              whole = λ k. absurd (other k);
              own = still u.own fits.own;
              heard = still u.heard fits.heard;
            })
            (record {
              alone = mine.alone;
              whole = λ k. (front, marked, (mine.whole k).2);
              own = so;
              heard = still v.heard mine.heard;
            });
      }

  -- a claim is so of what a history becomes
  so_later : (history : List S) (mark later : ℕ) (c : Claim S) → mark ≤ later → IsSoOf date history mark c → IsSoOf date history later c
  so_later history mark later c up so = record {
    rest = so.rest;
    beginning = so.beginning;
    later = so.later;
    within = (let low = so.within in omega arith);
    there = so.there;
  }

  so_longer : (history : List S) (mark later : ℕ) (e : S) (c : Claim S) → mark ≤ later → date e ≡ later + 1 → IsSoOf date history mark c
      → IsSoOf date (history ++ e ∷ []) later c
  so_longer history mark later e c up is so = record {
    rest = so.rest ++ e ∷ [];
    beginning = ap (λ l. l ++ e ∷ []) so.beginning ∙ append_assoc c.front so.rest (e ∷ []);
    later = All-append (λ d. c.mark < date d) so.rest (e ∷ []) so.later
        (All-cons (λ d. c.mark < date d) e [] (let low = so.within in omega arith) (All-nil (λ d. c.mark < date d)));
    within = (let low = so.within in omega arith);
    there = λ k d lt. Contains-append_left history (e ∷ []) _ (so.there k d lt);
  }

  -- the claim of a whole history is so of it
  so_whole : (history : List S) (mark : ℕ) (c : Claim S) → c.front ≡ history → c.mark ≡ mark → All (Contains history) c.has → IsSoOf date history mark c
  so_whole history mark c front marked there = record {
    rest = [];
    beginning = sym front ∙ sym (append-nil c.front);
    later = All-nil (λ e. c.mark < date e);
    within = omega arith;
    there = there;
  }

  -- the last entry of a front is there
  last_in : (l : List S) → All (Contains l) (last_alone l)
  last_in [] = All-nil (Contains [])
  last_in (e ∷ []) = All-cons (Contains (e ∷ [])) e [] (0, omega arith, refl) (All-nil (Contains (e ∷ [])))
  last_in (e ∷ f ∷ es) = λ k d lt. let there = last_in (f ∷ es) k d lt in (suc there.0, (let low = there.1 in omega arith), there.2)

  -- whatever the annals are, the pass knows this then
  allows : (slots seat word : ℕ) (me : Me S (Known S)) (f : ℕ → ℕ) (w : Known S) (then : ℕ → Me S (Known S) → Type 0)
      → ((views : List (Known S)) → AreAnnals date base views → get_elem? views seat ≡ some me.0
      → AreAnnals date base (set views seat w) × ((n : ℕ) → then n (w, me.1)))
      → Allows Rule slots seat me word f then
  allows slots seat word me f w then can s are same at below = let is = can s.views are at in (w, keeps, tt, is.0, is.1 _)

  pub adds : (slots seat mark : ℕ) (me : Me S (Known S)) (f : ℕ → ℕ) (e : S) → me.0.keeps ≡ true → me.0.own.mark ≤ mark → date e ≡ mark + 1
      → Allows Rule slots seat me 0 f (λ _ after. Adding (some e) mark me after)
  adds slots seat mark me f e keeper later is = allows slots seat 0 me f (with_entry me.0 mark e) (λ _ after. Adding (some e) mark me after) (λ views are at.
      let v = me.0 in
      let whole = (are.fits seat v at).whole keeper in
      let up : are.mark ≤ mark = subst (λ n. n ≤ mark) whole.1 later in
      let low = are.begun in
      let history = are.history ++ e ∷ [] in
      let grown : v.own.front ++ e ∷ [] ≡ history = ap (λ l. l ++ e ∷ []) whole.0 in (
        goes_on views seat v are at history mark keeper (omega arith)
            (All-push (λ d. base < date d) are.history e are.new (omega arith))
            (All-push (λ d. date d ≤ mark + 1) are.history e
            (All-weaker (λ d. date d ≤ are.mark + 1) (λ d. date d ≤ mark + 1) (λ d p. omega arith) are.history are.found) (omega arith))
            (λ c so. so_longer are.history are.mark mark e c up is so)
            (record v.own { front = v.own.front ++ e ∷ []; mark = mark }) grown refl
            (so_whole history mark (record v.own { front = v.own.front ++ e ∷ []; mark = mark }) grown refl
            (so_longer are.history are.mark mark e v.own up is (are.fits seat v at).own).there),
        λ n d same. ap (λ x. (with_entry v mark x, me.1)) (some-injective e d same),
      ))

  pub marks : (slots seat mark : ℕ) (me : Me S (Known S)) (f : ℕ → ℕ) → me.0.keeps ≡ true → me.0.own.mark ≤ mark
      → Allows Rule slots seat me 0 f (λ _ after. Marking mark me after)
  marks slots seat mark me f keeper later = allows slots seat 0 me f (with_raised_mark me.0 mark) (λ _ after. Marking mark me after) (λ views are at.
      let v = me.0 in
      let whole = (are.fits seat v at).whole keeper in
      let up : are.mark ≤ mark = subst (λ n. n ≤ mark) whole.1 later in
      let low = are.begun in (
        goes_on views seat v are at are.history mark keeper (omega arith) are.new
            (All-weaker (λ d. date d ≤ are.mark + 1) (λ d. date d ≤ mark + 1) (λ d p. omega arith) are.history are.found)
            (λ c so. so_later are.history are.mark mark c up so)
            (record v.own { mark = mark }) whole.0 refl
            (so_whole are.history mark (record v.own { mark = mark }) whole.0 refl (are.fits seat v at).own.there),
        λ n. refl,
      ))

  pub compares : (slots seat : ℕ) (me : Me S (Known S)) → Allows Rule slots seat me 0 (λ n. n) (λ _ after. Comparing date me after)
  compares slots seat me s are same at below =
      let v = me.0 in
      let fits = are.fits seat v at in (
        v,
        keeps,
        tt,
        turns s.views seat v are at v fits,
        record {
          same = refl;
          agree = record { history = are.history; mark = are.mark; one = fits.own; other = fits.heard };
          keeper = λ k.
              let whole = fits.whole k in
              record {
                heard = subst (λ (x : List S × ℕ). IsSoOf date x.0 x.1 v.heard) (λ i. (sym whole.0 i, sym whole.1 i)) fits.heard;
                begun = subst (λ (x : ℕ × ℕ). x.0 ≤ x.1) (λ i. (sym whole.2 i, sym whole.1 i)) are.begun;
                new = subst (λ (x : ℕ × List S). All (λ e. x.0 < date e) x.1) (λ i. (sym whole.2 i, sym whole.0 i)) are.new;
                found = subst (λ (x : ℕ × List S). All (λ e. date e ≤ x.0 + 1) x.1) (λ i. (sym whole.1 i, sym whole.0 i)) are.found;
              };
        },
      )

  pub begins : (slots : ℕ) → Enters Rule slots 0 (λ n w. w ≡ begun_pass base)
  begins slots s are same below = (
    begun_pass base,
    record {
      history = are.history;
      mark = are.mark;
      keeper = are.keeper;
      begun = are.begun;
      new = are.new;
      found = are.found;
      fits = λ j u e.
          ⊎_elim
          (are.fits j u)
          (λ (is : begun_pass base ≡ u). subst (FitsAnnals date base are.history are.mark are.keeper j) is (record {
            alone = λ k. absurd (off k);
            whole = λ k. absurd (off k);
            own = begun_so are.history are.mark are.new are.begun;
            heard = none_so are.history are.mark are.new;
          }))
          (at_snoc s.views (begun_pass base) u j e);
    },
    refl,
  )

  pub shares : (seat : ℕ) (v : Known S) → Splits {S = S} Rule seat v v (shared_pass v)
  shares seat v s are at = comes s.views seat v are at (shared_pass v) refl (are.fits seat v at).own

  pub cites : (seat : ℕ) (v : Known S) → Splits {S = S} Rule seat v v (cited_pass v)
  cites seat v s are at =
      let so = (are.fits seat v at).own in
      comes s.views seat v are at (cited_pass v) refl (record {
        rest = are.history;
        beginning = refl;
        later = λ k d lt. let is = are.new k d lt in omega arith;
        within = omega arith;
        there = subst (λ l. All (Contains l) (last_alone v.own.front)) (sym so.beginning)
            (All-weaker (Contains v.own.front) (Contains (v.own.front ++ so.rest)) (Contains-append_left v.own.front so.rest)
            (last_alone v.own.front) (last_in v.own.front));
      })

  -- a pass that takes something of another, which is used up
  joins : (seat : ℕ) (v : Known S) (other : ℕ) (w both : Known S)
      → ((history : List S) (mark keeper : ℕ) → All (λ e. base < date e) history → FitsAnnals date base history mark keeper seat v
      → IsSoOf date history mark w.own → FitsAnnals date base history mark keeper seat both)
      → Joins {S = S} Rule seat v other w both spent_pass
  joins seat v other w both fits_both s are at apart there =
      let theirs = ⊎_elim (λ (t : (other ≡ seat) × (both ≡ w)). absurd (apart t.0))
      (λ (t : (other ≢ seat) × (get_elem? s.views other ≡ some w)). (are.fits other w t.1).own) (at_set s.views seat other both w there) in
      let first = turns s.views seat v are at both (fits_both are.history are.mark are.keeper are.new (are.fits seat v at) theirs) in
      turns (set s.views seat both) other w first there spent_pass (record {
        alone = λ k. absurd (off k);
        whole = λ k. absurd (off k);
        own = none_so first.history first.mark first.new;
        heard = none_so first.history first.mark first.new;
      })

  pub gathers : (seat : ℕ) (v : Known S) (other : ℕ) (w : Known S) → Joins {S = S} Rule seat v other w (gathered v w) spent_pass
  gathers seat v other w = joins seat v other w (gathered v w) (λ history mark keeper new fits so. record {
    alone = fits.alone;
    whole = fits.whole;
    own = record {
      rest = fits.own.rest;
      beginning = fits.own.beginning;
      later = fits.own.later;
      within = fits.own.within;
      there = All-append (Contains history) v.own.has w.own.has fits.own.there so.there;
    };
    heard = fits.heard;
  })

  pub hears : (seat : ℕ) (v : Known S) (other : ℕ) (w : Known S) → Joins {S = S} Rule seat v other w (hearing v w) spent_pass
  hears seat v other w = joins seat v other w (hearing v w) (λ history mark keeper new fits so. record {
    alone = fits.alone;
    whole = fits.whole;
    own = fits.own;
    heard = so;
  })

  pub opens : AreAnnals date base (first_known base ∷ [])
  opens = record {
    history = [];
    mark = base;
    keeper = 0;
    begun = omega arith;
    new = All-nil (λ e. base < date e);
    found = All-nil (λ e. date e ≤ base + 1);
    fits = one;
  }
    where
      one : (j : ℕ) (v : Known S) → get_elem? (first_known base ∷ []) j ≡ some v → FitsAnnals date base [] base 0 j v
      one zero v e = subst (FitsAnnals date base [] base 0 0) (some-injective (first_known base) v e) (record {
        alone = λ k. refl;
        whole = λ k. (refl, refl, refl);
        own = begun_so [] base (All-nil (λ e. base < date e)) (omega arith);
        heard = none_so [] base (All-nil (λ e. base < date e));
      })
      one (suc j) v e = absurd (some-ne-none v (sym e))
