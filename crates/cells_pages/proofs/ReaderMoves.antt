-- A reader's steps keep the rule, and tell what their plays say.
use Rattle.std.proofs.Common.{◌≡◌, ◌≢◌, ℕ, ◌+◌, ◌*◌, ◌%◌, ◌<◌, List, [], ◌∷◌, ◌++◌, length, refl, sym, ap, ◌∙◌, subst, set, ⊎_elim, arith, length-set, length-append}
use Rattle.std.specs.Prelude.{slice_index}
use Rattle.std.proofs.lemmas.Bool.{cases_eq}
use Rattle.std.proofs.Math.ListN.{get_or-append}
use Rattle.std.proofs.Math.Seq.{get_or-append_seam}
use Rattle.std.proofs.lemmas.Nat.{div-mul-add}
use Rattle.atomic_table.specs.Table.{Me, Allows}
use Rattle.tidword.specs.TidWord.{tid_of}
use Rattle.cells_pages.specs.declared.rule.View.{View}
use Rattle.cells_pages.specs.Versions.{StartsWith, EndsWith, AreVersions, newest, word_in}
use Rattle.cells_pages.specs.Versions.{at}
use Rattle.cells_pages.specs.Views.{sight, reading}
use Rattle.cells_pages.specs.Rule.{Content, IsAtRest, IsContent, Fits, KeepsPage}
use Rattle.cells_pages.specs.Plays.{BeginsOf, FollowsOf, IsLoaded, ChecksOf}
use Rattle.cells_pages.proofs.Rising.{starts_self}
use Rattle.cells_pages.proofs.Lists.{last_tid-newest, ends_newest, sound_some, same_rising, starts_none, starts_set}
use Rattle.cells_pages.proofs.Words.{same_words}
use Rattle.cells_pages.proofs.Fitting.{off, fits_sight}
use Rattle.cells_pages.proofs.Moves.{loads}

parity : (x y : ℕ) → x ≡ y → x % 2 ≡ 0 → y % 2 ≡ 1 → ⊥
parity x y e even odd = let same : y % 2 ≡ 0 = subst (λ k. k % 2 ≡ 0) e even in omega arith

module _ (n : ℕ) (some : 0 < n) where
  -- where the first word is even, no version is being stored
  pub even_rests : (words : List ℕ) (c : Content) (p : ℕ) → IsContent n words c → slice_index words (p * n + 0) % 2 ≡ 0 → IsAtRest c p
  even_rests words c p k even busy here = let o = k.opens busy in
      parity (slice_index words (p * n + 0)) (word_in c.next) (ap (λ q. slice_index words (q * n + 0)) here ∙ o.has 0 some) even o.odd

  begin_fits : (seat : ℕ) (words : List ℕ) (c : Content) (by p : ℕ) (v : View) → IsContent n words c → p < length v.seen → Fits n seat c by v
      → Fits n seat c by (reading v.seen v.loads p (at c.all p) (slice_index words (p * n + 0) ∷ []))
  begin_fits seat words c by p v k within f =
      let found : ℕ = slice_index words (p * n + 0) in
      let begun : List (List ℕ) = at c.all p in
      let size : length v.seen ≡ length c.all = f.size (omega arith) in
      let inside : p < length c.all = omega arith in
      record {
        size = f.size;
        told_size = λ h. absurd (omega arith);
        seen = f.seen;
        told = λ q. starts_none (at c.all q);
        pen = λ e. off e;
        begun = starts_self begun;
        head = λ even. k.rests p inside (even_rests words c p k even) 0 some;
        sound = λ _. k.sound p inside;
        fresh = λ _ rest i h. let first : 0 ≡ i = omega arith in
            subst (λ j. slice_index (found ∷ []) j ≡ slice_index (newest begun) j) first (k.rests p inside rest 0 some);
      }

  pub begins : (slots by word p : ℕ) (me : Me (Unit {0}) View) → word ≡ p * n + 0 → p < length me.0.seen
      → Allows (KeepsPage n) slots by me word (λ x. x) (λ found after. BeginsOf n word me.0 found after.0)
  begins slots by word p me stands within = subst (λ w. Allows (KeepsPage n) slots by me w (λ x. x) (λ found after. BeginsOf n w me.0 found after.0)) (sym stands)
      (loads n slots by (p * n + 0) me (BeginsOf n (p * n + 0) me.0)
      (λ s k f.
      let begun : List (List ℕ) = at k.content.all p in
      let found : ℕ = slice_index s.words (p * n + 0) in (
        reading me.0.seen me.0.loads p begun (found ∷ []),
        begin_fits k.seat s.words k.content by p me.0 k.words within f,
        (begun, ap (λ q. reading me.0.seen me.0.loads q begun (found ∷ [])) (sym (div-mul-add p n 0 some))),
      )))

  follow_fits : (seat : ℕ) (words : List ℕ) (c : Content) (by : ℕ) (v : View) → IsContent n words c → v.place < length v.seen → 0 < length v.bits → length v.bits < n
      → Fits n seat c by v
      → Fits n seat c by (reading v.seen v.loads v.place v.begun (v.bits ++ slice_index words (v.place * n + length v.bits) ∷ []))
  follow_fits seat words c by v k within begun more f =
      let found : ℕ = slice_index words (v.place * n + length v.bits) in
      let size : length v.seen ≡ length c.all = f.size (omega arith) in
      let inside : v.place < length c.all = omega arith in
      let head : word_in (v.bits ++ found ∷ []) ≡ word_in v.bits = get_or-append v.bits (found ∷ []) 0 0 begun in
      let count : length (v.bits ++ found ∷ []) ≡ length v.bits + 1 = length-append v.bits (found ∷ []) in
      record {
        size = f.size;
        told_size = λ h. absurd (omega arith);
        seen = f.seen;
        told = λ q. starts_none (at c.all q);
        pen = λ e. off e;
        begun = f.begun;
        head = λ even. head ∙ f.head (subst (λ x. x % 2 ≡ 0) head even);
        sound = λ _. f.sound begun;
        fresh = λ same rest i h. ⊎_elim
            (λ (e : i ≡ length v.bits). subst (λ j. slice_index (v.bits ++ found ∷ []) j ≡ slice_index (newest v.begun) j) (sym e)
            (get_or-append_seam v.bits found [] 0 ∙ k.rests v.place inside rest (length v.bits) more
            ∙ ap (λ (vs : List (List ℕ)). slice_index (newest vs) (length v.bits)) same))
            (λ (before : i ≢ length v.bits). let l : i < length v.bits = omega arith in
            get_or-append v.bits (found ∷ []) 0 i l ∙ f.fresh same rest i l)
            (cases_eq i (length v.bits));
      }

  pub follows : (slots by word : ℕ) (me : Me (Unit {0}) View) → word ≡ me.0.place * n + length me.0.bits → me.0.place < length me.0.seen
      → 0 < length me.0.bits → length me.0.bits < n
      → Allows (KeepsPage n) slots by me word (λ x. x) (λ found after. FollowsOf me.0 found after.0)
  follows slots by word me stands within begun more = subst (λ w. Allows (KeepsPage n) slots by me w (λ x. x) (λ found after. FollowsOf me.0 found after.0)) (sym stands)
      (loads n slots by (me.0.place * n + length me.0.bits) me (FollowsOf me.0)
      (λ s k f. (
        reading me.0.seen me.0.loads me.0.place me.0.begun (me.0.bits ++ slice_index s.words (me.0.place * n + length me.0.bits) ∷ []),
        follow_fits k.seat s.words k.content by me.0 k.words within begun more f,
        refl,
      )))

  -- the first word is still what it was: the place has the versions that it had, and what was loaded is the newest
  module _ (seat : ℕ) (words : List ℕ) (c : Content) (by : ℕ) (v : View) (k : IsContent n words c) (within : v.place < length v.seen) (full : length v.bits ≡ n)
      (even : word_in v.bits % 2 ≡ 0) (f : Fits n seat c by v) (again : slice_index words (v.place * n + 0) ≡ word_in v.bits) where
    inside : v.place < length c.all
    inside = let size : length v.seen ≡ length c.all = f.size (omega arith) in omega arith

    rest : IsAtRest c v.place
    rest = even_rests words c v.place k (subst (λ x. x % 2 ≡ 0) (sym again) even)

    sound : AreVersions n v.begun
    sound = f.sound (omega arith)

    same : at c.all v.place ≡ v.begun
    same =
        let now = k.sound v.place inside in
        let some_begun = sound_some n v.begun some sound in
        let some_now = sound_some n (at c.all v.place) some now in
        let word : word_in (newest v.begun) ≡ word_in (newest (at c.all v.place)) = sym (f.head even) ∙ sym again ∙ k.rests v.place inside rest 0 some in
        same_rising (at c.all v.place) v.begun now.rising some_begun f.begun
        (last_tid-newest v.begun some_begun ∙ ap tid_of word ∙ sym (last_tid-newest (at c.all v.place) some_now))

    check_fits : Fits n seat c by (sight (set v.seen v.place v.begun) (set v.loads v.place (slice_index v.loads v.place + 1)))
    check_fits = fits_sight n seat c by (set v.seen v.place v.begun) (set v.loads v.place (slice_index v.loads v.place + 1))
        (λ _. length-set v.seen v.place v.begun ∙ f.size (omega arith))
        (starts_set c.all v.seen v.place v.begun within f.begun f.seen)

    loaded : IsLoaded n v.place v.seen v.loads v.bits (sight (set v.seen v.place v.begun) (set v.loads v.place (slice_index v.loads v.place + 1)))
    loaded = record {
      versions = v.begun;
      view = refl;
      grows = subst (λ (vs : List (List ℕ)). StartsWith vs (at v.seen v.place)) same (f.seen v.place);
      sound = sound;
      last = subst (EndsWith v.begun) (sym (same_words n v.bits (newest v.begun) full sound.wide (f.fresh same rest)))
          (ends_newest v.begun (sound_some n v.begun some sound));
    }

  pub checks : (slots by word : ℕ) (me : Me (Unit {0}) View) → word ≡ me.0.place * n + 0 → me.0.place < length me.0.seen → length me.0.bits ≡ n
      → word_in me.0.bits % 2 ≡ 0
      → Allows (KeepsPage n) slots by me word (λ x. x) (λ found after. ChecksOf n me.0 found after.0)
  checks slots by word me stands within full even = subst (λ w. Allows (KeepsPage n) slots by me w (λ x. x) (λ found after. ChecksOf n me.0 found after.0)) (sym stands)
      (loads n slots by (me.0.place * n + 0) me (ChecksOf n me.0)
      (λ s k f. ⊎_elim
      (λ (again : slice_index s.words (me.0.place * n + 0) ≡ word_in me.0.bits). (
        sight (set me.0.seen me.0.place me.0.begun) (set me.0.loads me.0.place (slice_index me.0.loads me.0.place + 1)),
        check_fits k.seat s.words k.content by me.0 k.words within full even f again,
        (λ _. loaded k.seat s.words k.content by me.0 k.words within full even f again, λ not. absurd (not again)),
      ))
      (λ (not : slice_index s.words (me.0.place * n + 0) ≢ word_in me.0.bits). (
        sight me.0.seen me.0.loads,
        fits_sight n k.seat k.content by me.0.seen me.0.loads f.size f.seen,
        (λ is. absurd (not is), λ _. refl),
      ))
      (cases_eq (slice_index s.words (me.0.place * n + 0)) (word_in me.0.bits))))
