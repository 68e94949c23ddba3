-- The pen's steps keep the rule, and tell what their plays say.
use Rattle.std.proofs.Common.{◌≡◌, ◌≢◌, ℕ, ◌+◌, ◌*◌, ◌/◌, ◌%◌, ◌<◌, true, false, List, [], ◌∷◌, ◌++◌, length, refl, sym, ap, ◌∙◌, subst, set, ⊎_elim, arith, length-set}
use Rattle.std.specs.Prelude.{slice_index}
use Rattle.std.proofs.lemmas.Bool.{cases_eq}
use Rattle.std.proofs.lemmas.List.{get_or-set_other, get_or-set_same}
use Rattle.std.proofs.lemmas.Nat.{div-mul-add, mod-mul-add}
use Rattle.atomic_table.specs.Table.{Me, Allows}
use Rattle.cells_pages.specs.declared.rule.View.{View}
use Rattle.cells_pages.specs.Versions.{StartsWith, AreVersions, newest}
use Rattle.cells_pages.specs.Versions.{at}
use Rattle.cells_pages.specs.Views.{pen_view, writing, IsWriting}
use Rattle.cells_pages.specs.Rule.{Content, HasWords, IsContent, Fits, KeepsPage}
use Rattle.cells_pages.specs.Plays.{ShowsOf, OpensOf, LooksOf, PutsOf, PublishesOf}
use Rattle.cells_pages.proofs.Rising.{starts_self}
use Rattle.cells_pages.proofs.Lists.{newest-push, never_longer}
use Rattle.cells_pages.proofs.Words.{word_below, elsewhere, changed}
use Rattle.cells_pages.proofs.Fitting.{off, Grows, fits_pen, fits_writing}
use Rattle.cells_pages.proofs.Moves.{loads, stores, Change}

-- what the pen's seat knows of the content
module _ (n seat : ℕ) (c : Content) (by : ℕ) (v : View) (f : Fits n seat c by v) where
  pub pen_knows : v ≡ pen_view v.seen → (by ≡ seat) × (v ≡ pen_view c.all) × (c.busy ≡ false)
  pen_knows is = let mine = f.pen (ap (λ (u : View). u.pen) is) in
      (mine.0, is ∙ ap pen_view mine.1, sym mine.2 ∙ ap (λ (u : View). u.busy) is)

  pub writer_knows : v ≡ writing v.seen v.place v.next → (by ≡ seat) × (v ≡ writing c.all c.place c.next) × (c.busy ≡ true)
  writer_knows is =
      let mine = f.pen (ap (λ (u : View). u.pen) is) in
      let busy : c.busy ≡ true = sym mine.2 ∙ ap (λ (u : View). u.busy) is in
      let place = mine.3 busy in
      (mine.0, is ∙ (λ i. writing (mine.1 i) (place.0 i) (place.1 i)), busy)

module _ (n : ℕ) (some : 0 < n) where
  -- the first word of a record, in a page with this content
  first_within : (words : List ℕ) (c : Content) (p : ℕ) → IsContent n words c → p < length c.all → (j : ℕ) → j < n → p * n + j < length words
  first_within words c p k within j l = subst (λ x. p * n + j < x) (sym k.wide) (word_below n p (length c.all) j within l)

  -- the pen, which stores no version, loads word i of the record at place p
  show_tells : (words : List ℕ) (c : Content) (p i : ℕ) (v : View) → c.busy ≡ false → IsContent n words c → c.all ≡ v.seen → p < length v.seen → i < n
      → ShowsOf n (p * n + i) v (slice_index words (p * n + i)) v
  show_tells words c p i v idle k same within l =
      let here : p ≡ (p * n + i) / n = sym (div-mul-add p n i l) in
      let inside : p < length c.all = subst (λ (all : List (List (List ℕ))). p < length all) (sym same) within in
      let all : at c.all p ≡ at v.seen p = ap (λ (all : List (List (List ℕ))). at all p) same in (
        refl,
        k.rests p inside (λ busy. off (sym idle ∙ busy)) i l
            ∙ ap (λ (vs : List (List ℕ)). slice_index (newest vs) i) all
            ∙ (λ h. slice_index (newest (at v.seen (here h))) (sym (mod-mul-add p n i l) h)),
        subst (λ q. AreVersions n (at v.seen q)) here (subst (AreVersions n) all (k.sound p inside)),
      )

  pub shows : (slots by word p i : ℕ) (me : Me (Unit {0}) View) → me.0 ≡ pen_view me.0.seen → word ≡ p * n + i → p < length me.0.seen → i < n
      → Allows (KeepsPage n) slots by me word (λ x. x) (λ found after. ShowsOf n word me.0 found after.0)
  shows slots by word p i me is stands within l = subst (λ w. Allows (KeepsPage n) slots by me w (λ x. x) (λ found after. ShowsOf n w me.0 found after.0)) (sym stands)
      (loads n slots by (p * n + i) me (ShowsOf n (p * n + i) me.0)
      (λ s k f.
      let knows = pen_knows n k.seat k.content by me.0 f is in (
        me.0,
        f,
        show_tells s.words k.content p i me.0 knows.2 k.words (sym (ap (λ (v : View). v.seen) knows.1)) within l,
      )))

  -- the pen marks the record at place p
  abbrev marked : Content → ℕ → ℕ → Content
  marked c p new = record { all = c.all; busy = true; place = p; next = set (newest (at c.all p)) 0 new }

  marked_stands : (p new : ℕ) (words : List ℕ) (c : Content) → c.busy ≡ false → IsContent n words c → p < length c.all → new % 2 ≡ 1
      → IsContent n (set words (p * n + 0) new) (marked c p new)
  marked_stands p new words c idle k within odd =
      let now = k.sound p within in
      let long : 0 < length (newest (at c.all p)) = (let wide = now.wide in omega arith) in
      record {
        wide = length-set words (p * n + 0) new ∙ k.wide;
        sound = k.sound;
        rests = λ q inside rest. elsewhere n words (newest (at c.all q)) q p 0 new (rest refl) some (k.rests q inside (λ busy. off (sym idle ∙ busy)));
        opens = λ _. record {
          within = within;
          wide = length-set (newest (at c.all p)) 0 new ∙ now.wide;
          odd = subst (λ x. x % 2 ≡ 1) (sym (get_or-set_same (newest (at c.all p)) 0 new 0 long)) odd;
          has = changed n words (newest (at c.all p)) p 0 new (first_within words c p k within 0 some) now.wide some
              (k.rests p within (λ busy. off (sym idle ∙ busy)));
        };
      }

  open_change : (seat by p new : ℕ) (words : List ℕ) (c : Content) → by ≡ seat → c.busy ≡ false → IsContent n words c → p < length c.all → new % 2 ≡ 1
      → Change n seat by (p * n + 0) new words c (pen_view c.all) (OpensOf n (p * n + 0) (pen_view c.all))
  open_change seat by p new words c own idle k within odd =
      let here : p ≡ (p * n + 0) / n = sym (div-mul-add p n 0 some) in
      record {
        own = own;
        content = marked c p new;
        view = writing c.all p (set (newest (at c.all p)) 0 new);
        grows = record { size = refl; grows = λ q. starts_self (at c.all q); same = λ q vs _ e _. (e, λ busy. off (sym idle ∙ busy)) };
        fits = fits_writing n seat (marked c p new) by own refl;
        stands = marked_stands p new words c idle k within odd;
        told = (
          ap (λ q. writing c.all q (set (newest (at c.all q)) 0 new)) here,
          subst (λ q. AreVersions n (at c.all q)) here (k.sound p within),
        );
      }

  pub opens : (slots by word p new : ℕ) (me : Me (Unit {0}) View) → me.0 ≡ pen_view me.0.seen → word ≡ p * n + 0 → p < length me.0.seen → new % 2 ≡ 1
      → Allows (KeepsPage n) slots by me word (λ _. new) (λ _ after. OpensOf n word me.0 new after.0)
  opens slots by word p new me is stands within odd = subst (λ w. Allows (KeepsPage n) slots by me w (λ _. new) (λ _ after. OpensOf n w me.0 new after.0)) (sym stands)
      (stores n slots by (p * n + 0) new me (OpensOf n (p * n + 0) me.0)
      (λ s k f.
      let knows = pen_knows n k.seat k.content by me.0 f is in
      subst (λ v. Change n k.seat by (p * n + 0) new s.words k.content v (OpensOf n (p * n + 0) v)) (sym knows.1)
      (open_change k.seat by p new s.words k.content knows.0 knows.2 k.words (subst (λ (v : View). p < length v.seen) knows.1 within) odd)))

  -- it loads a word of it
  pub looks : (slots by word i : ℕ) (me : Me (Unit {0}) View) → IsWriting me.0 → word ≡ me.0.place * n + i → i < n
      → Allows (KeepsPage n) slots by me word (λ x. x) (λ found after. LooksOf n word me.0 found after.0)
  looks slots by word i me is stands l = loads n slots by word me (LooksOf n word me.0)
      (λ s k f.
      let knows = writer_knows n k.seat k.content by me.0 f is in
      let place : me.0.place ≡ k.content.place = ap (λ (v : View). v.place) knows.1 in
      let rest : i ≡ word % n = sym (ap (λ w. w % n) stands ∙ mod-mul-add me.0.place n i l) in (
        me.0,
        f,
        (
          refl,
          ap (slice_index s.words) (stands ∙ ap (λ q. q * n + i) place) ∙ (k.words.opens knows.2).has i l
              ∙ (λ h. slice_index (ap (λ (v : View). v.next) (sym knows.1) h) (rest h)),
        ),
      ))

  -- it stores another word of it than the first
  abbrev put : Content → ℕ → ℕ → Content
  put c i new = record { all = c.all; busy = c.busy; place = c.place; next = set c.next i new }

  put_stands : (i new : ℕ) (words : List ℕ) (c : Content) → c.busy ≡ true → IsContent n words c → 0 < i → i < n
      → IsContent n (set words (c.place * n + i) new) (put c i new)
  put_stands i new words c busy k other l =
      let o = k.opens busy in
      record {
        wide = length-set words (c.place * n + i) new ∙ k.wide;
        sound = k.sound;
        rests = λ q inside rest. elsewhere n words (newest (at c.all q)) q c.place i new (rest busy) l (k.rests q inside rest);
        opens = λ _. record {
          within = o.within;
          wide = length-set c.next i new ∙ o.wide;
          odd = subst (λ x. x % 2 ≡ 1) (sym (get_or-set_other c.next i 0 new 0 (λ e. omega arith))) o.odd;
          has = changed n words c.next c.place i new (first_within words c c.place k o.within i l) o.wide l o.has;
        };
      }

  put_change : (seat by i new : ℕ) (words : List ℕ) (c : Content) → by ≡ seat → c.busy ≡ true → IsContent n words c → 0 < i → i < n
      → Change n seat by (c.place * n + i) new words c (writing c.all c.place c.next) (PutsOf n (c.place * n + i) (writing c.all c.place c.next))
  put_change seat by i new words c own busy k other l = record {
    own = own;
    content = put c i new;
    view = writing c.all c.place (set c.next i new);
    grows = record { size = refl; grows = λ q. starts_self (at c.all q); same = λ q vs _ e rest. (e, rest) };
    fits = fits_writing n seat (put c i new) by own busy;
    stands = put_stands i new words c busy k other l;
    told = ap (λ j. writing c.all c.place (set c.next j new)) (sym (mod-mul-add c.place n i l));
  }

  pub puts : (slots by word i new : ℕ) (me : Me (Unit {0}) View) → IsWriting me.0 → word ≡ me.0.place * n + i → 0 < i → i < n
      → Allows (KeepsPage n) slots by me word (λ _. new) (λ _ after. PutsOf n word me.0 new after.0)
  puts slots by word i new me is stands other l = stores n slots by word new me (PutsOf n word me.0)
      (λ s k f.
      let knows = writer_knows n k.seat k.content by me.0 f is in
      let c = k.content in
      let here : word ≡ c.place * n + i = stands ∙ ap (λ (v : View). v.place * n + i) knows.1 in
      subst (λ (x : ℕ × View). Change n k.seat by x.0 new s.words c x.1 (PutsOf n x.0 x.1)) (λ h. (sym here h, sym knows.1 h))
      (put_change k.seat by i new s.words c knows.0 knows.2 k.words other l))

  -- it stores the first word
  abbrev published : Content → ℕ → Content
  published c new = record { all = set c.all c.place (at c.all c.place ++ set c.next 0 new ∷ []); busy = false; place = 0; next = [] }

  module _ (new : ℕ) (words : List ℕ) (c : Content) (busy : c.busy ≡ true) (k : IsContent n words c) (sound : AreVersions n (at c.all c.place ++ set c.next 0 new ∷ [])) where
    within : c.place < length c.all
    within = (k.opens busy).within

    here : (q : ℕ) → q ≡ c.place → at (published c new).all q ≡ at c.all q ++ set c.next 0 new ∷ []
    here q e = ap (at (published c new).all) e ∙ get_or-set_same c.all c.place (at c.all c.place ++ set c.next 0 new ∷ []) [] within
        ∙ ap (λ p. at c.all p ++ set c.next 0 new ∷ []) (sym e)

    there : (q : ℕ) → q ≢ c.place → at (published c new).all q ≡ at c.all q
    there q apart = get_or-set_other c.all c.place q (at c.all c.place ++ set c.next 0 new ∷ []) [] apart

    published_grows : Grows c (published c new)
    published_grows = record {
      size = length-set c.all c.place (at c.all c.place ++ set c.next 0 new ∷ []);
      grows = λ q. ⊎_elim
          (λ (e : q ≡ c.place). (set c.next 0 new ∷ [], here q e))
          (λ (apart : q ≢ c.place). subst (λ (vs : List (List ℕ)). StartsWith vs (at c.all q)) (sym (there q apart)) (starts_self (at c.all q)))
          (cases_eq q c.place);
      same = λ q vs starts e _. ⊎_elim
          (λ (is : q ≡ c.place). absurd (never_longer (at c.all q) vs (set c.next 0 new) starts (sym (here q is) ∙ e)))
          (λ (apart : q ≢ c.place). (sym (there q apart) ∙ e, λ _. apart))
          (cases_eq q c.place);
    }

    published_rests : (q : ℕ) → q < length c.all → HasWords n (set words (c.place * n + 0) new) q (newest (at (published c new).all q))
    published_rests q inside =
        let o = k.opens busy in
        ⊎_elim
        (λ (e : q ≡ c.place). subst (HasWords n (set words (c.place * n + 0) new) q) (sym (ap newest (here q e) ∙ newest-push (at c.all q) (set c.next 0 new)))
        (subst (λ p. HasWords n (set words (c.place * n + 0) new) p (set c.next 0 new)) (sym e)
        (changed n words c.next c.place 0 new (first_within words c c.place k within 0 some) o.wide some o.has)))
        (λ (apart : q ≢ c.place). subst (λ (vs : List (List ℕ)). HasWords n (set words (c.place * n + 0) new) q (newest vs)) (sym (there q apart))
        (elsewhere n words (newest (at c.all q)) q c.place 0 new apart some (k.rests q inside (λ _. apart))))
        (cases_eq q c.place)

    published_stands : IsContent n (set words (c.place * n + 0) new) (published c new)
    published_stands =
        let size = length-set c.all c.place (at c.all c.place ++ set c.next 0 new ∷ []) in
        record {
          wide = length-set words (c.place * n + 0) new ∙ k.wide ∙ ap (λ x. x * n) (sym size);
          sound = λ q inside. ⊎_elim
              (λ (e : q ≡ c.place). subst (AreVersions n) (sym (here q e)) (subst (λ p. AreVersions n (at c.all p ++ set c.next 0 new ∷ [])) (sym e) sound))
              (λ (apart : q ≢ c.place). subst (AreVersions n) (sym (there q apart)) (k.sound q (subst (λ x. q < x) size inside)))
              (cases_eq q c.place);
          rests = λ q inside _. published_rests q (subst (λ x. q < x) size inside);
          opens = λ is. off is;
        }

  publish_change : (seat by new : ℕ) (words : List ℕ) (c : Content) → by ≡ seat → c.busy ≡ true → IsContent n words c
      → AreVersions n (at c.all c.place ++ set c.next 0 new ∷ [])
      → Change n seat by (c.place * n + 0) new words c (writing c.all c.place c.next) (PublishesOf (writing c.all c.place c.next))
  publish_change seat by new words c own busy k sound = record {
    own = own;
    content = published c new;
    view = pen_view (set c.all c.place (at c.all c.place ++ set c.next 0 new ∷ []));
    grows = published_grows new words c busy k sound;
    fits = fits_pen n seat (published c new) by own refl;
    stands = published_stands new words c busy k sound;
    told = refl;
  }

  pub publishes : (slots by word new : ℕ) (me : Me (Unit {0}) View) → IsWriting me.0 → word ≡ me.0.place * n + 0
      → AreVersions n (at me.0.seen me.0.place ++ set me.0.next 0 new ∷ [])
      → Allows (KeepsPage n) slots by me word (λ _. new) (λ _ after. PublishesOf me.0 new after.0)
  publishes slots by word new me is stands sound = stores n slots by word new me (PublishesOf me.0)
      (λ s k f.
      let knows = writer_knows n k.seat k.content by me.0 f is in
      let c = k.content in
      let here : word ≡ c.place * n + 0 = stands ∙ ap (λ (v : View). v.place * n + 0) knows.1 in
      subst (λ (x : ℕ × View). Change n k.seat by x.0 new s.words c x.1 (PublishesOf x.1)) (λ h. (sym here h, sym knows.1 h))
      (publish_change k.seat by new s.words c knows.0 knows.2 k.words
      (subst (λ (v : View). AreVersions n (at v.seen v.place ++ set v.next 0 new ∷ [])) knows.1 sound)))
