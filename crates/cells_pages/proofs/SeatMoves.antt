-- The pen compares what it was told; seats are cut in two, and meet.
use Rattle.std.proofs.Common.{◌≡◌, ℕ, false, ◌+◌, ◌*◌, ◌/◌, ◌<◌, List, [], map, length, sym, ap, ◌∙◌, subst, set, arith, length-set}
use Rattle.std.specs.Prelude.{slice_index}
use Rattle.std.proofs.lemmas.Nat.{div-mul-add}
use Rattle.atomic_table.specs.Table.{Me, Allows, Splits, Joins}
use Rattle.cells_pages.specs.declared.rule.View.{View}
use Rattle.cells_pages.specs.Versions.{StartsWith, AreVersions, newest, word_in}
use Rattle.cells_pages.specs.Versions.{at}
use Rattle.cells_pages.specs.Views.{pen_view, told_pen, sight}
use Rattle.cells_pages.specs.Rule.{Content, IsContent, Fits, KeepsPage}
use Rattle.cells_pages.specs.Plays.{ComparesOf, starting, heard, having_met}
use Rattle.cells_pages.proofs.Rising.{starts_self}
use Rattle.cells_pages.proofs.Lists.{starts_none, starts_set}
use Rattle.cells_pages.proofs.Fitting.{off, fits_sight, fits_pen, fits_told}
use Rattle.cells_pages.proofs.Moves.{loads, splits, joins}
use Rattle.cells_pages.proofs.PenMoves.{pen_knows}

-- what the pen that was told knows of the content
told_knows : (n seat : ℕ) (c : Content) (by : ℕ) (v : View) → Fits n seat c by v → v ≡ told_pen v.seen v.told v.told_loads v.place
    → (by ≡ seat) × (v.seen ≡ c.all) × (c.busy ≡ false)
told_knows n seat c by v f is = let mine = f.pen (ap (λ (u : View). u.pen) is) in
    (mine.0, mine.1, sym mine.2 ∙ ap (λ (u : View). u.busy) is)

module _ (n : ℕ) (some : 0 < n) where
  compare_tells : (seat : ℕ) (words : List ℕ) (c : Content) (by p : ℕ) (v : View) → c.busy ≡ false → IsContent n words c → Fits n seat c by v → v.seen ≡ c.all → p < length v.seen
      → ComparesOf n (p * n + 0) v (slice_index words (p * n + 0)) (told_pen v.seen v.told v.told_loads p)
  compare_tells seat words c by p v idle k f same within =
      let here : p ≡ (p * n + 0) / n = sym (div-mul-add p n 0 some) in
      let inside : p < length c.all = subst (λ (l : List (List (List ℕ))). p < length l) same within in
      let all : at c.all p ≡ at v.seen p = ap (λ (l : List (List (List ℕ))). at l p) (sym same) in
      let starts : StartsWith (at v.seen p) (at v.told p) = subst (λ (vs : List (List ℕ)). StartsWith vs (at v.told p)) all (f.told p) in
      let sound : AreVersions n (at v.seen p) = subst (AreVersions n) all (k.sound p inside) in
      record {
        place = ap (told_pen v.seen v.told v.told_loads) here;
        newest =
            k.rests p inside (λ busy. off (sym idle ∙ busy)) 0 some
            ∙ ap (λ (vs : List (List ℕ)). word_in (newest vs)) all
            ∙ ap (λ q. word_in (newest (at v.seen q))) here;
        grows = subst (λ q. StartsWith (at v.seen q) (at v.told q)) here starts;
        sound = subst (λ q. AreVersions n (at v.seen q)) here sound;
      }

  pub compares : (slots by word p : ℕ) (me : Me (Unit {0}) View) → me.0 ≡ told_pen me.0.seen me.0.told me.0.told_loads me.0.place → word ≡ p * n + 0
      → p < length me.0.seen
      → Allows (KeepsPage n) slots by me word (λ x. x) (λ found after. ComparesOf n word me.0 found after.0)
  compares slots by word p me is stands within = subst (λ w. Allows (KeepsPage n) slots by me w (λ x. x) (λ found after. ComparesOf n w me.0 found after.0)) (sym stands)
      (loads n slots by (p * n + 0) me (ComparesOf n (p * n + 0) me.0)
      (λ s k f.
      let v = me.0 in
      let knows = told_knows n k.seat k.content by v f is in (
        told_pen v.seen v.told v.told_loads p,
        subst (λ (l : List (List (List ℕ))). Fits n k.seat k.content by (told_pen l v.told v.told_loads p)) (sym knows.1)
            (fits_told n k.seat k.content by v.told v.told_loads p knows.0 knows.2 f.told_size f.told),
        compare_tells k.seat s.words k.content by p v knows.2 k.words f knows.1 within,
      )))

-- a new reader, which has seen what the pen has
pub starts : (n by : ℕ) (v : View) → Splits (KeepsPage n) by v v (starting v)
starts n by v = splits n by v v (starting v) (λ seat c f. (f, λ j. fits_sight n seat c j v.seen (map (λ _. 0) v.seen) f.size f.seen))

-- a reader tells what it knows
pub tells : (n by : ℕ) (v : View) → Splits (KeepsPage n) by v v (sight v.seen v.loads)
tells n by v = splits n by v v (sight v.seen v.loads) (λ seat c f. (f, λ j. fits_sight n seat c j v.seen v.loads f.size f.seen))

-- the pen is told it
pub hears : (n by : ℕ) (v : View) (other : ℕ) (u : View) → v ≡ pen_view v.seen → Joins (KeepsPage n) by v other u (heard v u) (sight [] [])
hears n by v other u is = joins n by v other u (heard v u) (sight [] [])
    (λ seat c mine theirs. let knows = pen_knows n seat c by v mine is in (
      subst (λ (l : List (List (List ℕ))). Fits n seat c by (told_pen l u.seen u.loads 0)) (sym (ap (λ (x : View). x.seen) knows.1))
          (fits_told n seat c by u.seen u.loads 0 knows.0 knows.2 theirs.size theirs.seen),
      fits_sight n seat c other [] [] (λ h. absurd (omega arith)) (λ q. starts_none (at c.all q)),
    ))

-- the pen gives back what it was told, and all versions of the record at its place
pub gives : (n by : ℕ) (v : View) → v ≡ told_pen v.seen v.told v.told_loads v.place → v.place < length v.told
    → Splits (KeepsPage n) by v (pen_view v.seen) (having_met v)
gives n by v is within = splits n by v (pen_view v.seen) (having_met v)
    (λ seat c f. let knows = told_knows n seat c by v f is in
    let all : at v.seen v.place ≡ at c.all v.place = ap (λ (l : List (List (List ℕ))). at l v.place) knows.1 in (
      subst (λ (l : List (List (List ℕ))). Fits n seat c by (pen_view l)) (sym knows.1) (fits_pen n seat c by knows.0 knows.2),
      λ j. fits_sight n seat c j (set v.told v.place (at v.seen v.place)) v.told_loads
          (λ _. length-set v.told v.place (at v.seen v.place) ∙ f.told_size (omega arith))
          (starts_set c.all v.told v.place (at v.seen v.place) within (subst (StartsWith (at c.all v.place)) (sym all) (starts_self (at c.all v.place))) f.told),
    ))
