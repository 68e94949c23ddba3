-- Which views fit a page, and what stays so when its content changes.
use Rattle.std.proofs.Common.{◌≡◌, ◌≢◌, ℕ, ◌<◌, true, false, true≢false, List, [], length, refl, sym, ◌∙◌, subst, set, ⊎_elim, arith}
use mathlib.Core.Option.{some}
use lib.ListN.{get_elem?}
use Rattle.atomic_table.proofs.Lists.{at_set}
use Rattle.cells_pages.specs.declared.rule.View.{View}
use Rattle.cells_pages.specs.Versions.{StartsWith}
use Rattle.cells_pages.specs.Versions.{at}
use Rattle.cells_pages.specs.Views.{writing, told_pen, sight}
use Rattle.cells_pages.specs.Rule.{Content, IsAtRest, Fits}
use Rattle.cells_pages.proofs.Rising.{starts_self}
use Rattle.cells_pages.proofs.Lists.{starts_starts, starts_none}

pub off : {A : Type 0} → false ≡ true → A
off e = absurd (true≢false (sym e))

none : {A : Type 0} (i : ℕ) → i < 0 → A
none i h = absurd (omega arith)

-- a seat's new view fits, and the others do
pub fits_set : (n seat : ℕ) (c : Content) (views : List View) (by : ℕ) (w : View)
    → ((j : ℕ) (u : View) → j ≢ by → get_elem? views j ≡ some u → Fits n seat c j u) → Fits n seat c by w
    → (j : ℕ) (u : View) → get_elem? (set views by w) j ≡ some u → Fits n seat c j u
fits_set n seat c views by w others mine j u e = ⊎_elim
    (λ (x : (j ≡ by) × (w ≡ u)). subst (λ (y : ℕ × View). Fits n seat c y.0 y.1) (λ i. (sym x.0 i, x.1 i)) mine)
    (λ (x : (j ≢ by) × (get_elem? views j ≡ some u)). others j u x.0 x.1)
    (at_set views by j w u e)

-- a reader between calls
pub fits_sight : (n seat : ℕ) (c : Content) (by : ℕ) (seen : List (List (List ℕ))) (loads : List ℕ) → (0 < length seen → length seen ≡ length c.all)
    → ((q : ℕ) → StartsWith (at c.all q) (at seen q)) → Fits n seat c by (sight seen loads)
fits_sight n seat c by seen loads size starts = record {
  size = size;
  told_size = λ h. none 0 h;
  seen = starts;
  told = λ q. starts_none (at c.all q);
  pen = λ p. off p;
  begun = starts_none (at c.all 0);
  head = λ _. refl;
  sound = λ h. none 0 h;
  fresh = λ _ _ i h. none i h;
}

-- the pen, told of these versions or none
pub fits_told : (n seat : ℕ) (c : Content) (by : ℕ) (told : List (List (List ℕ))) (loads : List ℕ) (place : ℕ) → by ≡ seat → c.busy ≡ false
    → (0 < length told → length told ≡ length c.all) → ((q : ℕ) → StartsWith (at c.all q) (at told q)) → Fits n seat c by (told_pen c.all told loads place)
fits_told n seat c by told loads place own idle size starts = record {
  size = λ _. refl;
  told_size = size;
  seen = λ q. starts_self (at c.all q);
  told = starts;
  pen = λ _. (own, refl, sym idle, λ busy. off (sym idle ∙ busy));
  begun = starts_none (at c.all place);
  head = λ _. refl;
  sound = λ h. none 0 h;
  fresh = λ _ _ i h. none i h;
}

pub fits_pen : (n seat : ℕ) (c : Content) (by : ℕ) → by ≡ seat → c.busy ≡ false → Fits n seat c by (told_pen c.all [] [] 0)
fits_pen n seat c by own idle = fits_told n seat c by [] [] 0 own idle (λ h. none 0 h) (λ q. starts_none (at c.all q))

-- the pen while it stores
pub fits_writing : (n seat : ℕ) (c : Content) (by : ℕ) → by ≡ seat → c.busy ≡ true → Fits n seat c by (writing c.all c.place c.next)
fits_writing n seat c by own busy = record {
  size = λ _. refl;
  told_size = λ h. none 0 h;
  seen = λ q. starts_self (at c.all q);
  told = λ q. starts_none (at c.all q);
  pen = λ _. (own, refl, sym busy, λ _. (refl, refl));
  begun = starts_none (at c.all c.place);
  head = λ _. refl;
  sound = λ h. none 0 h;
  fresh = λ _ _ i h. none i h;
}

-- the pen changes the content: it has all versions that it had, and where a place has the versions that it had and is at
-- rest, it was so before
pub record Grows (c d : Content) : Type 0 where
  pub size : length d.all ≡ length c.all
  pub grows : (q : ℕ) → StartsWith (at d.all q) (at c.all q)
  pub same : (q : ℕ) (vs : List (List ℕ)) → StartsWith (at c.all q) vs → at d.all q ≡ vs → IsAtRest d q → (at c.all q ≡ vs) × IsAtRest c q

pub others_fit : (n seat : ℕ) (c d : Content) (by : ℕ) (v : View) → Grows c d → by ≢ seat → Fits n seat c by v → Fits n seat d by v
others_fit n seat c d by v g apart f = record {
  size = λ h. f.size h ∙ sym g.size;
  told_size = λ h. f.told_size h ∙ sym g.size;
  seen = λ q. starts_starts (at d.all q) (at c.all q) (at v.seen q) (g.grows q) (f.seen q);
  told = λ q. starts_starts (at d.all q) (at c.all q) (at v.told q) (g.grows q) (f.told q);
  pen = λ p. absurd (apart (f.pen p).0);
  begun = starts_starts (at d.all v.place) (at c.all v.place) v.begun (g.grows v.place) f.begun;
  head = f.head;
  sound = f.sound;
  fresh = λ same rest. let was = g.same v.place v.begun f.begun same rest in f.fresh was.0 was.1;
}
