-- A step that meets `Change`, or leaves the words as they are, keeps the rule.
use Rattle.std.proofs.Common.{◌≡◌, ◌≢◌, ℕ, List, set, sym, ◌∙◌, subst, ⊎_elim}
use Rattle.std.specs.Prelude.{slice_index}
use Rattle.std.proofs.lemmas.List.{set-get_or}
use mathlib.Core.Option.{some}
use lib.ListN.{get_elem?}
use Rattle.atomic_table.specs.Table.{State, Me, Allows, Splits, Joins, keeps}
use Rattle.atomic_table.proofs.Lists.{at_set, at_snoc}
use Rattle.cells_pages.specs.declared.rule.View.{View}
use Rattle.cells_pages.specs.Rule.{Content, IsContent, Fits, KeepsPage}
use Rattle.cells_pages.proofs.Fitting.{Grows, fits_set, others_fit}

-- a load, by which a seat may know more
pub loads : (n slots by word : ℕ) (me : Me (Unit {0}) View) (then : ℕ → View → Type 0)
    → ((s : State (Unit {0}) View) (k : KeepsPage n s) → Fits n k.seat k.content by me.0
    → (w : View) × Fits n k.seat k.content by w × then (slice_index s.words word) w)
    → Allows (KeepsPage n) slots by me word (λ x. x) (λ found after. then found after.0)
loads n slots by word me then can s k _ at _ =
    let m = can s k (k.fits by me.0 at) in (
      m.0,
      keeps,
      tt,
      subst (λ (ws : List ℕ). KeepsPage n record { words = ws; homes = s.homes; views = set s.views by m.0 }) (sym (set-get_or s.words word 0))
          (record {
            seat = k.seat;
            content = k.content;
            words = k.words;
            fits = fits_set n k.seat k.content s.views by m.0 (λ j u _ e. k.fits j u e) m.1;
          }),
      m.2,
    )

-- what a store of the seat that knows v has to show: the content after it, and that the others' views fit that
pub record Change (n seat by word new : ℕ) (words : List ℕ) (c : Content) (v : View) (then : ℕ → View → Type 0) : Type 0 where
  pub own : by ≡ seat
  pub content : Content
  pub view : View
  pub grows : Grows c content
  pub fits : Fits n seat content by view
  pub stands : IsContent n (set words word new) content
  pub told : then new view

pub stores : (n slots by word new : ℕ) (me : Me (Unit {0}) View) (then : ℕ → View → Type 0)
    → ((s : State (Unit {0}) View) (k : KeepsPage n s) → Fits n k.seat k.content by me.0 → Change n k.seat by word new s.words k.content me.0 then)
    → Allows (KeepsPage n) slots by me word (λ _. new) (λ _ after. then new after.0)
stores n slots by word new me then can s k _ at _ =
    let m = can s k (k.fits by me.0 at) in (
      m.view,
      keeps,
      tt,
      record {
        seat = k.seat;
        content = m.content;
        words = m.stands;
        fits = fits_set n k.seat m.content s.views by m.view
            (λ j u apart e. others_fit n k.seat k.content m.content j u m.grows (λ is. apart (is ∙ sym m.own)) (k.fits j u e))
            m.fits;
      },
      m.told,
    )

-- a seat is cut in two
pub splits : (n by : ℕ) (v left right : View)
    → ((seat : ℕ) (c : Content) → Fits n seat c by v → Fits n seat c by left × ((j : ℕ) → Fits n seat c j right))
    → Splits (KeepsPage n) by v left right
splits n by v left right can s k at =
    let m = can k.seat k.content (k.fits by v at) in
    record {
      seat = k.seat;
      content = k.content;
      words = k.words;
      fits = λ j u e. ⊎_elim
          (fits_set n k.seat k.content s.views by left (λ i x _ f. k.fits i x f) m.0 j u)
          (λ (same : right ≡ u). subst (Fits n k.seat k.content j) same (m.1 j))
          (at_snoc (set s.views by left) right u j e);
    }

-- two seats meet
pub joins : (n by : ℕ) (v : View) (other : ℕ) (u w spent : View)
    → ((seat : ℕ) (c : Content) → Fits n seat c by v → Fits n seat c other u → Fits n seat c by w × Fits n seat c other spent)
    → Joins (KeepsPage n) by v other u w spent
joins n by v other u w spent can s k at apart there =
    let theirs = ⊎_elim (λ (t : (other ≡ by) × (w ≡ u)). absurd (apart t.0))
    (λ (t : (other ≢ by) × (get_elem? s.views other ≡ some u)). k.fits other u t.1) (at_set s.views by other w u there) in
    let m = can k.seat k.content (k.fits by v at) theirs in
    record {
      seat = k.seat;
      content = k.content;
      words = k.words;
      fits = fits_set n k.seat k.content (set s.views by w) other spent
          (λ j x _ e. fits_set n k.seat k.content s.views by w (λ i y _ f. k.fits i y f) m.0 j x e)
          m.1;
    }
