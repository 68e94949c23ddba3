-- The last epoch of files, file after file.
use Rattle.std.proofs.Common.{◌≡◌, ⊎_elim, ℕ, ◌+◌, ◌<◌, ◌≤◌, max, false, Option, None, Some, IsSome, List, [], map, length, get_or, Vec, Global, refl, sym, ap, ◌∙◌, subst, arith, below_more}
use Rattle.std.specs.List.{All}
use Rattle.std.proofs.Math.Nat.{le-max_left, le-max_right, max-le}
use Rattle.std.proofs.lemmas.List.{get_or-map}
use Rattle.std.proofs.lemmas.List.Elements.{All-nil, All-weaker}
use Rattle.tables.specs.Sizes.{Sizes}
use Rattle.log_header.specs.Header.{HeaderView, header_view}
use Rattle.log_text.specs.Bodies.{BodyView, bodies_after, start}
use Rattle.log_text.specs.declared.body.Body.{Body}
use Rattle.log_text.specs.declared.last.Last.{Last}
use Rattle.recover_found.specs.Found.{bodies_in, last_mark, entries_of, void_in}
use Rattle.recover_files.specs.Files.{AreFiles}
use Rattle.recover_crashes.proofs.Marks.{last_is}
use Rattle.recover_opening.specs.Tops.{epoch_from, bodies_at, IsTopOfAll}
use Rattle.recover_opening.proofs.Falls.{IsUpToEpoch, file_rises, from_same, from_low}

-- of one file: its last mark, or the epoch of its last entry
abbrev pub top_in : List BodyView → ℕ
top_in bodies = max (last_mark 0 bodies) (epoch_from 0 bodies)

record IsTopIn (bodies : List BodyView) (top : ℕ) : Type 0 where
  pub mark : last_mark 0 bodies ≤ top
  pub entries : All (IsUpToEpoch top) (entries_of bodies)
  pub ends : (epoch : ℕ) → top < epoch → void_in bodies epoch ≡ false

later : (bodies : List BodyView) (a b : ℕ) → a ≤ b → IsTopIn bodies a → IsTopIn bodies b
later bodies a b low is = record {
  mark = omega (arith, is.mark, low);
  entries = All-weaker (IsUpToEpoch a) (IsUpToEpoch b) (λ e up. omega (arith, up, low)) (entries_of bodies) is.entries;
  ends = λ epoch above. is.ends epoch (omega (arith, above, low));
}

some_of : (o : Option Last) → IsSome o → (last : Last) × (o ≡ Some last)
some_of None is = absurd cc
some_of (Some last) is = (last, refl)

tops : (h : HeaderView) (bodies : List BodyView) (last : Last) → bodies_after h start bodies ≡ Some last → IsTopIn bodies (top_in bodies)
tops h bodies last lawful =
    let rises = file_rises h start bodies last lawful in
    let mark : last_mark 0 bodies ≡ last.mark = last_is h start bodies last lawful in
    let low = le-max_left (last_mark 0 bodies) (epoch_from 0 bodies) in
    let high = le-max_right (last_mark 0 bodies) (epoch_from 0 bodies) in
    record {
      mark = low;
      entries = ⊎_elim
          (λ (none : entries_of bodies ≡ []). subst (All (IsUpToEpoch (top_in bodies))) (sym none) (All-nil (IsUpToEpoch (top_in bodies))))
          (λ (same : epoch_from 0 bodies ≡ epoch_from 1 bodies). All-weaker (IsUpToEpoch last.epoch) (IsUpToEpoch (top_in bodies))
          (λ e up. omega (arith, up, high, same, rises.epoch_is)) (entries_of bodies) rises.entries)
          (from_same 0 1 bodies);
      ends = λ epoch above. rises.ends epoch (omega (arith, above, low, mark));
    }

-- of the first i files
pub record IsTopSoFar (files : List (List BodyView)) (i top : ℕ) : Type 0 where
  pub above : (l : ℕ) → l < i → top_in (bodies_at files l) ≤ top
  pub least : (n : ℕ) → ((l : ℕ) → l < i → top_in (bodies_at files l) ≤ n) → top ≤ n

pub none_yet : (files : List (List BodyView)) → IsTopSoFar files 0 0
none_yet files = record { above = λ l less. absurd (omega (arith, less)); least = λ n all. omega arith }

one_more : (files : List (List BodyView)) (i top now : ℕ) → now ≡ max (top_in (bodies_at files i)) top → IsTopSoFar files i top → IsTopSoFar files (i + 1) now
one_more files i top now is so_far =
    let low = le-max_left (top_in (bodies_at files i)) top in
    let high = le-max_right (top_in (bodies_at files i)) top in
    record {
      above = below_more (λ l. top_in (bodies_at files l) ≤ now) i (λ l less. omega (arith, so_far.above l less, high, is)) (omega (arith, low, is));
      least = λ n all.
          let both : max (top_in (bodies_at files i)) top ≤ n = max-le (all i (omega arith)) (so_far.least n (λ l less. all l (omega (arith, less)))) in
          omega (arith, is, both);
    }

abbrev pub file_of : Vec Body Global → List BodyView
file_of bodies = bodies_in bodies.items

pub goes_on : (files : List (Vec Body Global)) (i top now : ℕ) (bodies d : Vec Body Global) → i < length files → bodies ≡ get_or files i d
    → now ≡ max (top_in (file_of bodies)) top → IsTopSoFar (map file_of files) i top → IsTopSoFar (map file_of files) (i + 1) now
goes_on files i top now bodies d more is now_is so_far =
    let here : file_of bodies ≡ bodies_at (map file_of files) i = ap file_of is ∙ sym (get_or-map file_of files i d [] more) in
    one_more (map file_of files) i top now (now_is ∙ ap (λ (bs : List BodyView). max (top_in bs) top) here) so_far

all_tops : (s : Sizes) (seed : ℕ) (strings : List (List ℕ)) (files : List (List BodyView)) → AreFiles s seed strings files
    → (l : ℕ) → l < length files → IsTopIn (bodies_at files l) (top_in (bodies_at files l))
all_tops s seed strings files are l less =
    let is = are.each l (subst (λ (n : ℕ). l < n) are.count less) in
    let h = header_view l (length strings) s seed in
    let last = some_of (bodies_after h start (bodies_at files l)) is.lawful in
    tops h (bodies_at files l) last.0 last.1

pub ends : (files : List (List BodyView)) (i top : ℕ) → length files ≤ i → i ≤ length files
    → ((s : Sizes) × (seed : ℕ) × (strings : List (List ℕ)) × AreFiles s seed strings files) → IsTopSoFar files i top → IsTopOfAll files top
ends files i top over within lawful so_far =
    let each : (l : ℕ) → l < length files → IsTopIn (bodies_at files l) top
    = (λ l less. later (bodies_at files l) (top_in (bodies_at files l)) top (so_far.above l (omega (arith, less, over)))
    (all_tops lawful.0 lawful.1 lawful.2 files lawful.3 l less)) in
    record {
      is_top = record {
        marks = λ l less. (each l less).mark;
        entries = λ l less. (each l less).entries;
        voids = λ l less. (each l less).ends;
      };
      least = λ n is. so_far.least n (λ l less.
          let in_all : l < length files = omega (arith, less, within) in
          max-le (is.marks l in_all) (from_low 0 n (bodies_at files l) (omega arith) (is.entries l in_all)));
    }
