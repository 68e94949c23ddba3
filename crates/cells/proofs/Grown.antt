-- A reader has seen what it had seen, and perhaps more.
use Rattle.std.proofs.Common.{◌≡◌, ◌≢◌, ℕ, List, [], ◌++◌, ⊎_elim, refl, sym, ap, ◌∙◌, subst, set}
use Rattle.std.proofs.lemmas.Bool.{cases_eq}
use Rattle.std.proofs.lemmas.List.{get_or-set_other, append_assoc}
use Rattle.cells.specs.Versions.{StartsWith}
use Rattle.cells.specs.Records.{PenView, ReaderView, at, LoadsRecord, LearnsRecord, HasGrown}
use Rattle.cells.proofs.Rising.{starts_self}

pub starts_starts : (a b c : List (List ℕ)) → StartsWith a b → StartsWith b c → StartsWith a c
starts_starts a b c f g = (g.0 ++ f.0, f.1 ∙ ap (λ (l : List (List ℕ)). l ++ f.0) g.1 ∙ append_assoc c g.0 f.0)

pub grown_itself : (r : ReaderView) → HasGrown r r
grown_itself r = record { cells = refl; grows = λ n. starts_self (at r.seen n) }

pub grown_twice : (r s t : ReaderView) → HasGrown r s → HasGrown s t → HasGrown r t
grown_twice r s t g h = record {
  cells = h.cells ∙ g.cells;
  grows = λ n. starts_starts (at t.seen n) (at s.seen n) (at r.seen n) (h.grows n) (g.grows n);
}

-- one record's versions may have grown
module _ (r0 r s : ReaderView) (n : ℕ) (h : HasGrown r0 r) (cells : s.cells ≡ r.cells) (others : s.seen ≡ set r.seen n (at s.seen n))
    (grows : StartsWith (at s.seen n) (at r.seen n)) where
  pub grown_more : HasGrown r0 s
  grown_more = record {
    cells = cells ∙ h.cells;
    grows = λ m. ⊎_elim
        (λ (e : m ≡ n). subst (λ k. StartsWith (at s.seen k) (at r0.seen k)) (sym e)
        (starts_starts (at s.seen n) (at r.seen n) (at r0.seen n) grows (h.grows n)))
        (λ (e : m ≢ n). subst (λ (l : List (List ℕ)). StartsWith l (at r0.seen m))
        (sym (ap (λ (l : List (List (List ℕ))). at l m) others ∙ get_or-set_other r.seen n m (at s.seen n) [] e)) (h.grows m))
        (cases_eq m n);
  }

pub learns_grown : (pen : PenView) (r0 r s : ReaderView) (n : ℕ) → HasGrown r0 r → LearnsRecord pen r s n → HasGrown r0 s
learns_grown pen r0 r s n h l = grown_more r0 r s n h l.cells l.others (subst (λ (all : List (List ℕ)). StartsWith all (at r.seen n)) (sym l.learnt) l.grows)

pub reads_grown : (r s : ReaderView) (n : ℕ) (version : List ℕ) → LoadsRecord r s n version → HasGrown r s
reads_grown r s n version l = grown_more r r s n (grown_itself r) l.cells l.others l.grows
