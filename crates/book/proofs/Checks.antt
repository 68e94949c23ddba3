-- The comparison of the versions read with their records' latest.
use Rattle.std.proofs.Common.{◌≡◌, ◌≢◌, ℕ, ◌<◌, inl, inr, Some, List, [], ◌∷◌, get_or, refl, sym, ap, ◌∙◌, subst, arith}
use Rattle.std.specs.Prelude.{max}
use Rattle.std.specs.List.{All}
use Rattle.std.specs.Ordering.{nat_cmp, is_eq}
use Rattle.std.proofs.lemmas.List.Elements.{All-head, All-tail, All-cons, All-nil, All-contains}
use Rattle.std.proofs.lemmas.Map.Views.{Contains-from_lookup}
use Rattle.tidword.specs.TidWord.{tid_of}
use Rattle.tidword.proofs.Sequences.{max_is}
use Rattle.cells.specs.Versions.{EndsWith, Has, last_tid}
use Rattle.cells.specs.Records.{CellsView, PenView, ReaderView, at, cell_count, words_of, LearnsRecord, HasGrown}
use Rattle.cells.proofs.Rising.{has_more}
use Rattle.cells.proofs.Grown.{grown_itself, learns_grown}
use Rattle.cells.specs.declared.cells.Version.{Version}
use Rattle.readset.specs.Reads.{ReadSetView, held}
use Rattle.readset.proofs.Numbers.{same_number}
use Rattle.book.specs.Stamps.{greatest_tid}
use Rattle.book.specs.Book.{AreLatest, HasConflict, IsReadBy, IsRead}

-- the entry at a place, where there is one
abbrev pub entry : ReadSetView → ℕ → ℕ × Version
entry reads i = get_or reads i (0, record { «record» = 0; word = 0; payload = [] })

abbrev IsFound : ReadSetView → ℕ × Version → Type 0
IsFound reads e = held reads e.0 ≡ Some e.1

abbrev IsLatest : List (List (List ℕ)) → ℕ × Version → Type 0
IsLatest all e = EndsWith (at all e.0) (words_of e.1)

-- the versions before the rest were compared, and are the latest; the greatest TID so far
pub record AreCompared (pen0 : PenView) (r0 : ReaderView) (reads : ReadSetView) (pen : PenView) (r : ReaderView) (rest : ReadSetView) (greatest : ℕ) : Type 0
  where
    pub same : pen ≡ pen0
    pub grown : HasGrown r0 r
    pub found : All (IsFound reads) rest
    pub latest : All (IsLatest pen0.all) rest → All (IsLatest pen0.all) reads
    pub greatest_is : max greatest (greatest_tid rest) ≡ greatest_tid reads
    pub is_read : IsRead reads greatest

pub begins : (pen0 : PenView) (r0 : ReaderView) (reads rest : ReadSetView) → rest ≡ reads → All (IsFound reads) reads → AreCompared pen0 r0 reads pen0 r0 rest 0
begins pen0 r0 reads rest e found = record {
  same = refl;
  grown = grown_itself r0;
  found = subst (All (IsFound reads)) (sym e) found;
  latest = subst (All (IsLatest pen0.all)) e;
  greatest_is = from_zero (greatest_tid rest) ∙ ap greatest_tid e;
  is_read = inl refl;
}
  where
    from_zero : (n : ℕ) → max 0 n ≡ n
    from_zero n = omega arith

-- the larger of the greatest so far and of one more
larger : (a b c : ℕ) → max (max a b) c ≡ max b (max a c)
larger a b c = omega arith

module _ (cells : CellsView) (pen0 : PenView) (r0 : ReaderView) (reads : ReadSetView) (by : IsReadBy cells r0 reads) (pen : PenView) (r : ReaderView)
    (rest : ReadSetView) (greatest : ℕ) (c : AreCompared pen0 r0 reads pen r rest greatest)
    (n : ℕ) (v : Version) (next : ReadSetView) (steps : rest ≡ (n, v) ∷ next) where
  here : held reads n ≡ Some v
  here = All-head (IsFound reads) (n, v) next (subst (All (IsFound reads)) steps c.found)

  record_is : v.record ≡ n
  record_is = by.records n v here

  within : v.record < cell_count cells
  within = subst (λ m. m < cell_count cells) (sym record_is) (by.within n v here)

  seen : Has (at r.seen v.record) (words_of v)
  seen = subst (λ m. Has (at r.seen m) (words_of v)) (sym record_is) (has_more (at r.seen n) (at r0.seen n) (words_of v) (c.grown.grows n) (by.seen n v here))

  -- what is asked of its record, and what is said then
  module _ (number word : ℕ) (named : number ≡ v.record) (worded : word ≡ v.word) where
    pub is_record : number < cell_count cells
    is_record = subst (λ m. m < cell_count cells) (sym named) within

    pub has : Has (at r.seen number) (word ∷ v.payload)
    has = subst (λ (q : ℕ × ℕ). Has (at r.seen q.0) (q.1 ∷ v.payload)) (λ i. (sym named i, sym worded i)) seen

    pub learns_as : (r' : ReaderView) → LearnsRecord pen r r' number → LearnsRecord pen r r' v.record
    learns_as r' = subst (LearnsRecord pen r r') named

    pub latest_as : EndsWith (at pen.all number) (word ∷ v.payload) → EndsWith (at pen.all v.record) (words_of v)
    latest_as = subst (λ (q : ℕ × ℕ). EndsWith (at pen.all q.0) (q.1 ∷ v.payload)) (λ i. (named i, worded i))

    pub other_as : tid_of word ≢ last_tid (at pen.all number) → tid_of v.word ≢ last_tid (at pen.all v.record)
    other_as = subst (λ (q : ℕ × ℕ). tid_of q.1 ≢ last_tid (at pen.all q.0)) (λ i. (named i, worded i))

  module _ (pen' : PenView) (r' : ReaderView) (same : pen' ≡ pen) (learns : LearnsRecord pen r r' v.record) where
    pub grown : HasGrown r0 r'
    grown = learns_grown pen r0 r r' v.record c.grown learns

    -- a version that isn't the latest
    pub conflict : tid_of v.word ≢ last_tid (at pen.all v.record) → HasConflict pen0.all reads
    conflict other = (n, v, here, subst (λ (m : ℕ × PenView). tid_of v.word ≢ last_tid (at m.1.all m.0)) (λ i. (record_is i, c.same i)) other)

    -- one that is
    pub goes_on : EndsWith (at pen.all v.record) (words_of v) → (greatest' : ℕ) → greatest' ≡ max (tid_of v.word) greatest
        → AreCompared pen0 r0 reads pen' r' next greatest'
    goes_on latest greatest' is = record {
      same = same ∙ c.same;
      grown = grown;
      found = All-tail (IsFound reads) (n, v) next (subst (All (IsFound reads)) steps c.found);
      latest = λ h. c.latest (subst (All (IsLatest pen0.all)) (sym steps)
          (All-cons (IsLatest pen0.all) (n, v) next (subst (λ (m : ℕ × PenView). EndsWith (at m.1.all m.0) (words_of v)) (λ i. (record_is i, c.same i)) latest)
          h));
      greatest_is = ap (λ m. max m (greatest_tid next)) is ∙ larger (tid_of v.word) greatest (greatest_tid next)
          ∙ ap (λ (q : ReadSetView). max greatest (greatest_tid q)) (sym steps) ∙ c.greatest_is;
      is_read = subst (IsRead reads) (sym is) (max_is (IsRead reads) (tid_of v.word) greatest (inr (n, v, here, refl)) c.is_read);
    }

pub all_latest : (pen0 : PenView) (r0 : ReaderView) (reads : ReadSetView) (pen : PenView) (r : ReaderView) (rest : ReadSetView) (greatest : ℕ)
    → AreCompared pen0 r0 reads pen r rest greatest → rest ≡ [] → AreLatest pen0.all reads
all_latest pen0 r0 reads pen r rest greatest c none n v e =
    All-contains (IsLatest pen0.all) reads (n, v) (c.latest (subst (All (IsLatest pen0.all)) (sym none) (All-nil (IsLatest pen0.all))))
    (Contains-from_lookup {eq = λ x y. is_eq (nat_cmp x y)} same_number n v reads e)

pub all_greatest : (pen0 : PenView) (r0 : ReaderView) (reads : ReadSetView) (pen : PenView) (r : ReaderView) (rest : ReadSetView) (greatest : ℕ)
    → AreCompared pen0 r0 reads pen r rest greatest → rest ≡ [] → greatest ≡ greatest_tid reads
all_greatest pen0 r0 reads pen r rest greatest c none = no_more greatest ∙ ap (λ (q : ReadSetView). max greatest (greatest_tid q)) (sym none) ∙ c.greatest_is
  where
    no_more : (n : ℕ) → n ≡ max n 0
    no_more n = omega arith
