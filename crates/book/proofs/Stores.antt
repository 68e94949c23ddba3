-- The stores of a commit, record by record.
use Rattle.std.proofs.Common.{◌≡◌, ◌≢◌, ℕ, ◌<◌, ◌≤◌, inl, inr, length, true≢false, cond, Option, Some, None, IsSome, is_some, List, [], ◌∷◌, ◌++◌, ⊎_elim, refl, sym, ap, ◌∙◌, subst}
use Rattle.std.proofs.lemmas.Bool.{cases_eq, cases_lt}
use Rattle.std.proofs.lemmas.List.{get_or-set_other, append-nil}
use Rattle.std.proofs.lemmas.List.Elements.{All-head, All-tail}
use Rattle.std.specs.Option.{option_map_or}
use Rattle.std.specs.Ordering.{nat_cmp, is_eq}
use Rattle.std.specs.Map.{lookup, keys_of}
use Rattle.std.specs.BTreeMap.{is_at}
use Rattle.std.specs.List.{All, AllByRecursion}
use Rattle.std.specs.List.Sorted.{IsStrictlySortedBy}
use Rattle.std.specs.declared.cmp.Ordering.{Ordering}
use Rattle.std.specs.declared.cmp.Ordering.TheVariants.{Less}
use Rattle.tidword.specs.TidWord.{tid_of}
use Rattle.cells.specs.Versions.{last_tid}
use Rattle.cells.specs.Records.{CellsView, PenView, ReaderView, at, cell_count, IsNarrow, IsWide, StoresVersion, LearnsRecord, HasGrown}
use Rattle.cells.specs.declared.cells.Version.{Version}
use Rattle.cells.proofs.Grown.{grown_itself, learns_grown}
use Rattle.readset.specs.Reads.{ReadSetView, held}
use Rattle.readset.specs.Writes.{WriteSetView, AreWrittenOfKind, value_for}
use Rattle.readset.proofs.NarrowOrWide.{never_both}
use Rattle.readset.specs.Explains.{WritesAreRead}
use Rattle.readset.proofs.Numbers.{same_test, other_test}
use Rattle.book.specs.History.{committed_version, new_versions}
use Rattle.book.specs.Book.{HasSeen, IsReadBy}

abbrev Values : Type 0
Values = List (ℕ × Option (List ℕ))

abbrev find : ℕ → Values → Option (Option (List ℕ))
find n values = lookup (is_at (nat_cmp n)) values

absent : (m : ℕ) (values : Values) → AllByRecursion (λ y. nat_cmp m y ≡ Less) (keys_of values) → find m values ≡ None
absent m [] h = refl
absent m (e ∷ es) h = ap (λ (r : Ordering). cond (is_eq r) (Some e.1) (find m es)) h.0 ∙ absent m es h.1

first_absent : (m : ℕ) (value : Option (List ℕ)) (next : Values) → IsStrictlySortedBy nat_cmp (keys_of ((m, value) ∷ next)) → find m next ≡ None
unfolding IsStrictlySortedBy
first_absent m value next h = absent m next h.0

rest_sorted : (m : ℕ) (value : Option (List ℕ)) (next : Values) → IsStrictlySortedBy nat_cmp (keys_of ((m, value) ∷ next))
    → IsStrictlySortedBy nat_cmp (keys_of next)
unfolding IsStrictlySortedBy
rest_sorted m value next h = h.1

found_first : (n m : ℕ) (value : Option (List ℕ)) (next : Values) → n ≡ m → find n ((m, value) ∷ next) ≡ Some value
found_first n m value next e = ap (λ b. cond b (Some value) (find n next)) (same_test n m e)

found_later : (n m : ℕ) (value : Option (List ℕ)) (next : Values) → n ≢ m → find n ((m, value) ∷ next) ≡ find n next
found_later n m value next e = ap (λ b. cond b (Some value) (find n next)) (other_test n m e)

pub never_none : {X : Type 0} (w : Option X) → w ≡ None → IsSome w → ⊥
never_none w e s = true≢false (sym s ∙ ap is_some e)

-- the writes before the rest are stored, and the reader has seen them
pub record AreStored (tid : ℕ) (pen0 : PenView) (r0 : ReaderView) (writes : WriteSetView) (pen : PenView) (r : ReaderView) (rest : Values) : Type 0 where
  pub own : pen.cells ≡ pen0.cells
  pub grown : HasGrown r0 r
  pub found : All (λ e. value_for writes e.0 ≡ Some e.1) rest
  pub sorted : IsStrictlySortedBy nat_cmp (keys_of rest)
  pub waiting : (n : ℕ) → IsSome (find n rest) → at pen.all n ≡ at pen0.all n
  pub done : (n : ℕ) → find n rest ≡ None → at pen.all n ≡ at pen0.all n ++ new_versions tid writes.values n
  pub seen : (n : ℕ) → find n rest ≡ None → IsSome (value_for writes n) → at r.seen n ≡ at pen.all n

pub begins : (tid : ℕ) (pen0 : PenView) (r0 : ReaderView) (writes : WriteSetView) (rest : Values) → rest ≡ writes.values
    → All (λ e. value_for writes e.0 ≡ Some e.1) writes.values → IsStrictlySortedBy nat_cmp (keys_of writes.values) → AreStored tid pen0 r0 writes pen0 r0 rest
begins tid pen0 r0 writes rest e found sorted = record {
  own = refl;
  grown = grown_itself r0;
  found = subst (All (λ e. value_for writes e.0 ≡ Some e.1)) (sym e) found;
  sorted = subst (λ (q : Values). IsStrictlySortedBy nat_cmp (keys_of q)) (sym e) sorted;
  waiting = λ n h. refl;
  done = λ n h. sym (ap (λ (w : Option (Option (List ℕ))). at pen0.all n ++ option_map_or (λ value. committed_version tid value ∷ []) w [])
      (ap (find n) (sym e) ∙ h) ∙ append-nil (at pen0.all n));
  seen = λ n h s. absurd (never_none (find n rest) h (subst (λ (q : Values). IsSome (find n q)) (sym e) s));
}

held_version : (w : Option Version) → IsSome w → (v : Version) × (w ≡ Some v)
held_version None h = absurd (true≢false (sym h))
held_version (Some v) h = (v, refl)

-- what is written has a cell, since it was read
pub written_within : (cells : CellsView) (r : ReaderView) (reads : ReadSetView) (writes : WriteSetView) → IsReadBy cells r reads → WritesAreRead writes reads
    → (n : ℕ) (value : Option (List ℕ)) → value_for writes n ≡ Some value → n < cell_count cells
written_within cells r reads writes by are_read n value e = let v = held_version (held reads n) (are_read n value e) in by.within n v.0 v.1

module _ (cells : CellsView) (tid : ℕ) (pen0 : PenView) (r0 : ReaderView) (writes : WriteSetView)
    (all_within : (n : ℕ) (value : Option (List ℕ)) → value_for writes n ≡ Some value → n < cell_count cells) (kinds : AreWrittenOfKind cells writes)
    (above : (n : ℕ) (value : Option (List ℕ)) → value_for writes n ≡ Some value → last_tid (at pen0.all n) < tid)
    (pen : PenView) (r : ReaderView) (rest : Values) (c : AreStored tid pen0 r0 writes pen r rest)
    (m : ℕ) (value : Option (List ℕ)) (next : Values) (steps : rest ≡ (m, value) ∷ next) where
  sorted : IsStrictlySortedBy nat_cmp (keys_of ((m, value) ∷ next))
  sorted = subst (λ (q : Values). IsStrictlySortedBy nat_cmp (keys_of q)) steps c.sorted

  pub here : value_for writes m ≡ Some value
  here = All-head (λ e. value_for writes e.0 ≡ Some e.1) (m, value) next (subst (All (λ e. value_for writes e.0 ≡ Some e.1)) steps c.found)

  pub within : m < cell_count cells
  within = all_within m value here

  -- what it is to hold says which kind of record it is
  pub is_narrow : IsNarrow value → m < length cells.narrow
  is_narrow narrow = elim (cases_lt m (length cells.narrow)) [
    | inl small ↦ small
    | inr large ↦ absurd (never_both value narrow ((kinds m value here).wide large))
  ]

  pub is_wide : IsWide value → length cells.narrow ≤ m
  is_wide wide = elim (cases_lt m (length cells.narrow)) [
    | inl small ↦ absurd (never_both value ((kinds m value here).narrow small) wide)
    | inr large ↦ large
  ]

  fresh : at pen.all m ≡ at pen0.all m
  fresh = c.waiting m (ap is_some (ap (find m) steps ∙ found_first m m value next refl))

  pub larger : (word : ℕ) → tid_of word ≡ tid → last_tid (at pen.all m) < tid_of word
  larger word e = subst (λ (q : List (List ℕ) × ℕ). last_tid q.0 < q.1) (λ i. (sym fresh i, sym e i)) (above m value here)

  module _ (version : List ℕ) (version_is : version ≡ committed_version tid value) (pen' pen'' : PenView) (r' : ReaderView)
      (wrote : StoresVersion pen pen' m version) (same : pen'' ≡ pen') (learns : LearnsRecord pen' r r' m) where
    other : (n : ℕ) → n ≢ m → at pen''.all n ≡ at pen.all n
    other n e = ap (λ (w : PenView). at w.all n) same ∙ ap (λ (l : List (List (List ℕ))). at l n) wrote.others
        ∙ get_or-set_other pen.all m n (at pen'.all m) [] e

    other_seen : (n : ℕ) → n ≢ m → at r'.seen n ≡ at r.seen n
    other_seen n e = ap (λ (l : List (List (List ℕ))). at l n) learns.others ∙ get_or-set_other r.seen m n (at r'.seen m) [] e

    here_now : at pen''.all m ≡ at pen0.all m ++ committed_version tid value ∷ []
    here_now = ap (λ (w : PenView). at w.all m) same ∙ wrote.last ∙ (λ i. fresh i ++ version_is i ∷ [])

    later : (n : ℕ) → n ≢ m → find n next ≡ find n rest
    later n e = sym (ap (find n) steps ∙ found_later n m value next e)

    pub goes_on : AreStored tid pen0 r0 writes pen'' r' next
    goes_on = record {
      own = ap (λ (w : PenView). w.cells) same ∙ wrote.cells ∙ c.own;
      grown = learns_grown pen' r0 r r' m c.grown learns;
      found = All-tail (λ e. value_for writes e.0 ≡ Some e.1) (m, value) next (subst (All (λ e. value_for writes e.0 ≡ Some e.1)) steps c.found);
      sorted = rest_sorted m value next sorted;
      waiting = λ n h. ⊎_elim
          (λ (e : n ≡ m). absurd (never_none (find n next) (ap (λ q. find q next) e ∙ first_absent m value next sorted) h))
          (λ (e : n ≢ m). other n e ∙ c.waiting n (subst IsSome (later n e) h))
          (cases_eq n m);
      done = λ n h. ⊎_elim
          (λ (e : n ≡ m). subst (λ q. at pen''.all q ≡ at pen0.all q ++ new_versions tid writes.values q) (sym e)
          (here_now ∙ sym (ap (λ (w : Option (Option (List ℕ))). at pen0.all m ++ option_map_or (λ x. committed_version tid x ∷ []) w []) here)))
          (λ (e : n ≢ m). other n e ∙ c.done n (sym (later n e) ∙ h))
          (cases_eq n m);
      seen = λ n h s. ⊎_elim
          (λ (e : n ≡ m). subst (λ q. at r'.seen q ≡ at pen''.all q) (sym e) (learns.learnt ∙ ap (λ (w : PenView). at w.all m) (sym same)))
          (λ (e : n ≢ m). other_seen n e ∙ c.seen n (sym (later n e) ∙ h) s ∙ sym (other n e))
          (cases_eq n m);
    }

pub all_done : (tid : ℕ) (pen0 : PenView) (r0 : ReaderView) (writes : WriteSetView) (pen : PenView) (r : ReaderView) (rest : Values)
    → AreStored tid pen0 r0 writes pen r rest → rest ≡ []
    → (n : ℕ) → at pen.all n ≡ at pen0.all n ++ new_versions tid writes.values n
all_done tid pen0 r0 writes pen r rest c none n = c.done n (ap (find n) none)

pub all_seen : (tid : ℕ) (pen0 : PenView) (r0 : ReaderView) (writes : WriteSetView) (pen : PenView) (r : ReaderView) (rest : Values)
    → AreStored tid pen0 r0 writes pen r rest → rest ≡ [] → HasSeen r pen writes
all_seen tid pen0 r0 writes pen r rest c none n value e = c.seen n (ap (find n) none) (ap is_some e)
