-- What has been read, after the load of one record more.
use Rattle.std.proofs.Common.{◌≡◌, ◌≢◌, ℕ, ◌+◌, ◌<◌, ◌≤◌, [], Some, None, Result, Ok, Err, IfOk, OnErr, cond, length, arith, refl, sym, ap, ◌∙◌, subst, ⊎_elim, slice_index}
use Rattle.std.proofs.lemmas.Bool.{cases_eq}
use Rattle.std.proofs.lemmas.List.{get_or-set_other}
use Rattle.std.specs.Ordering.{nat_cmp, is_eq}
use Rattle.std.specs.BTreeMap.{insert_entry}
use Rattle.money.specs.declared.refusal.Refusal.{Refusal}
use Rattle.readset.proofs.Numbers.{same_test, other_test}
use Rattle.readset.proofs.Lookups.{lookup-insert_entry}
use Rattle.cells.specs.Versions.{StartsWith, EndsWith}
use Rattle.cells.specs.Records.{CellsView, IsOfKind, ReaderView, LoadsRecord, words_of, at}
use Rattle.cells.specs.declared.cells.Version.{Version}
use Rattle.readset.specs.Reads.{ReadSetView, held, Keeps, AreWithin, AreReadOfKind, AreRead}
use Rattle.readset.proofs.WrittenRecords.{length-insert_entry}

same_version : (v w : Version) → Some v ≡ Some w → v ≡ w
same_version v w e = cc

module _ (first old new : ReaderView) (reads more : ReadSetView) (n : ℕ) (v : Version)
    (so_far : AreRead first old reads) (load : LoadsRecord old new n (words_of v)) (named : v.record ≡ n)
    (absent : held reads n ≡ None) (here : held more n ≡ Some v) (others : (m : ℕ) → m ≢ n → held more m ≡ held reads m)
  where
    other_loads : (m : ℕ) → m ≢ n → slice_index new.loads m ≡ slice_index old.loads m
    other_loads m apart = ap (λ loads. slice_index loads m) load.other_loads ∙ get_or-set_other old.loads n m (slice_index new.loads n) 0 apart

    other_seen : (m : ℕ) → m ≢ n → at new.seen m ≡ at old.seen m
    other_seen m apart = ap (λ seen. at seen m) load.others ∙ get_or-set_other old.seen n m (at new.seen n) [] apart

    -- what holds of the record loaded, and of each that was read before, holds of each that is read
    each : (P : ℕ → Version → Type 0) → P n v → ((m : ℕ) (w : Version) → m ≢ n → held reads m ≡ Some w → P m w) → (m : ℕ) (w : Version) → held more m ≡ Some w
        → P m w
    each P loaded before m w found = ⊎_elim
        (λ (e : m ≡ n). subst (λ k. P k w) (sym e) (subst (P n) (same_version v w (sym here ∙ ap (held more) (sym e) ∙ found)) loaded))
        (λ (apart : m ≢ n). before m w apart (sym (others m apart) ∙ found))
        (cases_eq m n)

    -- a record that isn't read is another
    apart_from : (m : ℕ) → held more m ≡ None → (m ≢ n) × (held reads m ≡ None)
    apart_from m none = let apart : m ≢ n = λ e. some_none v (sym here ∙ ap (held more) (sym e) ∙ none) in (apart, sym (others m apart) ∙ none)
      where
        some_none : (w : Version) → Some w ≡ None → ⊥
        some_none w e = cc

    pub load_read : AreRead first new more
    load_read = record {
      cells = load.cells ∙ so_far.cells;
      records = each (λ m w. w.record ≡ m) named (λ m w _ found. so_far.records m w found);
      loads = each (λ m w. slice_index new.loads m ≡ slice_index first.loads m + 1)
          (load.loads ∙ ap (λ k. k + 1) (so_far.other_loads n absent))
          (λ m w apart found. other_loads m apart ∙ so_far.loads m w found);
      grows = each (λ m w. StartsWith (at new.seen m) (at first.seen m))
          (subst (StartsWith (at new.seen n)) (so_far.other_seen n absent) load.grows)
          (λ m w apart found. subst (λ seen. StartsWith seen (at first.seen m)) (sym (other_seen m apart)) (so_far.grows m w found));
      last = each (λ m w. EndsWith (at new.seen m) (words_of w)) load.last
          (λ m w apart found. subst (λ seen. EndsWith seen (words_of w)) (sym (other_seen m apart)) (so_far.last m w found));
      other_loads = λ m none. let u = apart_from m none in other_loads m u.0 ∙ so_far.other_loads m u.1;
      other_seen = λ m none. let u = apart_from m none in other_seen m u.0 ∙ so_far.other_seen m u.1;
    }

-- the same, of a set into which the version loaded is put
pub load_put : (first old new : ReaderView) (reads : ReadSetView) (n : ℕ) (v : Version) → AreRead first old reads → LoadsRecord old new n (words_of v)
    → v.record ≡ n → held reads n ≡ None
    → AreRead first new (insert_entry nat_cmp reads n v)
load_put first old new reads n v so_far load named absent =
    load_read first old new reads (insert_entry nat_cmp reads n v) n v so_far load named absent
    (lookup-insert_entry n n v reads ∙ ap (λ b. cond b (Some v) (held reads n)) (same_test n n refl))
    (λ m apart. lookup-insert_entry m n v reads ∙ ap (λ b. cond b (Some v) (held reads m)) (other_test m n apart))

-- of what a load gives, which tells a version, or of one that had no memory
module _ {Y : Type 0} (f : Y → Version) where
  -- what was read then
  pub load_chain : (first old new : ReaderView) (reads more : ReadSetView) (n : ℕ) (result : Result Y Refusal) → held reads n ≡ None
      → IfOk result (λ y. LoadsRecord old new n (words_of (f y)) × ((f y).record ≡ n))
      → IfOk result (λ y. more ≡ insert_entry nat_cmp reads n (f y))
      → OnErr result (new ≡ old) → OnErr result (more ≡ reads) → AreRead first old reads → AreRead first new more
  load_chain first old new reads more n (Ok y) absent load put unread kept so_far =
      subst (AreRead first new) (sym put) (load_put first old new reads n (f y) so_far load.0 load.1 absent)
  load_chain first old new reads more n (Err e) absent load put unread kept so_far =
      subst (λ (p : ReaderView × ReadSetView). AreRead first p.0 p.1) (λ i. (sym unread i, sym kept i)) so_far

  -- what is held then of a record that wasn't
  pub record IsLoaded (reads more : ReadSetView) (n : ℕ) (result : Result Y Refusal) : Type 0 where
    pub holds : IfOk result (λ y. held more n ≡ Some (f y))
    pub others : (m : ℕ) → m ≢ n → held more m ≡ held reads m
    pub limit : length more ≤ length reads + 1
    pub keeps : Keeps reads more
    pub within : (cells : ℕ) → n < cells → AreWithin cells reads → AreWithin cells more
    pub kinds : (cells : CellsView) → AreReadOfKind cells reads → IfOk result (λ y. IsOfKind cells n (Some (f y).payload)) → AreReadOfKind cells more

  pub loaded : (reads more : ReadSetView) (n : ℕ) (result : Result Y Refusal) → held reads n ≡ None
      → IfOk result (λ y. more ≡ insert_entry nat_cmp reads n (f y)) → OnErr result (more ≡ reads) → IsLoaded reads more n result
  loaded reads more n (Ok y) absent put kept =
      let v = f y in
      let at : (m : ℕ) → held more m ≡ cond (is_eq (nat_cmp m n)) (Some v) (held reads m) =
      λ m. ap (λ (r : ReadSetView). held r m) put ∙ lookup-insert_entry m n v reads in
      let others : (m : ℕ) → m ≢ n → held more m ≡ held reads m = λ m apart. at m ∙ ap (λ b. cond b (Some v) (held reads m)) (other_test m n apart) in
      let here : held more n ≡ Some v = at n ∙ ap (λ b. cond b (Some v) (held reads n)) (same_test n n refl) in
      record {
        holds = here;
        others = others;
        limit = let one = length-insert_entry n v reads in let same : length more ≡ length (insert_entry nat_cmp reads n v) = ap length put in
            omega (arith, one, same);
        keeps = λ m w found. ⊎_elim
            (λ (e : m ≡ n). absurd (none_some w (sym absent ∙ ap (held reads) (sym e) ∙ found)))
            (λ (apart : m ≢ n). others m apart ∙ found)
            (cases_eq m n);
        within = λ cells inside all m w found. ⊎_elim
            (λ (e : m ≡ n). subst (λ k. k < cells) (sym e) inside)
            (λ (apart : m ≢ n). all m w (sym (others m apart) ∙ found))
            (cases_eq m n);
        kinds = λ cells all kind m w found. ⊎_elim
            (λ (e : m ≡ n). subst (λ (k : ℕ × Version). IsOfKind cells k.0 (Some k.1.payload))
            (λ i. (sym e i, same_version v w (sym here ∙ ap (held more) (sym e) ∙ found) i)) kind)
            (λ (apart : m ≢ n). all m w (sym (others m apart) ∙ found))
            (cases_eq m n);
      }
    where
      none_some : (w : Version) → None ≡ Some w → ⊥
      none_some w e = cc
  loaded reads more n (Err refusal) absent put kept =
      subst (λ (r : ReadSetView). IsLoaded reads r n (Err refusal)) (sym kept)
      (record { holds = tt; others = λ m apart. refl; limit = omega arith; keeps = λ m w found. found; within = λ cells inside all. all; kinds = λ cells all kind. all })
