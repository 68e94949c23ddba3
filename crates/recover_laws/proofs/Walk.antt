-- What a replayed history leaves in the records is what its entries in log files leave.
use Rattle.std.proofs.Common.{◌≡◌, ◌⊎◌, inl, inr, ⊎_elim, ℕ, zero, suc, ◌+◌, ◌<◌, List, [], ◌∷◌, ◌++◌, map, length, Option, Some, None, IsSome, refl, sym, ap, ◌∙◌, subst, arith}
use Rattle.std.specs.Prelude.{flat_map, unwrap_or}
use Rattle.std.specs.List.{All}
use Rattle.std.proofs.lemmas.Grind.{flat_map-append}
use Rattle.std.proofs.lemmas.List.{append-nil, append_assoc, map-append}
use Rattle.std.proofs.lemmas.List.Elements.{All-head, All-tail}
use Rattle.std.proofs.lemmas.Option.{none-some}
use Rattle.tables.specs.Sizes.{Sizes, IsScale}
use Rattle.tables.specs.Database.{Database}
use Rattle.tables.specs.Apply.{after}
use Rattle.tables.specs.Conditions.{IsConsistent}
use Rattle.tables.specs.Constant.{IsOf}
use Rattle.tables.specs.Records.{record_count}
use Rattle.tables.specs.Rows.{rows}
use Rattle.tables.specs.WellFormed.{IsWellFormed, HasRoom, IsHistoryRow}
use Rattle.tables.specs.declared.rows.History.{History}
use Rattle.tables_laws.proofs.Kept.{after-IsWellFormed, after-HasRoom, after-IsConsistent, after-IsOf}
use Rattle.tables_laws.proofs.NamesKept.{IsOf-itself}
use Rattle.encoding.specs.Held.{IsTableRecord}
use Rattle.encoding.proofs.Numbered.{among_all}
use Rattle.readset.specs.Writes.{value_for, rows_with, added}
use Rattle.book.specs.History.{CommitsAt, Replays, replay, rows_added}
use Rattle.book.specs.Loggable.{IsLoggable}
use Rattle.book.specs.Stamps.{Follows, AreStamped}
use Rattle.book.specs.declared.entry.Entry.{Entry}
use Rattle.log_text.specs.Entries.{EntryView}
use Rattle.log_entries.specs.Logged.{logged_entry}
use Rattle.recover_found.specs.Rebuilt.{LeavesInRecord, IsUpTo, IsNewest, AreLeft, added_by}
use Rattle.recover_found.proofs.Elements.{Has, has_from, has_to, has_left, has_right, has_either, mapped, maps}
use Rattle.recover_laws.proofs.Logged.{leaves_value, value_leaves}
use Rattle.recover_laws.proofs.Rows.{added_rows}

-- what holds of all holds of the last ones
all_behind : {X : Type 0} (P : X → Type 0) (xs ys : List X) → All P (xs ++ ys) → All P ys
all_behind P [] ys h = h
all_behind P (x ∷ xs) ys h = all_behind P xs ys (All-tail P x (xs ++ ys) h)

-- each entry follows all that stand before it
follows_front : (done : List Entry) (e : Entry) (es : List Entry) → AreStamped (done ++ e ∷ es) → (d : Entry) → Has done d → Follows d e
follows_front [] e es h d never = elim never [ ]
follows_front (x ∷ done) e es h d (inl same) = subst (λ (z : Entry). Follows z e) same (from_all done h.1)
  where
    from_all : (xs : List Entry) → All (Follows x) (xs ++ e ∷ es) → Follows x e
    from_all [] all = All-head (Follows x) e es all
    from_all (y ∷ xs) all = from_all xs (All-tail (Follows x) y (xs ++ e ∷ es) all)
follows_front (x ∷ done) e es h d (inr k) = follows_front done e es h.2 d k

module _ (t0 : Database) (scale : IsScale t0.scale) where
  abbrev logged : List Entry → List EntryView
  logged es = map (logged_entry t0.scale) es

  logged_push : (es : List Entry) (e : Entry) → logged (es ++ e ∷ []) ≡ logged es ++ logged_entry t0.scale e ∷ []
  logged_push es e = map-append (logged_entry t0.scale) es (e ∷ [])

  -- the tables that some entries lead to, with room for so many commits more
  pub record IsReached (room : ℕ) (done : List Entry) (t : Database) : Type 0 where
    pub of : IsOf t0 t
    pub well_formed : IsWellFormed t
    pub consistent : IsConsistent t
    pub room_left : HasRoom room t
    pub loggable : (e : Entry) → Has done e → IsLoggable t0.scale e
    pub left : (n : ℕ) → IsTableRecord t0.scale n → AreLeft t0.scale (logged done) n (rows t0 n) (rows t n)
    pub listed : flat_map added_by (logged done) ≡ rows_added done

  module _ (room : ℕ) (done : List Entry) (t : Database) (here : IsReached (room + 1) done t) (e : Entry) (ok : IsLoggable t0.scale e)
      (commits : CommitsAt t e.input e.writes e.reply) (follows : (d : Entry) → Has done d → Follows d e) where
    abbrev s : Sizes
    s = t0.scale

    abbrev next : Database
    next = after t e.input

    next_of : IsOf t0 next
    next_of = after-IsOf t0 t e.input here.of

    next_well_formed : IsWellFormed next
    next_well_formed = after-IsWellFormed t e.input room commits.input commits.commit.numbered here.well_formed here.consistent here.room_left

    -- whoever writes a record is an earlier entry or this one
    who : (n : ℕ) (d : EntryView) (other : Option (List ℕ)) → Has (logged done ++ logged_entry s e ∷ []) d → LeavesInRecord s d n other
        → ((x : Entry) × Has done x × (logged_entry s x ≡ d) × (value_for x.writes n ≡ Some other)) ⊎ ((logged_entry s e ≡ d) × (value_for e.writes n ≡ Some other))
    who n d other h leaves =
        ⊎_elim (λ k. let found = mapped (logged_entry s) done d k in
        inl (
          found.0,
          found.1,
          found.2,
          leaves_value s scale found.0 (here.loggable found.0 found.1) n other
              (subst (λ (z : EntryView). LeavesInRecord s z n other) (sym found.2) leaves),
        ))
        (λ k. inr (last k)) (has_either (logged done) (logged_entry s e ∷ []) d h)
      where
        last : Has (logged_entry s e ∷ []) d → (logged_entry s e ≡ d) × (value_for e.writes n ≡ Some other)
        last (inl same) = (same, leaves_value s scale e ok n other (subst (λ (z : EntryView). LeavesInRecord s z n other) (sym same) leaves))
        last (inr never) = absurd never

    -- a record that this entry writes
    written : (n : ℕ) (value : Option (List ℕ)) → value_for e.writes n ≡ Some value → IsNewest s (logged (done ++ e ∷ [])) n value
    written n value here_is = subst (λ (l : List EntryView). IsNewest s l n value) (sym (logged_push done e)) (record {
      entry = logged_entry s e;
      among = has_to _ _ (has_right (logged done) _ _ (inl refl));
      leaves = value_leaves s scale e ok n value here_is;
      newest = λ d other among leaves. ⊎_elim
          (λ x. subst (λ (z : EntryView). IsUpTo z (logged_entry s e)) x.2
          (inl ((follows x.0 x.1).records n (subst IsSome (sym x.3) refl) (subst IsSome (sym here_is) refl))))
          (λ x. subst (λ (z : EntryView). IsUpTo z (logged_entry s e)) x.0 (inr (refl, omega arith)))
          (who n d other (has_from _ d among) leaves);
    })

    -- a record that it doesn't write
    stays : (n : ℕ) (first value : Option (List ℕ)) → value_for e.writes n ≡ None → AreLeft s (logged done) n first value
        → AreLeft s (logged (done ++ e ∷ [])) n first value
    stays n first value none left = subst (λ (l : List EntryView). AreLeft s l n first value) (sym (logged_push done e))
        (⊎_elim (λ newest. inl (newest_still newest)) (λ unwritten. inr (
          (λ d other among leaves.
              ⊎_elim (λ x. unwritten.0 d other (has_to _ d (subst (Has (logged done)) x.2 (maps (logged_entry s) done x.0 x.1))) leaves)
              (λ x. never x.1) (who n d other (has_from _ d among) leaves)),
          unwritten.1,
        )) left)
      where
        never : {other : Option (List ℕ)} → value_for e.writes n ≡ Some other → ⊥
        never found = none-some _ (sym none ∙ found)

        newest_still : IsNewest s (logged done) n value → IsNewest s (logged done ++ logged_entry s e ∷ []) n value
        newest_still w = record {
          entry = w.entry;
          among = has_to _ _ (has_left (logged done) _ _ (has_from _ _ w.among));
          leaves = w.leaves;
          newest = λ d other among leaves. ⊎_elim
              (λ x. w.newest d other (has_to _ d (subst (Has (logged done)) x.2 (maps (logged_entry s) done x.0 x.1))) leaves)
              (λ x. absurd (never x.1)) (who n d other (has_from _ d among) leaves);
        }

    left_next : (n : ℕ) → IsTableRecord s n → AreLeft s (logged (done ++ e ∷ [])) n (rows t0 n) (rows next n)
    left_next n h =
        let same : rows next n ≡ rows_with e.writes (rows t) n
        = commits.commit.rows n (subst (λ (z : Sizes). n < record_count z) (sym here.of.scale) (among_all s n h)) in
        elim (value_for e.writes n) as (λ o. value_for e.writes n ≡ o → AreLeft s (logged (done ++ e ∷ [])) n (rows t0 n) (rows next n)) [
          | None ↦ λ none. subst (AreLeft s (logged (done ++ e ∷ [])) n (rows t0 n)) (sym (same ∙ ap (λ o. unwrap_or o (rows t n)) none))
              (stays n (rows t0 n) (rows t n) none (here.left n h))
          | Some value ↦ λ found. subst (AreLeft s (logged (done ++ e ∷ [])) n (rows t0 n)) (sym (same ∙ ap (λ o. unwrap_or o (rows t n)) found))
              (inl (written n value found))
        ] refl

    row_is : All (IsHistoryRow s) (added e.writes.history_row)
    row_is = all_behind (IsHistoryRow s) t.history (added e.writes.history_row)
        (subst (λ (z : Sizes). All (IsHistoryRow z) (t.history ++ added e.writes.history_row)) next_of.scale
        (subst (λ (l : List History). All (IsHistoryRow next.scale) l) commits.commit.history next_well_formed.history_rows))

    added_next : flat_map added_by (logged (done ++ e ∷ [])) ≡ rows_added (done ++ e ∷ [])
    added_next =
        ap (flat_map added_by) (logged_push done e)
        ∙ flat_map-append added_by (logged done) (logged_entry s e ∷ [])
        ∙ (λ i. here.listed i ++ (added_rows s scale e ok row_is i ++ []))
        ∙ sym (flat_map-append (λ (x : Entry). added x.writes.history_row) done (e ∷ []))

    pub reached_next : IsReached room (done ++ e ∷ []) next
    reached_next = record {
      of = next_of;
      well_formed = next_well_formed;
      consistent = after-IsConsistent t e.input commits.input here.well_formed here.consistent;
      room_left = after-HasRoom t e.input room commits.input here.well_formed here.room_left;
      loggable = λ d h. ⊎_elim (λ k. here.loggable d k) (λ k. last d k) (has_either done (e ∷ []) d h);
      left = left_next;
      listed = added_next;
    }
      where
        last : (d : Entry) → Has (e ∷ []) d → IsLoggable t0.scale d
        last d (inl same) = subst (IsLoggable t0.scale) same ok
        last d (inr never) = absurd never

  -- entry by entry
  walk : (k more : ℕ) (done es : List Entry) (t : Database) → IsReached (length es + more) done t → Replays k t es → AreStamped (done ++ es)
      → All (IsLoggable t0.scale) es → IsReached more (done ++ es) (replay t es)
  walk k more done [] t here replays stamped ok =
      subst (λ (l : List Entry). IsReached more l t) (sym (append-nil done)) (subst (λ (n : ℕ). IsReached n done t) (zero_more more) here)
    where
      zero_more : (m : ℕ) → zero + m ≡ m
      zero_more m = omega arith
  walk k more done (e ∷ es) t here replays stamped ok =
      let now = reached_next (length es + more) done t (subst (λ (n : ℕ). IsReached n done t) (one_more (length es) more) here) e
      (All-head (IsLoggable t0.scale) e es ok) replays.1 (follows_front done e es stamped) in
      subst (λ (l : List Entry). IsReached more l (replay t (e ∷ es))) (append_assoc done (e ∷ []) es)
      (walk (k + 1) more (done ++ e ∷ []) es (after t e.input) now replays.2 (subst AreStamped (sym (append_assoc done (e ∷ []) es)) stamped)
      (All-tail (IsLoggable t0.scale) e es ok))
    where
      one_more : (n m : ℕ) → suc n + m ≡ n + m + 1
      one_more n m = omega arith

  begins : (n : ℕ) → IsWellFormed t0 → IsConsistent t0 → HasRoom n t0 → IsReached n [] t0
  begins n wf con room = record {
    of = IsOf-itself t0;
    well_formed = wf;
    consistent = con;
    room_left = room;
    loggable = λ e never. absurd never;
    left = λ m h. inr ((λ d other among leaves. absurd (has_from [] d among)), refl);
    listed = refl;
  }

  -- from the first tables on
  pub reached : (more : ℕ) (es : List Entry) → IsWellFormed t0 → IsConsistent t0 → HasRoom (length es + more) t0 → Replays 1 t0 es → AreStamped es
      → All (IsLoggable t0.scale) es → IsReached more es (replay t0 es)
  reached more es wf con room replays stamped ok = walk 1 more [] es t0 (begins (length es + more) wf con room) replays stamped ok
