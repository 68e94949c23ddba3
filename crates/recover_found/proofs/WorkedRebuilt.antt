-- Worked log files: what their entries leave in a record, and in which order HISTORY has their rows.
use Rattle.std.proofs.Common.{◌≡◌, ◌⊎◌, inl, inr, ⊎_elim, ℕ, ◌*◌, ◌^◌, false, true≢false, Option, Some, List, [], ◌∷◌, ◌++◌, refl, sym, ap, ◌∙◌, subst, arith}
use Rattle.std.specs.Prelude.{flat_map}
use Rattle.std.specs.List.{Contains}
use Rattle.std.specs.List.Sorted.{IsPermutation}
use Rattle.std.proofs.lemmas.List.Sorted.{IsPermutation-refl, IsPermutation-sym, Contains-permutation}
use Rattle.tables.specs.Sizes.{Sizes, sizes}
use Rattle.tables.specs.Database.{Database}
use Rattle.tables.specs.Rows.{rows}
use Rattle.tables.specs.declared.records.Table.TheVariants as table
use Rattle.encoding.specs.Held.{IsTableRecord}
use Rattle.log_text.specs.Bodies.{BodyView, Entries}
use Rattle.log_text.specs.Entries.{EntryView}
use Rattle.log_text.specs.Writes.{is_history, words_of_value}
use Rattle.log_text.specs.declared.write.Write.{Write}
use Rattle.log_text.specs.declared.write.Value.TheVariants as value
use Rattle.recover_found.specs.Found.{found}
use Rattle.recover_found.specs.Rebuilt.{number_of, LeavesInRecord, IsUpTo, IsUnwritten, AreLeft, history_of_words, added_by, AreInOrder, IsRebuilt}
use Rattle.recover_found.proofs.Elements.{Has, has_from, has_to}
use Rattle.recover_found.proofs.Numbered.{same_order}

abbrev s : Sizes
s = sizes 1 2 10 20 30 1000

-- a commit that leaves its number in record 0, that of warehouse 1, and adds a row with it to HISTORY
abbrev warehouse_write : ℕ → Write
warehouse_write n = record { table = table.Warehouse; place = 0; value = value.Columns (n ∷ []) }

abbrev history_words : ℕ → List ℕ
history_words n = 1 ∷ 1 ∷ 1 ∷ 1 ∷ 1 ∷ 1 ∷ n ∷ []

abbrev history_write : ℕ → Write
history_write n = record { table = table.History; place = 0; value = value.Columns (history_words n) }

abbrev writes : ℕ → List Write
writes n = warehouse_write n ∷ history_write n ∷ []

abbrev commit : ℕ → ℕ → EntryView
commit n tid = record { number = n; tid = tid; terminal = 0; writes = writes n }

leaves : (n tid : ℕ) → LeavesInRecord s (commit n tid) 0 (Some (n ∷ []))
leaves n tid = record {
  write = warehouse_write n;
  among = has_to (writes n) (warehouse_write n) (inl refl);
  of_record = refl;
  number = refl;
  words = refl;
}

-- and leaves nothing else there
leaves_only : (n tid : ℕ) (other : Option (List ℕ)) → LeavesInRecord s (commit n tid) 0 other → other ≡ Some (n ∷ [])
leaves_only n tid other l = by l.write (has_from (writes n) l.write l.among) l.of_record l.words
  where
    by : (w : Write) → Has (writes n) w → is_history w ≡ false → words_of_value w.value ≡ other → other ≡ Some (n ∷ [])
    by w (inl is) of_record words = sym words ∙ ap (λ (x : Write). words_of_value x.value) (sym is)
    by w (inr (inl is)) of_record words = absurd (true≢false (ap is_history is ∙ of_record))
    by w (inr (inr never)) of_record words = absurd never

-- nor anything in record 1, that of a district
leaves_none : (n tid : ℕ) (other : Option (List ℕ)) → LeavesInRecord s (commit n tid) 1 other → ⊥
leaves_none n tid other l = by l.write (has_from (writes n) l.write l.among) l.of_record l.number
  where
    by : (w : Write) → Has (writes n) w → is_history w ≡ false → number_of s w ≡ 1 → ⊥
    by w (inl is) of_record number = let zero_one : 0 ≡ 1 = ap (number_of s) is ∙ number in omega (arith, zero_one)
    by w (inr (inl is)) of_record number = true≢false (ap is_history is ∙ of_record)
    by w (inr (inr never)) of_record number = absurd never

-- ---- what is left of two commits of which the second is the newer, wherever they stand
module _ (m d n e : ℕ) (es : List EntryView) (same : IsPermutation es (commit m d ∷ commit n e ∷ []))
    (older : IsUpTo (commit m d) (commit n e)) (newer : IsUpTo (commit n e) (commit m d) → ⊥) where
  each : (x : EntryView) → Contains es x → (commit m d ≡ x) ⊎ (commit n e ≡ x)
  each x has = by (has_from (commit m d ∷ commit n e ∷ []) x (Contains-permutation es (commit m d ∷ commit n e ∷ []) x same has))
    where
      by : Has (commit m d ∷ commit n e ∷ []) x → (commit m d ≡ x) ⊎ (commit n e ≡ x)
      by (inl is) = inl is
      by (inr (inl is)) = inr is
      by (inr (inr never)) = absurd never

  among : Contains es (commit n e)
  among = Contains-permutation (commit m d ∷ commit n e ∷ []) es (commit n e) (IsPermutation-sym es (commit m d ∷ commit n e ∷ []) same)
      (has_to (commit m d ∷ commit n e ∷ []) (commit n e) (inr (inl refl)))

  left : (first : Option (List ℕ)) → AreLeft s es 0 first (Some (n ∷ []))
  left first = inl (record {
    entry = commit n e;
    among = among;
    leaves = leaves n e;
    newest = λ x other has _. ⊎_elim
        (λ (is : commit m d ≡ x). subst (λ (y : EntryView). IsUpTo y (commit n e)) is older)
        (λ (is : commit n e ≡ x). subst (λ (y : EntryView). IsUpTo y (commit n e)) is (inr (refl, omega arith)))
        (each x has);
  })

  -- and nothing else is
  left_only : (first other : Option (List ℕ)) → AreLeft s es 0 first other → other ≡ Some (n ∷ [])
  left_only first other (inl is) = ⊎_elim
      (λ (old : commit m d ≡ is.entry). absurd (newer (subst (IsUpTo (commit n e)) (sym old) (is.newest (commit n e) (Some (n ∷ [])) among (leaves n e)))))
      (λ (new : commit n e ≡ is.entry). leaves_only n e other (subst (λ (x : EntryView). LeavesInRecord s x 0 other) (sym new) is.leaves))
      (each is.entry is.among)
  left_only first other (inr none) = absurd (none.0 (commit n e) (Some (n ∷ [])) among (leaves n e))

  -- a record that none writes is left as it was, and no other way
  none_leaves : IsUnwritten s es 1
  none_leaves x other has is = ⊎_elim
      (λ (old : commit m d ≡ x). leaves_none m d other (subst (λ (y : EntryView). LeavesInRecord s y 1 other) (sym old) is))
      (λ (new : commit n e ≡ x). leaves_none n e other (subst (λ (y : EntryView). LeavesInRecord s y 1 other) (sym new) is))
      (each x has)

  stays : (first : Option (List ℕ)) → AreLeft s es 1 first first
  stays first = inr (none_leaves, refl)

  stays_only : (first other : Option (List ℕ)) → AreLeft s es 1 first other → other ≡ first
  stays_only first other (inl is) = absurd (none_leaves is.entry other is.among is.leaves)
  stays_only first other (inr none) = none.1

-- ---- two files, which hold commits 1 and 2 the other way round
abbrev file_of : EntryView → List BodyView
file_of e = Entries 5 (e ∷ []) ∷ []

abbrev both : EntryView → EntryView → List EntryView
both d e = found (file_of d ∷ file_of e ∷ [])

exchanged : (d e : EntryView) → IsPermutation (e ∷ d ∷ []) (d ∷ e ∷ [])
exchanged d e = record { moves = (0, 1) ∷ []; below = (omega arith, omega arith, tt); is = refl }

-- of one TID: the greater commit number is the newer
abbrev tid : ℕ
tid = 5 * 2 ^ 32

falling : IsPermutation (both (commit 2 tid) (commit 1 tid)) (commit 1 tid ∷ commit 2 tid ∷ [])
falling = exchanged (commit 1 tid) (commit 2 tid)

rising : IsPermutation (both (commit 1 tid) (commit 2 tid)) (commit 1 tid ∷ commit 2 tid ∷ [])
rising = IsPermutation-refl (commit 1 tid ∷ commit 2 tid ∷ [])

older : IsUpTo (commit 1 tid) (commit 2 tid)
older = inr (refl, omega arith)

newer : IsUpTo (commit 2 tid) (commit 1 tid) → ⊥
newer (inl less) = omega (arith, less)
newer (inr (same, less)) = omega (arith, less)

greater_number : (first : Option (List ℕ)) → AreLeft s (both (commit 2 tid) (commit 1 tid)) 0 first (Some (2 ∷ []))
greater_number = left 1 tid 2 tid (both (commit 2 tid) (commit 1 tid)) falling older newer

greater_number_exchanged : (first : Option (List ℕ)) → AreLeft s (both (commit 1 tid) (commit 2 tid)) 0 first (Some (2 ∷ []))
greater_number_exchanged = left 1 tid 2 tid (both (commit 1 tid) (commit 2 tid)) rising older newer

-- of two TIDs: the greater TID is, whatever the commit numbers
greater_tid : (first : Option (List ℕ)) → AreLeft s (both (commit 2 (4 * 2 ^ 32)) (commit 1 tid)) 0 first (Some (1 ∷ []))
greater_tid = left 2 (4 * 2 ^ 32) 1 tid (both (commit 2 (4 * 2 ^ 32)) (commit 1 tid))
    (IsPermutation-refl (commit 2 (4 * 2 ^ 32) ∷ commit 1 tid ∷ [])) (inl (omega arith)) lower
  where
    lower : IsUpTo (commit 1 tid) (commit 2 (4 * 2 ^ 32)) → ⊥
    lower (inl less) = omega (arith, less)
    lower (inr (same, less)) = omega (arith, same)

-- ---- tables that are rebuilt of commits 1 and 2 with one TID, wherever these stand
module _ (es : List EntryView) (same : IsPermutation es (commit 1 tid ∷ commit 2 tid ∷ [])) where
  in_order : AreInOrder es (commit 1 tid ∷ commit 2 tid ∷ [])
  in_order = record { same = same; numbers = (refl, (refl, tt)) }

  not_in_order : AreInOrder es (commit 2 tid ∷ commit 1 tid ∷ []) → ⊥
  not_in_order is = omega (arith, is.numbers.0)

  module _ (t0 t : Database) (rebuilt : IsRebuilt t0 es t) where
    commits_are : rebuilt.commits ≡ commit 1 tid ∷ commit 2 tid ∷ []
    commits_are = same_order 1 rebuilt.commits (commit 1 tid ∷ commit 2 tid ∷ []) rebuilt.in_order.numbers (refl, (refl, tt))
        (λ e has. has_from (commit 1 tid ∷ commit 2 tid ∷ []) e (Contains-permutation es (commit 1 tid ∷ commit 2 tid ∷ []) e same
        (Contains-permutation rebuilt.commits es e (IsPermutation-sym es rebuilt.commits rebuilt.in_order.same) (has_to rebuilt.commits e has))))
        (λ e has. has_from rebuilt.commits e (Contains-permutation es rebuilt.commits e rebuilt.in_order.same
        (Contains-permutation (commit 1 tid ∷ commit 2 tid ∷ []) es e (IsPermutation-sym es (commit 1 tid ∷ commit 2 tid ∷ []) same)
        (has_to (commit 1 tid ∷ commit 2 tid ∷ []) e has))))

    -- HISTORY has the row of commit 1 and then that of commit 2
    history_is : t.history ≡ t0.history ++ history_of_words (history_words 1) ∷ history_of_words (history_words 2) ∷ []
    history_is = rebuilt.history ∙ ap (λ (l : List EntryView). t0.history ++ flat_map added_by l) commits_are

    -- record 0 has what commit 2 has left
    record_is : t0.scale ≡ s → IsTableRecord t0.scale 0 → rows t 0 ≡ Some (2 ∷ [])
    record_is scale is = left_only 1 tid 2 tid es same older newer (rows t0 0) (rows t 0)
        (subst (λ (x : Sizes). AreLeft x es 0 (rows t0 0) (rows t 0)) scale (rebuilt.records 0 is))
